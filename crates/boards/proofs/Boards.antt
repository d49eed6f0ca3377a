-- A board by its number, and the state after a change of one board: over registers and parts, whatever struct holds them.
use Rattle.std.proofs.Common.{◌≡◌, ℕ, ◌<◌, List, ap, ◌∙◌}
use Rattle.theory.specs.declared.memory.Cell.{Cell}
use Rattle.theory.specs.declared.memory.Entry.{Entry}
use Rattle.theory.specs.declared.message.Held.{Held}
use Rattle.theory.specs.declared.state.Figures.{Figures}
use Rattle.theory.specs.declared.state.Lead.{Lead}
use Rattle.theory.specs.declared.state.Settings.{Settings}
use Rattle.theory.specs.Functions.{put}
use Rattle.theory.specs.State.{State, Board, no_board, with_boards, with_cells, with_entries, with_free, change}
use Rattle.theory.specs.Wire.{WireState}
use Rattle.theory.proofs.Functions.{is_same, is_other, masked_in, masked-change}
use Rattle.boards.specs.declared.registers.Registers.{Registers}
use Rattle.boards.specs.Models.{look, looks, shown, seen}

module _ (t : Settings) (wire : WireState) (lead : Lead) (result : Figures) (b : ℕ) (l : b < t.boards)
    (r : ℕ → Registers) (cs : ℕ → List Cell) (es : ℕ → List Entry) (fs : ℕ → List ℕ) (hs : ℕ → List Held) where
  abbrev this : State
  this = seen t wire lead result r cs es fs hs

  pub board_in : this.boards b ≡ looks r cs es fs hs b
  unfolding shown
  board_in = masked_in t.boards no_board (looks r cs es fs hs) b l

  moved : (q : ℕ → Registers) (ds : ℕ → List Cell) (xs : ℕ → List Entry) (gs : ℕ → List ℕ) (f : Board → Board)
      → ((j : ℕ) → (j ≡ b → ⊥) → looks q ds xs gs hs j ≡ looks r cs es fs hs j) → looks q ds xs gs hs b ≡ f (looks r cs es fs hs b)
      → seen t wire lead result q ds xs gs hs ≡ change b f this
  unfolding shown
  moved q ds xs gs f same here = ap (λ z. with_boards z this) (masked-change t.boards no_board (looks r cs es fs hs) (looks q ds xs gs hs) b f l same here)

  pub cells_changed : (ds : ℕ → List Cell) (f : List Cell → List Cell) → ds ≡ put cs b (f (cs b))
      → seen t wire lead result r ds es fs hs ≡ change b (λ x. with_cells (f x.cells) x) this
  cells_changed ds f e =
      moved r ds es fs (λ x. with_cells (f x.cells) x) (λ j ne. ap (λ z. look (r j) z (es j) (fs j) (hs j)) (is_other cs ds b (f (cs b)) e j ne))
      (ap (λ z. look (r b) z (es b) (fs b) (hs b)) (is_same cs ds b (f (cs b)) e))

  pub entries_changed : (xs : ℕ → List Entry) (f : List Entry → List Entry) → xs ≡ put es b (f (es b))
      → seen t wire lead result r cs xs fs hs ≡ change b (λ x. with_entries (f x.entries) x) this
  entries_changed xs f e =
      moved r cs xs fs (λ x. with_entries (f x.entries) x) (λ j ne. ap (λ z. look (r j) (cs j) z (fs j) (hs j)) (is_other es xs b (f (es b)) e j ne))
      (ap (λ z. look (r b) (cs b) z (fs b) (hs b)) (is_same es xs b (f (es b)) e))

  pub free_changed : (gs : ℕ → List ℕ) (f : List ℕ → List ℕ) → gs ≡ put fs b (f (fs b))
      → seen t wire lead result r cs es gs hs ≡ change b (λ x. with_free (f x.free) x) this
  free_changed gs f e =
      moved r cs es gs (λ x. with_free (f x.free) x) (λ j ne. ap (λ z. look (r j) (cs j) (es j) z (hs j)) (is_other fs gs b (f (fs b)) e j ne))
      (ap (λ z. look (r b) (cs b) (es b) z (hs b)) (is_same fs gs b (f (fs b)) e))

  pub registers_changed : (q : ℕ → Registers) (y : Registers) (f : Board → Board) → q ≡ put r b y → look y (cs b) (es b) (fs b) (hs b) ≡ f (looks r cs es fs hs b)
      → seen t wire lead result q cs es fs hs ≡ change b f this
  registers_changed q y f e here =
      moved q cs es fs f (λ j ne. ap (λ z. look z (cs j) (es j) (fs j) (hs j)) (is_other r q b y e j ne))
      (ap (λ z. look z (cs b) (es b) (fs b) (hs b)) (is_same r q b y e) ∙ here)
