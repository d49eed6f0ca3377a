-- The boards as set-up leaves them.
use Rattle.std.proofs.Common.{mul-one, ◌≡◌, ℕ, ◌*◌, ◌<◌, ◌≤◌, List, [], replicate, ap, ◌∙◌, arith}
use Rattle.std.proofs.lemmas.Nat.{mul-le}
use Rattle.theory.specs.declared.memory.Cell.{Cell}
use Rattle.theory.specs.declared.memory.Cell.TheVariants.{Value}
use Rattle.theory.specs.declared.memory.Entry.{Entry}
use Rattle.theory.specs.declared.message.Held.{Held}
use Rattle.theory.specs.declared.state.Figures.{Figures}
use Rattle.theory.specs.declared.state.Lead.{Lead}
use Rattle.theory.specs.declared.state.Settings.{Settings}
use Rattle.theory.specs.Functions.{masked}
use Rattle.theory.specs.Lists.{parts, below}
use Rattle.theory.specs.SetUp.{fresh, blank, started, no_settings}
use Rattle.theory.specs.State.{State, Board, no_board, no_entry, no_lead, no_figures, with_boards}
use Rattle.theory.specs.Wire.{WireState}
use Rattle.theory.proofs.Functions.{masked_in, masked_same, masked_none}
use Rattle.theory.proofs.Parts.{parts-replicate}
use Rattle.boards.specs.declared.registers.Registers.{Registers}
use Rattle.boards.specs.Models.{looks, shown, seen, registers_of, Bare}

pub own_credit : (credit boards : ℕ) → 1 ≤ boards → credit ≤ credit * boards
own_credit credit boards h = omega (arith, mul-le credit 1 credit boards (omega arith) h, mul-one credit)

-- a board with its memory
abbrev with_memory : List Cell → List Entry → List ℕ → List Held → Board → Board
with_memory cs es fs hs x = record x { cells = cs; entries = es; free = fs; held = hs }

pub shown-fresh : (t : Settings) (r : List Registers) (cs : List Cell) (es : List Entry) (fs : ℕ → List ℕ) (hs : ℕ → List Held) (m k : ℕ)
    → t.boards ≤ 16 → t.boards * t.cells ≤ m → t.boards * t.entries ≤ k
    → ((b : ℕ) → b < 16 → Bare t.credit (t.credit * t.boards) r b)
    → cs ≡ replicate m (Value 0) → es ≡ replicate k no_entry → fs ≡ masked t.boards [] (λ _. below t.entries) → hs ≡ (λ _. [])
    → shown t.boards (registers_of r) (parts cs t.cells) (parts es t.entries) fs hs ≡ masked t.boards no_board (λ _. fresh t)
unfolding shown
shown-fresh t r cs es fs hs m k few hm hk eb ec ee ef eh =
    masked_same t.boards no_board (looks (registers_of r) (parts cs t.cells) (parts es t.entries) fs hs) (λ _. fresh t) (λ b lb.
    let own = eb b (omega arith) in
    let c : parts cs t.cells b ≡ replicate t.cells (Value 0) = ap (λ z. parts z t.cells b) ec ∙ parts-replicate t.boards t.cells b m (Value 0) lb hm in
    let e : parts es t.entries b ≡ replicate t.entries no_entry = ap (λ z. parts z t.entries b) ee ∙ parts-replicate t.boards t.entries b k no_entry lb hk in
    let f : fs b ≡ below t.entries = ap (λ z. z b) ef ∙ masked_in t.boards [] (λ _. below t.entries) b lb in
    let h : hs b ≡ [] = ap (λ z. z b) eh in
    ap (with_memory (parts cs t.cells b) (parts es t.entries b) (fs b) (hs b)) own
    ∙ ap (λ z. with_memory z (parts es t.entries b) (fs b) (hs b) (fresh t)) c
    ∙ ap (λ z. with_memory (replicate t.cells (Value 0)) z (fs b) (hs b) (fresh t)) e
    ∙ ap (λ z. with_memory (replicate t.cells (Value 0)) (replicate t.entries no_entry) z (hs b) (fresh t)) f
    ∙ ap (λ z. with_memory (replicate t.cells (Value 0)) (replicate t.entries no_entry) (below t.entries) z (fresh t)) h)

module _ (t : Settings) (l : Lead) (f : Figures) (r : ℕ → Registers) (cs : ℕ → List Cell) (es : ℕ → List Entry) (fs : ℕ → List ℕ) (hs : ℕ → List Held)
    (el : l ≡ no_lead) (ef : f ≡ no_figures) where
  pub seen-blank : (wire : WireState) → t ≡ no_settings → seen t wire l f r cs es fs hs ≡ blank wire
  unfolding shown
  seen-blank wire et = rw (et, el, ef) (ap (λ z. with_boards z (blank wire)) (masked_none no_board _))

  pub seen-started : (s : State) → shown t.boards r cs es fs hs ≡ masked t.boards no_board (λ _. fresh t) → seen t s.wire l f r cs es fs hs ≡ started t s
  seen-started s e = rw (el, ef) (ap (λ z. with_boards z (started t s)) e)
