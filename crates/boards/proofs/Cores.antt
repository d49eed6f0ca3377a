-- A core's boards, and its changes of one board.
use Rattle.std.proofs.Common.{◌≡◌, ℕ, ◌+◌, ◌*◌, ◌<◌, ◌≤◌, length, get_or, set, sym, ap, ◌∙◌, subst, arith}
use Rattle.std.proofs.lemmas.List.{get_or_default}
use Rattle.theory.specs.Functions.{put}
use Rattle.theory.specs.State.{Board, with_boards, change}
use Rattle.theory.specs.Wire.{WireState}
use Rattle.theory.proofs.Functions.{set-put}
use Rattle.theory.proofs.Parts.{ends_within}
use Rattle.theory.proofs.States.{change-change}
use Rattle.boards.specs.declared.inner.Core.{Core}
use Rattle.boards.specs.declared.registers.Registers.{Registers}
use Rattle.boards.specs.Models.{Shows, look, looks, registers_of, no_registers, cells_of, entries_of, free_of, held_of, model, seen, Changed}
use Rattle.boards.proofs.Boards.{board_in, registers_changed}

-- two changes of one board, one after the other
infixl 20 ◌then◌
pub ◌then◌ : {W : Type 0} {means : W → WireState} {p q r : Core W} {b : ℕ} {f g : Board → Board}
    → Changed means p q b f → Changed means q r b g → Changed means p r b (λ x. g (f x))
◌then◌ {means = means} {p = p} {b = b} {f = f} {g = g} h k = record {
  settings = k.settings ∙ h.settings;
  memory = k.memory ∙ h.memory;
  after = k.after ∙ ap (change b g) h.after ∙ change-change b f g (model means p);
}

-- the same change, said in another way for the board as it is
pub changed_alike : {W : Type 0} {means : W → WireState} {p q : Core W} {b : ℕ} {f g : Board → Board}
    → Changed means p q b f → f ((model means p).boards b) ≡ g ((model means p).boards b) → Changed means p q b g
changed_alike {means = means} {p = p} {b = b} h e = record {
  settings = h.settings;
  memory = h.memory;
  after = h.after ∙ ap (λ x. with_boards (put (model means p).boards b x) (model means p)) e;
}

module _ {W : Type 0} (means : W → WireState) (p : Core W) (b : ℕ) (l : b < p.settings.boards) where
  abbrev pub board_of : Board
  board_of = looks (registers_of p.registers) (cells_of p) (entries_of p) (free_of p) (held_of p) b

  pub board_is : (model means p).boards b ≡ board_of
  board_is =
      board_in p.settings (means p.wire) p.lead p.result b l
      (registers_of p.registers) (cells_of p) (entries_of p) (free_of p) (held_of p)

  -- a read of the registers, at whatever default
  pub registers_shown : (d : Registers) → Shows (get_or p.registers b d) ((model means p).boards b)
  registers_shown d =
      let w : b < length p.registers = omega (arith, p.sized.0, p.ranged.0) in
      subst (Shows (get_or p.registers b d)) (sym board_is)
      (ap (λ r. look r (cells_of p b) (entries_of p b) (free_of p b) (held_of p b)) (get_or_default p.registers b d no_registers w))

  -- the part of board b ends within the lent slice
  pub cells_end : b * p.settings.cells + p.settings.cells ≤ length p.cells.now
  cells_end = omega (arith, ends_within b p.settings.boards p.settings.cells l, p.sized.1)

  pub entries_end : b * p.settings.entries + p.settings.entries ≤ length p.entries.now
  entries_end = omega (arith, ends_within b p.settings.boards p.settings.entries l, p.sized.2)

  -- other registers of one board
  pub registers_after : (d y : Registers) (f : Board → Board)
      → look y (cells_of p b) (entries_of p b) (free_of p b) (held_of p b) ≡ f (look (get_or p.registers b d) (cells_of p b) (entries_of p b) (free_of p b) (held_of p b))
      → seen p.settings (means p.wire) p.lead p.result (registers_of (set p.registers b y)) (cells_of p) (entries_of p) (free_of p) (held_of p) ≡ change b f (model means p)
  registers_after d y f here =
      let w : b < length p.registers = omega (arith, p.sized.0, p.ranged.0) in
      registers_changed p.settings (means p.wire) p.lead p.result b l
      (registers_of p.registers) (cells_of p) (entries_of p) (free_of p) (held_of p)
      (registers_of (set p.registers b y)) y f (set-put p.registers b y no_registers w)
      (here ∙ ap (λ r. f (look r (cells_of p b) (entries_of p b) (free_of p b) (held_of p b))) (get_or_default p.registers b d no_registers w))
