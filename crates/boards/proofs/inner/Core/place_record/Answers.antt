use Rattle.std.proofs.Common.{ℕ, ◌+◌, set, ap, arith}
use Rattle.theory.specs.declared.memory.Cell.TheVariants.{Value, Ref}
use Rattle.theory.specs.declared.state.Settings.{Settings}
use Rattle.theory.specs.Lists.{tail, wiped}
use Rattle.theory.specs.Make.{unmarked}
use Rattle.theory.specs.State.{Board}
use Rattle.boards.specs.Models.{model}
use Rattle.boards.proofs.Cores.{◌then◌, changed_alike, registers_shown}
use Rattle.boards.proofs.inner.Core.place_record.Goals as goal

-- a new record at a place
abbrev placed : ℕ → ℕ → ℕ → ℕ → Board → ℕ → Board
placed b slot size e x place = record x {
  slots = set x.slots slot (Ref (record { board = b; entry = e }));
  top = place + size;
  cells = wiped x.cells place size (Value 0);
  entries = set x.entries e (unmarked size place);
  free = tail x.free;
}

pub wipe-requires-clause-places : goal.wipe-requires-clause-places
wipe-requires-clause-places g c =
    let top = ap (λ (x : Board). x.top) (registers_shown g.W.Wire.means c.args.self.now c.args.b c.requires.board c.index-self-b.result) in
    omega (arith, top, c.requires.room, ap (λ (t : Settings). t.cells) c.take_free.ensures.settings)

pub overflow_add-place : goal.overflow_add-place
overflow_add-place g c =
    let top = ap (λ (x : Board). x.top) (registers_shown g.W.Wire.means c.args.self.now c.args.b c.requires.board c.index-self-b.result) in
    let ranged = c.args.self.now.ranged in
    omega (arith, top, c.requires.room, ranged)

pub returns : goal.returns
returns g c =
    let a = c.args in
    let at = ap (λ (x : Board). x.top) (registers_shown g.W.Wire.means a.self.now a.b c.requires.board c.index-self-b.result) in
    changed_alike (c.take_free.ensures then c.wipe.ensures then c.put_entry.ensures then c.put_top.ensures then c.put_slot.ensures)
    (ap (placed a.b a.slot a.size a.entry ((model g.W.Wire.means a.self.now).boards a.b)) at)
