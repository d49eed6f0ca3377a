use Rattle.std.proofs.Common.{refl, set}
use Rattle.theory.specs.State.{with_slots}
use Rattle.boards.proofs.Cores.{registers_after}
use Rattle.boards.proofs.inner.Core.put_slot.Goals as goal

pub returns : goal.returns
returns g c = record {
  settings = refl;
  memory = refl;
  after = registers_after g.W.Wire.means c.args.self.now c.args.b c.requires.board c.index-self-b.result _ (λ x. with_slots (set x.slots c.args.slot c.args.v) x) refl;
}
