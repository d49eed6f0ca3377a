use Rattle.std.proofs.Common.{refl}
use Rattle.theory.specs.State.{with_top}
use Rattle.boards.proofs.Cores.{registers_after}
use Rattle.boards.proofs.inner.Core.put_top.Goals as goal

pub returns : goal.returns
returns g c = record {
  settings = refl;
  memory = refl;
  after = registers_after g.W.Wire.means c.args.self.now c.args.b c.requires c.index-self-b.result _ (with_top c.args.v) refl;
}
