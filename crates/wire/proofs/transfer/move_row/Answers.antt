use Rattle.wire.proofs.Moves.{row_none, row_more}
use Rattle.wire.proofs.transfer.move_row.Goals as goal

pub loop-to-init : goal.loop-to-init
loop-to-init g c = row_none c.args.from (g.A.Wire.means c.args.source.now) (g.B.Wire.means c.args.target.now)

pub loop-to-preserved : goal.loop-to-preserved
loop-to-preserved g c = row_more c.args.from c.loop-to.to _ _ _ _ _ _ c.loop-to.invariant c.move_pair.ensures.moved
