use Rattle.std.proofs.Common.{◌≡◌, arith}
use Rattle.wire.specs.Moves.{Ready}
use Rattle.wire.proofs.Moves.{is_ready, rows_none, rows_more, all_moved}
use Rattle.wire.proofs.transfer.transfer.Goals as goal

pub loop-from-init : goal.loop-from-init
loop-from-init g c = rows_none c.boards-boards.result (g.A.Wire.means c.args.source.now) (g.B.Wire.means c.args.target.now)

pub loop-from-preserved : goal.loop-from-preserved
loop-from-preserved g c = rows_more c.boards-boards.result c.loop-from.from _ _ _ _ _ _ c.loop-from.invariant c.move_row.ensures.moved

pub returns-clause-does_its_step : goal.returns-clause-does_its_step
returns-clause-does_its_step g c =
    let s = g.A.Wire.means c.args.source.now in
    let t = g.B.Wire.means c.args.target.now in
    let ready : Ready s t =
    is_ready s t _ _ _ _ _ (g.met.B.Wire.proper c.args.target.now) c.boards-boards.ensures.number c.boards.ensures.number c.capacity.ensures c.total.ensures c.total-2.ensures
    c.if-boards.false c.if-free-total.false in
    let end : c.loop-from.from ≡ s.boards = omega (arith, c.boards-boards.ensures.number, c.loop-from.auto.from-end, c.loop-from-test.false) in
    all_moved s t _ _ _ _ (g.met.A.Wire.proper c.args.source.now) ready end c.boards-boards.ensures.number c.loop-from.invariant
