use Rattle.wire.specs.Moves.{Moved, row}
use Rattle.wire.proofs.transfer.move_row.Given as goal

abbrev pub invariant-loop-to : goal.invariant-loop-to
invariant-loop-to g l =
    let a = g.A.Wire in
    let b = g.B.Wire in
    Moved (row l.from l.to) (a.means l.initial.source) (b.means l.initial.target) (a.means l.source) (b.means l.target)
