use Rattle.wire.specs.Moves.{Moved}
use Rattle.wire.proofs.Rows.{rows}
use Rattle.wire.proofs.transfer.transfer.Given as goal

abbrev pub invariant-loop-from : goal.invariant-loop-from
invariant-loop-from g l =
    let a = g.A.Wire in
    let b = g.B.Wire in
    Moved (rows l.from l.boards) (a.means l.initial.source) (b.means l.initial.target) (a.means l.source) (b.means l.target)
