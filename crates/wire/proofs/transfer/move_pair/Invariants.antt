use Rattle.std.proofs.Common.{◌≡◌}
use Rattle.wire.proofs.Moves.{left_after, came_after}
use Rattle.wire.proofs.transfer.move_pair.Given as goal

-- so many messages are moved, and the others wait
abbrev pub invariant-loop : goal.invariant-loop
invariant-loop g l =
    let s = g.A.Wire.means l.initial.source in
    let t = g.B.Wire.means l.initial.target in
    (g.A.Wire.means l.source ≡ left_after s l.pair.from l.pair.to l.counter) × (g.B.Wire.means l.target ≡ came_after s t l.pair.from l.pair.to l.counter)
