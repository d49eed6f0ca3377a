use Rattle.std.proofs.Common.{◌≡◌, ℕ, ◌+◌, ◌<◌, length}
use Rattle.chains.specs.Linkages.{next_in}
use Rattle.chains.proofs.table.clear.link_in_order.Given as goal

abbrev pub invariant-loop-i : goal.invariant-loop-i
invariant-loop-i l = (length l.links ≡ length l.initial.links) × ((k : ℕ) → k < l.i → next_in l.links k ≡ k + 1)
