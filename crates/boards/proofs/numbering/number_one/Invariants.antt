use Rattle.std.proofs.Common.{◌≡◌}
use Rattle.queue.specs.QueuesOf.{queues, count_of, each_of, places_len}
use Rattle.theory.specs.Functions.{put}
use Rattle.theory.specs.Lists.{below}
use Rattle.boards.proofs.numbering.number_one.Given as goal

abbrev pub invariant-loop-number : goal.invariant-loop-number
invariant-loop-number l =
    (queues l.free ≡ put (queues l.initial.free) l.b (below l.number))
    × (count_of l.free ≡ count_of l.initial.free) × (each_of l.free ≡ each_of l.initial.free) × (places_len l.free ≡ places_len l.initial.free)
