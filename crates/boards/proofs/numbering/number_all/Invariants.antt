use Rattle.std.proofs.Common.{◌≡◌, []}
use Rattle.queue.specs.QueuesOf.{queues, count_of, each_of, places_len}
use Rattle.theory.specs.Functions.{masked}
use Rattle.theory.specs.Lists.{below}
use Rattle.boards.proofs.numbering.number_all.Given as goal

abbrev pub invariant-loop-b : goal.invariant-loop-b
invariant-loop-b l =
    (queues l.free ≡ masked l.b [] (λ _. below l.each))
    × (count_of l.free ≡ l.count) × (each_of l.free ≡ l.each) × (places_len l.free ≡ places_len l.initial.free)
