-- What each queue holds, the first to come out first, and how many there are of what room.
use Rattle.std.specs.Prelude.{ℕ, cond, List, [], length, nat_le, slice_index_or}
use Rattle.theory.specs.Functions.{masked}
use Rattle.theory.specs.Lists.{parts}
use Rattle.queue.specs.Rings.{items, no_ring}
use Rattle.queue.specs.declared.queues.Queues.{Queues}
use Rattle.queue.specs.declared.ring.Ring.{Ring}

-- how many queues a layout has among so many places: none where it was made for more
unfoldable pub counted : ℕ → ℕ → ℕ → ℕ
counted lent count places = cond (nat_le lent places) count 0

module _ {T : Type 0} where
  -- by the rings and the places, at any number
  abbrev pub queue_at : List Ring → ℕ → List T → ℕ → List T
  queue_at rings each xs b = items (parts xs each b) (slice_index_or rings b no_ring)

  abbrev pub count_of : Queues T → ℕ
  count_of q = counted q.layout.lent q.layout.count (length q.places.now)

  abbrev pub each_of : Queues T → ℕ
  each_of q = q.layout.each

  abbrev pub queues : Queues T → ℕ → List T
  queues q = masked (count_of q) [] (queue_at q.layout.rings (each_of q) q.places.now)

  abbrev pub places_len : Queues T → ℕ
  places_len q = length q.places.now
