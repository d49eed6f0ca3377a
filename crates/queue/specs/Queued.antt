-- What a queue holds, the first to come out first, and its room.
use Rattle.std.specs.Prelude.{ℕ, List, length}
use Rattle.queue.specs.Rings.{items_in}
use Rattle.queue.specs.declared.queue.Queue.{Queue}

module _ {T : Type 0} where
  abbrev pub queued : Queue T → List T
  queued q = items_in q.places.now q.ring

  abbrev pub room_of : Queue T → ℕ
  room_of q = length q.places.now
