-- What a push makes of a queue of limited room, and its answer.
use Rattle.std.specs.Prelude.{ℕ, Bool, cond, ◌&&◌, List, [], ◌∷◌, ◌++◌, length, Ok, Err, Result, nat_lt}
use Rattle.theory.specs.Functions.{put}
use Rattle.queue.specs.declared.Full.{Full}

abbrev pub push_answer : Bool → Result (Unit {0}) Full
push_answer fits = cond fits (Ok tt) (Err (record {}))

module _ {T : Type 0} where
  abbrev pub has_room : ℕ → List T → Bool
  has_room room xs = nat_lt (length xs) room

  abbrev pub pushed : ℕ → T → List T → List T
  pushed room x xs = cond (has_room room xs) (xs ++ x ∷ []) xs

  -- of queues by number: `count` of them, each with the same room
  abbrev pub has_room_at : ℕ → ℕ → ℕ → (ℕ → List T) → Bool
  has_room_at count each b f = nat_lt b count && has_room each (f b)

  abbrev pub pushed_at : ℕ → ℕ → ℕ → T → (ℕ → List T) → ℕ → List T
  pushed_at count each b x f = cond (has_room_at count each b f) (put f b (f b ++ x ∷ [])) f
