-- A step that may refuse: what it leaves, and its answer.
use Rattle.std.specs.Prelude.{Bool, cond, Err, Result}

-- refuses where the test holds and changes nothing, and else goes on
abbrev pub unless : {S A F : Type 0} → Bool → F → S → S × Result A F → S × Result A F
unless test e s next = cond test (s, Err e) next
