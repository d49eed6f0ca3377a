-- The places of a ring.
use Rattle.std.specs.Prelude.{ℕ, ◌+◌, ◌-◌, cond, nat_lt}

-- the place of the item at i, in a ring of `room` places that begins at `first`
unfoldable pub place_at : ℕ → ℕ → ℕ → ℕ
place_at room first i = cond (nat_lt i (room - first)) (first + i) (i - (room - first))
