-- A ring over a list of places: its items, and what its calls say.
use Rattle.std.specs.Prelude.{◌≡◌, ℕ, ◌+◌, ◌-◌, ◌<◌, cond, List, [], length, ◌==◌}
use Rattle.std.proofs.Common.{zero-le}
use Rattle.theory.specs.Lists.{ring}
use Rattle.queue.specs.Places.{place_at}
use Rattle.queue.specs.declared.ring.Ring.{Ring}

-- the items that a ring has in xs, the first to come out first
abbrev pub items : {T : Type 0} → List T → Ring → List T
items xs r = ring xs r.first r.len

-- the same, and nothing where the ring has another room than xs
unfoldable pub items_in : {T : Type 0} → List T → Ring → List T
items_in xs r = cond (r.room == length xs) (items xs r) []

-- the ring of a number that names none
abbrev pub no_ring : Ring
no_ring = record { first = 0; len = 0; room = 0; within = (zero-le, zero-le) }

-- the item at i of r is at this place
pub record Placed (r : Ring) (i at : ℕ) : Type 0 where
  pub less : i < r.len
  pub place : at ≡ place_at r.room r.first i
  pub within : at < r.room

-- r with one more item, at this place, is s
pub record Pushed (r s : Ring) (at : ℕ) : Type 0 where
  pub less : r.len < r.room
  pub place : at ≡ place_at r.room r.first r.len
  pub within : at < r.room
  pub first : s.first ≡ r.first
  pub len : s.len ≡ r.len + 1
  pub room : s.room ≡ r.room

-- r without its first item, which was at this place, is s
pub record Popped (r s : Ring) (at : ℕ) : Type 0 where
  pub some : 0 < r.len
  pub place : at ≡ place_at r.room r.first 0
  pub within : at < r.room
  pub first : s.first ≡ at + 1
  pub len : s.len ≡ r.len - 1
  pub room : s.room ≡ r.room
