-- What the calls of a table make of its chains. That they are linked as before, the table's type says.
use Rattle.std.specs.Prelude.{◌≡◌, ℕ, ◌+◌, ◌<◌, [], ◌∷◌, ◌++◌, ◌≢◌}
use Rattle.theory.specs.declared.message.Message.{Message}
use Rattle.chains.specs.Linkages.{Linkage, len_of, place_of, places, message_in, messages}

-- a place that is in no chain
pub record Loose (t : Linkage) (p : ℕ) : Type 0 where
  pub less : p < places t
  pub alone : (i k : ℕ) → k < len_of t i → place_of t i k ≢ p

-- t is s where chain i has lost its first place, p
pub record Detached (s t : Linkage) (i p : ℕ) : Type 0 where
  pub loose : Loose t p
  pub links : t.links ≡ s.links
  pub first : messages s i ≡ message_in s.links p ∷ messages t i
  pub others : (j : ℕ) → (j ≢ i) → messages t j ≡ messages s j

-- t is s where chain i has one more message at its end
pub record Attached (s t : Linkage) (i : ℕ) (m : Message) : Type 0 where
  pub room : places t ≡ places s
  pub last : messages t i ≡ messages s i ++ m ∷ []
  pub others : (j : ℕ) → (j ≢ i) → messages t j ≡ messages s j

-- t is s where chain i has one more message, at a place that was free
pub record Pushed (s t : Linkage) (i : ℕ) (m : Message) : Type 0 where
  pub room : places t ≡ places s
  pub free : len_of t 256 + 1 ≡ len_of s 256
  pub last : messages t i ≡ messages s i ++ m ∷ []
  pub others : (j : ℕ) → (j ≢ i) → (j ≢ 256) → messages t j ≡ messages s j

-- t is s where chain i has lost its first message, whose place is free
pub record Popped (s t : Linkage) (i : ℕ) (m : Message) : Type 0 where
  pub room : places t ≡ places s
  pub free : len_of t 256 ≡ len_of s 256 + 1
  pub first : messages s i ≡ m ∷ messages t i
  pub others : (j : ℕ) → (j ≢ i) → (j ≢ 256) → messages t j ≡ messages s j

-- every chain is empty but the last, which has all of n places
pub record Cleared (n : ℕ) (t : Linkage) : Type 0 where
  pub room : places t ≡ n
  pub free : len_of t 256 ≡ n
  pub none : (i : ℕ) → (i ≢ 256) → messages t i ≡ []
