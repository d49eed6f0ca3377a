-- The items of a ring by their places: a push, a pop, a read.
use Rattle.std.proofs.Common.{◌≡◌, ℕ, ◌+◌, ◌-◌, ◌<◌, ◌≤◌, ◌⊎◌, List, [], ◌∷◌, ◌++◌, length, get_or, set, sym, ap, ◌∙◌, inl, inr, arith}
use Rattle.std.proofs.lemmas.Bool.{cases_lt, lt-ltb, le-ltb}
use Rattle.theory.specs.Lists.{ring}
use Rattle.theory.proofs.Rings.{ring_push, ring_next, ring_turn, ring_low, ring_high}
use Rattle.queue.specs.Places.{place_at}

pub place_low : (room first i : ℕ) → i < room - first → place_at room first i ≡ first + i
unfolding place_at
place_low room first i h = rw (lt-ltb i (room - first) h)

pub place_high : (room first i : ℕ) → room - first ≤ i → place_at room first i ≡ i - (room - first)
unfolding place_at
place_high room first i h = rw (le-ltb i (room - first) h)

module _ {T : Type 0} (xs : List T) (room first len : ℕ) (n : length xs ≡ room) (f : first ≤ room) where
  pub ring-pushed : (x : T) → len < room → ring (set xs (place_at room first len) x) first (len + 1) ≡ ring xs first len ++ x ∷ []
  ring-pushed x h =
      ring_push xs first len (place_at room first len) x (omega arith) (omega arith)
      (λ l. place_low room first len (omega arith)) (λ l. place_high room first len (omega arith) ∙ omega arith)

  pub ring_popped : (d : T) → 0 < len → len ≤ room
      → ring xs first len ≡ get_or xs (place_at room first 0) d ∷ ring xs (place_at room first 0 + 1) (len - 1)
  ring_popped d p h = go (cases_lt 0 (room - first))
    where
      go : (0 < room - first) ⊎ (room - first ≤ 0)
          → ring xs first len ≡ get_or xs (place_at room first 0) d ∷ ring xs (place_at room first 0 + 1) (len - 1)
      go (inl l) =
          let e : place_at room first 0 ≡ first = place_low room first 0 l ∙ omega arith in
          rw e (ring_next xs first len d (omega arith) p)
      go (inr l) =
          let e : place_at room first 0 ≡ 0 = place_high room first 0 l ∙ omega arith in
          rw e (ring_turn xs first len (omega arith) (omega arith) ∙ ring_next xs 0 len d (omega arith) p)

  pub get_or-ring : (i : ℕ) (d : T) → i < len → len ≤ room → get_or (ring xs first len) i d ≡ get_or xs (place_at room first i) d
  get_or-ring i d l h = go (cases_lt i (room - first))
    where
      go : (i < room - first) ⊎ (room - first ≤ i) → get_or (ring xs first len) i d ≡ get_or xs (place_at room first i) d
      go (inl k) = ring_low xs first len i d l (omega arith) ∙ ap (λ z. get_or xs z d) (sym (place_low room first i k))
      go (inr k) =
          let e : first + i - length xs ≡ place_at room first i = omega (arith, place_high room first i k) in
          ring_high xs first len i d l (omega arith) ∙ ap (λ z. get_or xs z d) e
