-- A ring's items after a push and a pop.
use Rattle.std.proofs.Common.{◌≡◌, ℕ, suc, ◌+◌, ◌-◌, ◌<◌, ◌≤◌, ◌≢◌, List, [], ◌∷◌, ◌++◌, length, get_or, take, drop, set, sym, refl, ap, ◌∙◌, ⊎_elim, arith, length-append, length-drop, length-set, length-take}
use Rattle.std.proofs.lemmas.List.{same_lists, get_or-take, get_or-drop, get_or-set_same, get_or-set_other, get_or_append_left, get_or-append_right, drop_at, take-append-le, drop_more, length_push, get_or_push}
use Rattle.std.proofs.lemmas.Bool.{cases_eq, cases_lt}
use Rattle.theory.specs.Lists.{ring}

module _ {T : Type 0} where
  pub length-ring : (xs : List T) (first len : ℕ) → first ≤ length xs → len ≤ length xs → length (ring xs first len) ≡ len
  unfolding ring
  length-ring xs first len f l = simp (length-take, length-drop, length-append) (omega arith)

  pub ring_none : (xs : List T) (first : ℕ) → ring xs first 0 ≡ []
  unfolding ring
  ring_none xs first = refl

  -- the item at k, before the end of the places and past it
  pub ring_low : (xs : List T) (first len k : ℕ) (d : T) → k < len → first + k < length xs → get_or (ring xs first len) k d ≡ get_or xs (first + k) d
  unfolding ring
  ring_low xs first len k d h f = rw (get_or-take, get_or-drop, get_or_append_left)

  pub ring_high : (xs : List T) (first len k : ℕ) (d : T) → k < len → length xs ≤ first + k → get_or (ring xs first len) k d ≡ get_or xs (first + k - length xs) d
  unfolding ring
  ring_high xs first len k d h f = rw (get_or-take, get_or-drop) (get_or-append_right xs xs (length xs) (first + k) d refl f)

  -- x is written to the place behind the last item
  module _ (xs : List T) (first len at : ℕ) (x : T) (f : first ≤ length xs) (l : len < length xs)
      (low : len < length xs - first → at ≡ first + len) (high : length xs - first ≤ len → at ≡ len - (length xs - first)) where
    within : at < length xs
    within = ⊎_elim (λ h. omega (arith, low h)) (λ h. omega (arith, high h)) (cases_lt len (length xs - first))

    elsewhere : (k : ℕ) (d : T) → k < len → get_or (ring (set xs at x) first (len + 1)) k d ≡ get_or (ring xs first len) k d
    elsewhere k d h =
        ⊎_elim
        (λ a.
        let ne : first + k ≢ at = ⊎_elim (λ p. omega (arith, low p)) (λ p. omega (arith, high p)) (cases_lt len (length xs - first)) in
        ring_low (set xs at x) first (len + 1) k d (omega arith) (simp length-set a) ∙ get_or-set_other xs at (first + k) x d ne
        ∙ sym (ring_low xs first len k d h a))
        (λ a.
        let ne : first + k - length xs ≢ at = omega (arith, high (omega arith)) in
        ring_high (set xs at x) first (len + 1) k d (omega arith) (simp length-set a)
        ∙ simp length-set (get_or-set_other xs at (first + k - length xs) x d ne)
        ∙ sym (ring_high xs first len k d h a))
        (cases_lt (first + k) (length xs))

    here : (d : T) → get_or (ring (set xs at x) first (len + 1)) len d ≡ x
    here d =
        ⊎_elim
        (λ a.
        ring_low (set xs at x) first (len + 1) len d (omega arith) (simp length-set a)
        ∙ rw (sym (low (omega arith))) (get_or-set_same xs at x d within))
        (λ a.
        let e : first + len - length xs ≡ at = omega (arith, high (omega arith)) in
        ring_high (set xs at x) first (len + 1) len d (omega arith) (simp length-set a)
        ∙ simp (length-set, e) (get_or-set_same xs at x d within))
        (cases_lt (first + len) (length xs))

    pub ring_push : ring (set xs at x) first (len + 1) ≡ ring xs first len ++ x ∷ []
    ring_push =
        let n : length (ring (set xs at x) first (len + 1)) ≡ len + 1 =
        length-ring (set xs at x) first (len + 1) (simp length-set f) (simp length-set (omega arith)) in
        let m = length-ring xs first len f (omega arith) in
        same_lists _ _ (n ∙ sym (length_push (ring xs first len) x ∙ ap (λ z. z + 1) m))
        (λ k d h.
        ⊎_elim
        (λ e. rw e (here d ∙ sym (get_or_push (ring xs first len) x d len m)))
        (λ ne.
        let below : k < len = omega arith in
        elsewhere k d below ∙ sym (get_or_append_left (ring xs first len) (x ∷ []) d k (rw m below)))
        (cases_eq k len))

  ring_suc : (xs : List T) (first m : ℕ) (d : T) → first < length xs → ring xs first (suc m) ≡ get_or xs first d ∷ ring xs (first + 1) m
  unfolding ring
  ring_suc xs first m d h =
      let w : first < length (xs ++ xs) = simp length-append (omega arith) in
      ap (take (suc m)) (drop_more (xs ++ xs) first d w) ∙ ap (λ y. y ∷ take m (drop (first + 1) (xs ++ xs))) (get_or_append_left xs xs d first h)

  -- the first item, and the ring without it
  pub ring_next : (xs : List T) (first len : ℕ) (d : T) → first < length xs → 0 < len → ring xs first len ≡ get_or xs first d ∷ ring xs (first + 1) (len - 1)
  ring_next xs first len d h p =
      let e : len ≡ suc (len - 1) = omega arith in
      ap (ring xs first) e ∙ ring_suc xs first (len - 1) d h

  -- a ring that begins past the last place begins at the first
  pub ring_turn : (xs : List T) (first len : ℕ) → first ≡ length xs → len ≤ length xs → ring xs first len ≡ ring xs 0 len
  unfolding ring
  ring_turn xs first len e h = ap (take len) (drop_at xs xs first (sym e)) ∙ sym (take-append-le len xs xs h)
