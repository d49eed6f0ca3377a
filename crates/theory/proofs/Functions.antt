-- Functions of a number that differ at one place.
use Rattle.std.proofs.Common.{◌≡◌, ℕ, ◌<◌, ◌≤◌, cond, ltb, ◌⊎◌, List, length, get_or, set, sym, refl, ap, ◌∙◌, inl, inr, zero-le}
use mathlib.Core.Path.{fun_ext}
use Rattle.std.proofs.lemmas.List.{get_or-set_same, get_or-set_other}
use Rattle.std.proofs.lemmas.Bool.{cases_eq, cases_lt, eq-eqb, ne_eqb, lt-ltb, le-ltb}
use Rattle.theory.specs.Functions.{put, masked}

module _ {A : Type 0} where
  pub put_same : (f : ℕ → A) (i : ℕ) (a : A) → put f i a i ≡ a
  unfolding put
  put_same f i a = rw (eq-eqb i i refl)

  pub put_other : (f : ℕ → A) (i : ℕ) (a : A) (j : ℕ) → (j ≡ i → ⊥) → put f i a j ≡ f j
  unfolding put
  put_other f i a j ne = rw (ne_eqb j i ne)

  -- a function that is a at i and as f elsewhere
  pub put_is : (f g : ℕ → A) (i : ℕ) (a : A) → ((j : ℕ) → (j ≡ i → ⊥) → g j ≡ f j) → g i ≡ a → g ≡ put f i a
  put_is f g i a same here = fun_ext (λ j. go j (cases_eq j i))
    where
      go : (j : ℕ) → (j ≡ i) ⊎ (j ≡ i → ⊥) → g j ≡ put f i a j
      go j (inl e) = rw e (here ∙ sym (put_same f i a))
      go j (inr ne) = same j ne ∙ sym (put_other f i a j ne)

  pub put-put : (f : ℕ → A) (i : ℕ) (a b : A) → put (put f i a) i b ≡ put f i b
  put-put f i a b = put_is f (put (put f i a) i b) i b (λ j ne. put_other (put f i a) i b j ne ∙ put_other f i a j ne) (put_same (put f i a) i b)

  -- what stands there already
  pub put_own : (f : ℕ → A) (i : ℕ) (a : A) → f i ≡ a → f ≡ put f i a
  put_own f i a e = put_is f f i a (λ j ne. refl) e

  pub set-put : (l : List A) (i : ℕ) (a d : A) → i < length l → (λ j. get_or (set l i a) j d) ≡ put (λ j. get_or l j d) i a
  set-put l i a d h = put_is (λ j. get_or l j d) (λ j. get_or (set l i a) j d) i a (λ j ne. get_or-set_other l i j a d ne) (get_or-set_same l i a d h)

  pub masked_in : (n : ℕ) (d : A) (f : ℕ → A) (i : ℕ) → i < n → masked n d f i ≡ f i
  unfolding masked
  masked_in n d f i l = rw (lt-ltb i n l)

  pub masked_out : (n : ℕ) (d : A) (f : ℕ → A) (i : ℕ) → n ≤ i → masked n d f i ≡ d
  unfolding masked
  masked_out n d f i l = rw (le-ltb i n l)

  pub masked_same : (n : ℕ) (d : A) (f g : ℕ → A) → ((j : ℕ) → j < n → f j ≡ g j) → masked n d f ≡ masked n d g
  masked_same n d f g same = fun_ext (λ j. go j (cases_lt j n))
    where
      go : (j : ℕ) → (j < n) ⊎ (n ≤ j) → masked n d f j ≡ masked n d g j
      go j (inl l) = masked_in n d f j l ∙ same j l ∙ sym (masked_in n d g j l)
      go j (inr h) = masked_out n d f j h ∙ sym (masked_out n d g j h)

  pub masked_none : (d : A) (f : ℕ → A) → masked 0 d f ≡ (λ _. d)
  masked_none d f = fun_ext (λ j. masked_out 0 d f j zero-le)

  -- a function that differs by h from f at one place below n
  pub masked-change : (n : ℕ) (d : A) (f g : ℕ → A) (i : ℕ) (h : A → A) → i < n → ((j : ℕ) → (j ≡ i → ⊥) → g j ≡ f j) → g i ≡ h (f i)
      → masked n d g ≡ put (masked n d f) i (h (masked n d f i))
  unfolding masked
  masked-change n d f g i h l same here =
      put_is (masked n d f) (masked n d g) i (h (masked n d f i)) (λ j ne. ap (λ a. cond (ltb j n) a d) (same j ne))
      (masked_in n d g i l ∙ here ∙ ap h (sym (masked_in n d f i l)))

-- `put` at its place and elsewhere, through an equation
pub is_same : {A : Type 0} (f g : ℕ → A) (i : ℕ) (a : A) → g ≡ put f i a → g i ≡ a
is_same f g i a e = ap (λ h. h i) e ∙ put_same f i a

pub is_other : {A : Type 0} (f g : ℕ → A) (i : ℕ) (a : A) → g ≡ put f i a → (j : ℕ) → (j ≡ i → ⊥) → g j ≡ f j
is_other f g i a e j ne = ap (λ h. h j) e ∙ put_other f i a j ne
