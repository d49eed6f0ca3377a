-- Sums over the numbers below n.
use Rattle.std.proofs.Common.{◌≡◌, ℕ, zero, suc, ◌+◌, ◌<◌, ◌≤◌, ◌⊎◌, [], refl, ap, inl, inr, arith}
use Rattle.std.proofs.lemmas.Bool.{cases_eq}
use Rattle.theory.specs.Net.{sum_to, total}

pub sum_none : (n : ℕ) (f : ℕ → ℕ) → ((i : ℕ) → f i ≡ 0) → sum_to n f ≡ 0
unfolding sum_to
sum_none zero f none = refl
sum_none (suc n) f none = omega (arith, sum_none n f none, none n)

-- sums of functions that agree below n
pub sum_same : (n : ℕ) (f g : ℕ → ℕ) → ((i : ℕ) → i < n → f i ≡ g i) → sum_to n f ≡ sum_to n g
unfolding sum_to
sum_same zero f g same = refl
sum_same (suc n) f g same = omega (arith, sum_same n f g (λ i l. same i (omega arith)), same n (omega arith))

-- sums of functions that differ at one place
pub sum_but : (n i : ℕ) (f g : ℕ → ℕ) → i < n → ((j : ℕ) → (j ≡ i → ⊥) → g j ≡ f j) → sum_to n g + f i ≡ sum_to n f + g i
unfolding sum_to
sum_but zero i f g l same = absurd (omega arith)
sum_but (suc n) i f g l same = go (cases_eq n i) (λ h. sum_but n i f g h same)
  where
    go : (n ≡ i) ⊎ (n ≡ i → ⊥) → (i < n → sum_to n g + f i ≡ sum_to n f + g i) → sum_to n g + g n + f i ≡ sum_to n f + f n + g i
    go (inl e) _ = omega (arith, sum_same n g f (λ j h. same j (omega arith)), ap f e, ap g e)
    go (inr ne) less = omega (arith, less (omega arith), same n ne)

pub sum_part : (n i : ℕ) (f : ℕ → ℕ) → i < n → f i ≤ sum_to n f
unfolding sum_to
sum_part zero i f l = absurd (omega arith)
sum_part (suc n) i f l = go (cases_eq n i) (λ h. sum_part n i f h)
  where
    go : (n ≡ i) ⊎ (n ≡ i → ⊥) → (i < n → f i ≤ sum_to n f) → f i ≤ sum_to n f + f n
    go (inl e) _ = omega (arith, ap f e)
    go (inr ne) less = omega (arith, less (omega arith))

-- nothing waits
pub total_none : (n : ℕ) → total n (λ _ _. []) ≡ 0
total_none n = sum_none n _ (λ _. sum_none n _ (λ _. refl))
