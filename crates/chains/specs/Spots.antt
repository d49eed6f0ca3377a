-- Places that follow one another, and what stands along them.
use Rattle.std.specs.Prelude.{ℕ, zero, suc, List, [], ◌∷◌, ◌++◌}

-- the place that is reached from `first` in so many steps
unfoldable pub spot : (ℕ → ℕ) → ℕ → ℕ → ℕ
spot next first zero = first
spot next first (suc k) = next (spot next first k)

-- f 0, f 1, .. f (n - 1)
unfoldable pub listed : {A : Type 0} → (ℕ → A) → ℕ → List A
listed f zero = []
listed f (suc n) = listed f n ++ f n ∷ []
