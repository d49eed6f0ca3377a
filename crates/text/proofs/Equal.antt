-- `same_bytes` decides equality, and is what `==` of two texts answers.
use Rattle.std.proofs.Common.{◌≡◌, ℕ, Bool, true, false, ◌&&◌, eqb, List, [], ◌∷◌, Decides, sym, refl, ap, rules}
use Rattle.std.specs.Cmp.Lexicographic.{pointwise}
use Rattle.std.proofs.lemmas.Slice.Eq.{IsBytesEq, compares_Decides}
use Rattle.text.specs.Same.{same_bytes}

pub pointwise-same : (xs ys : List ℕ) → pointwise eqb xs ys ≡ same_bytes xs ys
unfolding same_bytes
pointwise-same [] [] = refl
pointwise-same [] (y ∷ ys) = refl
pointwise-same (x ∷ xs) [] = refl
pointwise-same (x ∷ xs) (y ∷ ys) = ap (λ b. eqb x y && b) (pointwise-same xs ys)

compares : IsBytesEq same_bytes
unfolding same_bytes
compares = search rules

pub same_bytes_decides : (xs ys : List ℕ) → Decides (same_bytes xs ys) (xs ≡ ys)
same_bytes_decides = compares_Decides same_bytes compares

pub same_bytes_true : (xs ys : List ℕ) → same_bytes xs ys ≡ true → xs ≡ ys
same_bytes_true xs ys = (same_bytes_decides xs ys).0

pub same_bytes_equal : (xs ys : List ℕ) → xs ≡ ys → same_bytes xs ys ≡ true
same_bytes_equal xs ys = (same_bytes_decides xs ys).1

-- a test that decides the same is the same
pub same_bytes_is : (xs ys : List ℕ) (r : Bool) → Decides r (xs ≡ ys) → r ≡ same_bytes xs ys
same_bytes_is xs ys true h = sym (same_bytes_equal xs ys (h.0 refl))
same_bytes_is xs ys false h = other (same_bytes xs ys) (λ t. h.1 (same_bytes_true xs ys t))
  where
    other : (t : Bool) → (t ≡ true → false ≡ true) → false ≡ t
    other true k = k refl
    other false k = refl
