-- Places along a function that says what follows, and lists by index.
use Rattle.std.proofs.Common.{◌≡◌, ℕ, zero, suc, ◌+◌, ◌<◌, [], ◌∷◌, ◌++◌, length, sym, refl, ap, ◌∙◌, ap₂, add-one, arith}
use Rattle.std.proofs.lemmas.List.{length_push}
use Rattle.chains.specs.Spots.{spot, listed}

pub spot_start : (next : ℕ → ℕ) (f : ℕ) → spot next f 0 ≡ f
unfolding spot
spot_start next f = refl

-- from the second place on
pub spot_next : (next : ℕ → ℕ) (f k : ℕ) → spot next (next f) k ≡ spot next f (suc k)
unfolding spot
spot_next next f zero = refl
spot_next next f (suc k) = ap next (spot_next next f k)

pub spot-step : (next : ℕ → ℕ) (f k : ℕ) → spot next f (k + 1) ≡ next (spot next f k)
unfolding spot
spot-step next f k = rw (add-one k) refl

-- a function that agrees at all places before k leads to the same place
pub spot_same : (next new : ℕ → ℕ) (f k : ℕ) → ((j : ℕ) → j < k → new (spot next f j) ≡ next (spot next f j)) → spot new f k ≡ spot next f k
unfolding spot
spot_same next new f zero same = refl
spot_same next new f (suc k) same = ap new (spot_same next new f k (λ j l. same j (omega arith))) ∙ same k (omega arith)

module _ {A : Type 0} where
  pub length-listed : (f : ℕ → A) (n : ℕ) → length (listed f n) ≡ n
  unfolding listed
  length-listed f zero = refl
  length-listed f (suc n) = omega (arith, length_push (listed f n) (f n), length-listed f n)

  pub listed_same : (f g : ℕ → A) (n : ℕ) → ((k : ℕ) → k < n → f k ≡ g k) → listed f n ≡ listed g n
  unfolding listed
  listed_same f g zero same = refl
  listed_same f g (suc n) same = ap₂ (λ xs x. xs ++ x ∷ []) (listed_same f g n (λ k l. same k (omega arith))) (same n (omega arith))

  pub listed_none : (f : ℕ → A) → listed f 0 ≡ []
  unfolding listed
  listed_none f = refl

  pub listed_last : (f : ℕ → A) (n : ℕ) → listed f (n + 1) ≡ listed f n ++ f n ∷ []
  unfolding listed
  listed_last f n = rw (add-one n) refl

  listed_suc : (f : ℕ → A) (n : ℕ) → listed f (suc n) ≡ f 0 ∷ listed (λ k. f (suc k)) n
  unfolding listed
  listed_suc f zero = refl
  listed_suc f (suc n) = ap (λ xs. xs ++ f (suc n) ∷ []) (listed_suc f n)

  pub listed_first : (f g : ℕ → A) (n : ℕ) → ((k : ℕ) → k < n → g k ≡ f (k + 1)) → listed f (n + 1) ≡ f 0 ∷ listed g n
  listed_first f g n same =
      ap (listed f) (add-one n) ∙ listed_suc f n
      ∙ ap (λ xs. f 0 ∷ xs) (listed_same (λ k. f (suc k)) g n (λ k l. ap f (sym (add-one k)) ∙ sym (same k l)))
