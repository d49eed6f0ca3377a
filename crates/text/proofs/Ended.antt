-- The first field of a text.
use Rattle.std.proofs.Common.{◌≡◌, ℕ, zero, suc, ◌<◌, ◌≤◌, true, false, cond, eqb, List, [], ◌∷◌, length, get_or, take, drop, Some, None, sym, refl, ap, ◌∙◌, arith}
use Rattle.std.specs.Cmp.Lexicographic.{pointwise}
use Rattle.std.proofs.lemmas.Bool.{cond-true, cond-false}
use Rattle.std.proofs.Math.Bool.{and-true}
use Rattle.text.specs.Values.{ends, field, longer}

-- the first n bytes end no field
abbrev pub Open : List ℕ → ℕ → Type 0
Open xs n = (k : ℕ) → k < n → ends (get_or xs k 0) ≡ false

field_step : (end x : ℕ) (xs : List ℕ) → ends x ≡ false → field end (x ∷ xs) ≡ longer x (field end xs)
unfolding field
field_step end x xs e = cond-false (ends x) _ _ e

field_stop : (end x : ℕ) (xs : List ℕ) → ends x ≡ true → field end (x ∷ xs) ≡ cond (eqb x end) (Some ([], xs)) None
unfolding field
field_stop end x xs e = cond-true (ends x) _ _ e

-- cut where the field ends: the byte there is `end`, and is passed over
pub field_cut : (end : ℕ) (xs : List ℕ) (n : ℕ) → n ≤ length xs → Open xs n → pointwise eqb (take 1 (drop n xs)) (end ∷ []) ≡ true → (n < length xs → ends (get_or xs n 0) ≡ true)
    → field end xs ≡ Some (take n xs, drop 1 (drop n xs))
unfolding longer
field_cut end [] zero h o p e = cc
field_cut end [] (suc n) h o p e = absurd (omega arith)
field_cut end (x ∷ xs) zero h o p e = field_stop end x xs (e (omega arith)) ∙ cond-true (eqb x end) _ _ (sym (and-true (eqb x end)) ∙ p)
field_cut end (x ∷ xs) (suc n) h o p e =
    field_step end x xs (o 0 (omega arith)) ∙ ap (longer x) (field_cut end xs n (omega arith) (λ k l. o (suc k) (omega arith)) p (λ l. e (omega arith)))

-- another byte is there, or none
pub field_uncut : (end : ℕ) (xs : List ℕ) (n : ℕ) → n ≤ length xs → Open xs n → pointwise eqb (take 1 (drop n xs)) (end ∷ []) ≡ false → (n < length xs → ends (get_or xs n 0) ≡ true)
    → field end xs ≡ None
unfolding field longer
field_uncut end [] n h o p e = refl
field_uncut end (x ∷ xs) zero h o p e = field_stop end x xs (e (omega arith)) ∙ cond-false (eqb x end) _ _ (sym (and-true (eqb x end)) ∙ p)
field_uncut end (x ∷ xs) (suc n) h o p e =
    field_step end x xs (o 0 (omega arith)) ∙ ap (longer x) (field_uncut end xs n (omega arith) (λ k l. o (suc k) (omega arith)) p (λ l. e (omega arith)))
