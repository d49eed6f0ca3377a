-- Digits read one by one.
use Rattle.std.proofs.Common.{◌≡◌, ℕ, zero, suc, ◌+◌, ◌-◌, ◌*◌, ◌^◌, ◌<◌, ◌≤◌, Bool, true, false, cond, ◌&&◌, ltb, leb, List, [], ◌∷◌, ◌++◌, length, get_or, take, Some, None, Ok, Err, Result, sym, refl, ap, ◌∙◌, arith, length-take, rules}
use Rattle.std.specs.Result.{OkIff, result_ok}
use Rattle.std.proofs.lemmas.List.{take_more, take_all}
use Rattle.std.proofs.lemmas.Str.Parse.{IsNumeralModel, IsDigitsTest, FoldsDigits, numerals_by_fold, digits_value_short}
use Rattle.std.proofs.lemmas.Bool.{lt-ltb, le-ltb, le-leb, lt-leb, leb-true, and_from, and_left, and_right, and_parts, cond-true, cond-false}
use Rattle.text.specs.Values.{digit, all_digits, digits_after, is_numeral, numeral}

tells : IsDigitsTest (λ ds. all_digits ds ≡ true)
unfolding all_digits
tells = search rules

folds : FoldsDigits digits_after
unfolding digits_after
folds = search rules

pub own : IsNumeralModel (λ ds. all_digits ds ≡ true) (digits_after 0)
own = numerals_by_fold _ tells digits_after folds

pub digit_in : (b : ℕ) → 48 ≤ b → b ≤ 57 → digit b ≡ true
digit_in b l h = and_from (leb 48 b) (leb b 57) (le-leb 48 b l) (le-leb b 57 h)

pub digit_low : (b : ℕ) → b < 48 → digit b ≡ false
digit_low b l = and_left (leb 48 b) (leb b 57) (lt-leb 48 b l)

pub digit_high : (b : ℕ) → 57 < b → digit b ≡ false
digit_high b h = and_right (leb 48 b) (leb b 57) (lt-leb b 57 h)

all_digits_push : (xs : List ℕ) (y : ℕ) → all_digits xs ≡ true → digit y ≡ true → all_digits (xs ++ y ∷ []) ≡ true
unfolding all_digits
all_digits_push [] y e d = and_from (digit y) true d refl
all_digits_push (x ∷ xs) y e d =
    let p = and_parts (digit x) (all_digits xs) e in
    and_from (digit x) (all_digits (xs ++ y ∷ [])) p.0 (all_digits_push xs y p.1 d)

digits_after_push : (n : ℕ) (xs : List ℕ) (y : ℕ) → digits_after n (xs ++ y ∷ []) ≡ digits_after n xs * 10 + (y - 48)
unfolding digits_after
digits_after_push n [] y = refl
digits_after_push n (x ∷ xs) y = digits_after_push (n * 10 + (x - 48)) xs y

not_all_digits : (xs : List ℕ) (i : ℕ) → i < length xs → digit (get_or xs i 0) ≡ false → all_digits xs ≡ false
unfolding all_digits
not_all_digits [] i h d = absurd (omega arith)
not_all_digits (x ∷ xs) zero h d = and_left (digit x) (all_digits xs) d
not_all_digits (x ∷ xs) (suc i) h d = and_right (digit x) (all_digits xs) (not_all_digits xs i (omega arith) d)

-- the first i bytes are digits, and write n
abbrev pub Read : List ℕ → ℕ → ℕ → Type 0
Read xs i n = (all_digits (take i xs) ≡ true) × (n ≡ digits_after 0 (take i xs))

pub read_none : (xs : List ℕ) → Read xs 0 0
unfolding all_digits digits_after
read_none xs = (refl, refl)

pub read_more : (xs : List ℕ) (i n : ℕ) → i < length xs → digit (get_or xs i 0) ≡ true → Read xs i n → Read xs (i + 1) (n * 10 + (get_or xs i 0 - 48))
read_more xs i n h d r =
    rw (take_more xs i 0 h) (all_digits_push (take i xs) (get_or xs i 0) r.0 d, ap (λ z. z * 10 + (get_or xs i 0 - 48)) r.1 ∙ sym (digits_after_push 0 (take i xs) (get_or xs i 0)))

-- ten digits stay far below 2 ^ 64
pub read_small : (xs : List ℕ) (i n : ℕ) → length xs ≤ 10 → Read xs i n → n < 10 ^ 10
read_small xs i n h r = rw r.1 (digits_value_short own (take i xs) 10 r.0 (simp length-take (omega arith)))

-- when a text is no number
pub numeral_empty : (xs : List ℕ) → length xs ≡ 0 → numeral xs ≡ None
unfolding numeral is_numeral
numeral_empty xs e = cond-false (is_numeral xs) _ _ (and_left _ _ (and_left _ _ (le-ltb 0 (length xs) (omega arith))))

pub numeral_long : (xs : List ℕ) → 10 < length xs → numeral xs ≡ None
unfolding numeral is_numeral
numeral_long xs h = cond-false (is_numeral xs) _ _ (and_left _ _ (and_right _ _ (lt-leb (length xs) 10 h)))

pub numeral_other : (xs : List ℕ) (i : ℕ) → i < length xs → digit (get_or xs i 0) ≡ false → numeral xs ≡ None
unfolding numeral is_numeral
numeral_other xs i h d = cond-false (is_numeral xs) _ _ (and_right _ _ (and_left _ _ (not_all_digits xs i h d)))

module _ (xs : List ℕ) (i n : ℕ) (all : length xs ≤ i) (r : Read xs i n) where
  whole : (all_digits xs ≡ true) × (n ≡ digits_after 0 xs)
  whole = rw (take_all i xs all) at r

  pub numeral_large : 4294967295 < n → numeral xs ≡ None
  unfolding numeral is_numeral
  numeral_large h = cond-false (is_numeral xs) _ _ (and_right (ltb 0 (length xs) && leb (length xs) 10) _ (and_right (all_digits xs) _ (lt-leb (digits_after 0 xs) 4294967295 (rw whole.1 at h))))

  pub numeral_is : 0 < length xs → length xs ≤ 10 → n ≤ 4294967295 → numeral xs ≡ Some n
  unfolding numeral is_numeral
  numeral_is l m h =
      cond-true (is_numeral xs) (Some (digits_after 0 xs)) None
      (and_from _ _ (and_from _ _ (lt-ltb 0 (length xs) l) (le-leb (length xs) 10 m)) (and_from _ _ whole.0 (le-leb (digits_after 0 xs) 4294967295 (rw whole.1 at h))))
      ∙ ap Some (sym whole.1)

-- what was read is the number, if it has 32 bits
pub numeral_read : {E : Type 0} (xs : List ℕ) (i n : ℕ) (r : Result ℕ E) → length xs ≤ i → Read xs i n → 0 < length xs → length xs ≤ 10 → OkIff r (n < 2 ^ 32) n → result_ok r ≡ numeral xs
numeral_read xs i n (Ok m) all r l k h = ap Some h.1 ∙ sym (numeral_is xs i n all r l k (omega (arith, h.0)))
numeral_read xs i n (Err e) all r l k h = sym (numeral_large xs i n all r (grind (arith)))

-- a number has a digit at least
pub numeral_some : (xs : List ℕ) (n : ℕ) → numeral xs ≡ Some n → 0 < length xs
numeral_some [] n e = let z : ◌≡◌ {A = ℕ} 0 1 = let k = numeral_empty [] refl in cc in absurd (omega arith)
numeral_some (x ∷ xs) n e = omega arith

numeral_by : (t : Bool) (m n : ℕ) → (t ≡ true → m ≤ 4294967295) → cond t (Some m) None ≡ Some n → n ≤ 4294967295
numeral_by true m n h e = let p : m ≡ n = cc in rw p at (h refl)
numeral_by false m n h e = absurd (let z : ◌≡◌ {A = ℕ} 0 1 = cc in omega arith)

-- and 32 bits at most
pub numeral_fits : (xs : List ℕ) (n : ℕ) → numeral xs ≡ Some n → n < 2 ^ 32
unfolding numeral is_numeral
numeral_fits xs n e =
    let small : is_numeral xs ≡ true → digits_after 0 xs ≤ 4294967295 =
    λ t. let p = and_parts (ltb 0 (length xs) && leb (length xs) 10) _ t in leb-true (digits_after 0 xs) 4294967295 (and_parts (all_digits xs) _ p.1).1 in
    let h = numeral_by (is_numeral xs) (digits_after 0 xs) n small e in
    omega arith
