-- A field that is a number, and how many bytes it takes.
use Rattle.std.proofs.Common.{◌≡◌, ℕ, ◌+◌, ◌^◌, ◌<◌, ◌≤◌, Bool, true, false, cond, eqb, List, [], ◌∷◌, ◌++◌, length, Some, None, Option, sym, refl, ap, ◌∙◌, arith, length-append}
use Rattle.std.proofs.lemmas.Bool.{eqb-true}
use Rattle.text.specs.Values.{ends, field, longer, numeral, beside, in_field, value}
use Rattle.text.proofs.Numerals.{numeral_some, numeral_fits}

module _ (end : ℕ) (xs : List ℕ) where
  pub value_no_field : field end xs ≡ None → value end xs ≡ None
  unfolding value in_field
  value_no_field e = ap in_field e

  pub value_no_number : (f r : List ℕ) → field end xs ≡ Some (f, r) → numeral f ≡ None → value end xs ≡ None
  unfolding value in_field beside
  value_no_number f r e m = ap in_field e ∙ ap (λ o. beside o r) m

  pub value_is : (f r : List ℕ) (n : ℕ) → field end xs ≡ Some (f, r) → numeral f ≡ Some n → value end xs ≡ Some (n, r)
  unfolding value in_field beside
  value_is f r n e m = ap in_field e ∙ ap (λ o. beside o r) m

-- what a `Some` holds
abbrev held : {A : Type 0} → A → Option A → A
held d None = d
held d (Some x) = x

longer_some : (b : ℕ) (o : Option (List ℕ × List ℕ)) (f r : List ℕ) → longer b o ≡ Some (f, r) → (g : List ℕ) × (f ≡ b ∷ g) × (o ≡ Some (g, r))
unfolding longer
longer_some b None f r e = absurd (let z : ◌≡◌ {A = ℕ} 0 1 = cc in omega arith)
longer_some b (Some cut) f r e =
    let p = ap (held ([], [])) e in
    (cut.0, sym (ap (λ x. x.0) p), ap (λ z. Some (cut.0, z)) (ap (λ x. x.1) p))

module _ (end x : ℕ) (xs f r : List ℕ) (same : eqb x end ≡ true → x ≡ end) (on : (g : List ℕ) → field end xs ≡ Some (g, r) → xs ≡ g ++ end ∷ r) where
  splits_by : (s t : Bool) → eqb x end ≡ t → cond s (cond t (Some ([], xs)) None) (longer x (field end xs)) ≡ Some (f, r) → x ∷ xs ≡ f ++ end ∷ r
  splits_by true true q e =
      let p = ap (held ([], [])) e in
      ap (λ z. z ∷ xs) (same q) ∙ ap (λ z. end ∷ z) (ap (λ y. y.1) p) ∙ ap (λ z. z ++ end ∷ r) (ap (λ y. y.0) p)
  splits_by true false q e = absurd (let z : ◌≡◌ {A = ℕ} 0 1 = cc in omega arith)
  splits_by false t q e =
      let l = longer_some x (field end xs) f r e in
      ap (λ z. x ∷ z) (on l.0 l.2) ∙ ap (λ z. z ++ end ∷ r) (sym l.1)

-- the field, the byte that ends it and what follows are the text
pub field_splits : (end : ℕ) (xs f r : List ℕ) → field end xs ≡ Some (f, r) → xs ≡ f ++ end ∷ r
unfolding field
field_splits end [] f r e = absurd (let z : ◌≡◌ {A = ℕ} 0 1 = cc in omega arith)
field_splits end (x ∷ xs) f r e =
    splits_by end x xs f r (eqb-true x end) (λ g h. field_splits end xs g r h) (ends x) (eqb x end) refl e

beside_some : (o : Option ℕ) (ys : List ℕ) (n : ℕ) (r : List ℕ) → beside o ys ≡ Some (n, r) → (o ≡ Some n) × (ys ≡ r)
unfolding beside
beside_some None ys n r e = absurd (let z : ◌≡◌ {A = ℕ} 0 1 = cc in omega arith)
beside_some (Some m) ys n r e = let p = ap (held (0, [])) e in (ap (λ y. Some y.0) p, ap (λ y. y.1) p)

in_field_some : (o : Option (List ℕ × List ℕ)) (n : ℕ) (r : List ℕ) → in_field o ≡ Some (n, r) → (f : List ℕ) × (o ≡ Some (f, r)) × (numeral f ≡ Some n)
unfolding in_field
in_field_some None n r e = absurd (let z : ◌≡◌ {A = ℕ} 0 1 = cc in omega arith)
in_field_some (Some cut) n r e =
    let p = beside_some (numeral cut.0) cut.1 n r e in
    (cut.0, ap (λ z. Some (cut.0, z)) p.1, p.0)

-- a value stands in a field
pub value-field : (end : ℕ) (xs : List ℕ) (n : ℕ) (r : List ℕ) → value end xs ≡ Some (n, r) → (f : List ℕ) × (field end xs ≡ Some (f, r)) × (numeral f ≡ Some n)
unfolding value
value-field end xs n r e = in_field_some (field end xs) n r e

-- a value takes a digit and the byte that ends it, at least
pub value-length : (end : ℕ) (xs : List ℕ) (n : ℕ) (r : List ℕ) → value end xs ≡ Some (n, r) → length r + 2 ≤ length xs
value-length end xs n r e =
    let v = value-field end xs n r e in
    let f = v.0 in
    let s : length xs ≡ length f + length (end ∷ r) = ap length (field_splits end xs f r v.1) ∙ length-append f (end ∷ r) in
    let d = numeral_some f n v.2 in
    omega arith

-- a number of 32 bits
pub value_fits : (end : ℕ) (xs : List ℕ) (n : ℕ) (r : List ℕ) → value end xs ≡ Some (n, r) → n < 2 ^ 32
value_fits end xs n r e = let v = value-field end xs n r e in numeral_fits v.0 n v.2

-- lines of several values, and a tail
module _ (x₀ x₁ x₂ x₃ x₄ : List ℕ) (a b c d : ℕ) where
  pub four_values : (last : ℕ) → value 32 x₀ ≡ Some (a, x₁) → value 32 x₁ ≡ Some (b, x₂) → value 32 x₂ ≡ Some (c, x₃) → value last x₃ ≡ Some (d, x₄) → length x₄ + 8 ≤ length x₀
  four_values last p q s t =
      let i = value-length 32 x₀ a x₁ p in
      let j = value-length 32 x₁ b x₂ q in
      let k = value-length 32 x₂ c x₃ s in
      let l = value-length last x₃ d x₄ t in
      omega arith

  pub five_values : (x₅ : List ℕ) (e last : ℕ) → value 32 x₀ ≡ Some (a, x₁) → value 32 x₁ ≡ Some (b, x₂) → value 32 x₂ ≡ Some (c, x₃) → value 32 x₃ ≡ Some (d, x₄) → value last x₄ ≡ Some (e, x₅) → length x₅ + 10 ≤ length x₀
  five_values x₅ e last p q s t u =
      let i = four_values 32 p q s t in
      let l = value-length last x₄ e x₅ u in
      omega arith
