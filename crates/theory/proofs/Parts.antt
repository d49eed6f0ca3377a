-- The parts of a flat list after a write to one of them, and of a list that holds one item throughout.
use Rattle.std.proofs.Common.{◌≡◌, ℕ, zero, suc, ◌+◌, ◌-◌, ◌*◌, ◌<◌, ◌≤◌, ◌⊎◌, List, [], ◌∷◌, ◌++◌, length, take, drop, replicate, sym, refl, ap, ◌∙◌, inl, inr, add-mul, one-mul, add-one, arith, length-append, length-drop, length-take}
use borrow.Rule.Slice.PartMut.{put_mid}
use Rattle.std.proofs.lemmas.List.{take-replicate, drop-replicate, length_push}
use Rattle.std.proofs.lemmas.Slice.{between-put_mid, between_is, take-put_mid_below, drop-put_mid}
use Rattle.std.proofs.lemmas.List.Edits.{length-between}
use Rattle.std.proofs.lemmas.Nat.{mul-le}
use Rattle.std.proofs.lemmas.Bool.{cases_order}
use Rattle.theory.specs.Functions.{put}
use Rattle.theory.specs.Lists.{parts, below}
use Rattle.theory.proofs.Functions.{put_is}

-- the part of b ends within n parts
pub ends_within : (b n each : ℕ) → b < n → b * each + each ≤ n * each
ends_within b n each h = omega (arith, mul-le (b + 1) each n each (omega arith) (omega arith), add-mul b 1 each, one-mul each)

pub length-parts : {T : Type 0} (xs : List T) (each b : ℕ) → b * each + each ≤ length xs → length (parts xs each b) ≡ each
unfolding parts
length-parts xs each b w = length-between xs (b * each) (b * each + each) w ∙ omega arith

-- after a write of ys over the part of b
module _ {T : Type 0} (xs ys : List T) (each b : ℕ) (w : b * each + each ≤ length xs) (n : length ys ≡ each) where
  other : (k : ℕ) → (k ≡ b) ⊎ ((k < b) ⊎ (b < k)) → (k ≡ b → ⊥) → parts (put_mid (b * each) (b * each + each - b * each) xs ys) each k ≡ parts xs each k
  unfolding parts
  other k (inl e) ne = absurd (ne e)
  other k (inr (inl lt)) ne =
      let e = ends_within k b each lt in
      between_is _ (k * each) (k * each + each)
      ∙ ap (drop (k * each)) (take-put_mid_below (b * each) (b * each + each - b * each) xs ys (k * each + each) e (omega arith))
      ∙ sym (between_is xs (k * each) (k * each + each))
  other k (inr (inr gt)) ne =
      let e = ends_within b k each gt in
      ap (take (k * each + each - k * each))
      (drop-put_mid (b * each) (b * each + each - b * each) xs ys (k * each) (omega arith) (omega arith) (omega arith))

  same : parts (put_mid (b * each) (b * each + each - b * each) xs ys) each b ≡ ys
  unfolding parts
  same = between-put_mid (b * each) (b * each + each - b * each) xs ys (b * each + each) (omega arith) (omega arith)

  pub length-put : length (put_mid (b * each) (b * each + each - b * each) xs ys) ≡ length xs
  length-put = simp (length-append, length-take, length-drop) (omega arith)

  pub parts-put : parts (put_mid (b * each) (b * each + each - b * each) xs ys) each ≡ put (parts xs each) b ys
  parts-put = put_is (parts xs each) _ b ys (λ k ne. other k (cases_order k b) ne) same

-- a list of one item, over and over
pub parts-replicate : {T : Type 0} (n each b m : ℕ) (x : T) → b < n → n * each ≤ m → parts (replicate m x) each b ≡ replicate each x
unfolding parts
parts-replicate n each b m x l h =
    let e = ends_within b n each l in
    ap (take (b * each + each - b * each)) (drop-replicate (b * each) m x)
    ∙ take-replicate (b * each + each - b * each) (m - b * each) x (omega arith)
    ∙ ap (λ k. replicate k x) (omega arith)

pub length-below : (n : ℕ) → length (below n) ≡ n
unfolding below
length-below zero = refl
length-below (suc n) = length_push (below n) n ∙ ap (λ k. k + 1) (length-below n) ∙ add-one n

pub below_more : (n : ℕ) → below (n + 1) ≡ below n ++ (n ∷ [])
unfolding below
below_more n = rw (add-one n) refl
