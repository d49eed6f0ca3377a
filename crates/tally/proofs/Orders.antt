-- A fold of the same words in another order.
use Rattle.std.proofs.Common.{◌≡◌, List, fold, sym, refl, ap, ◌∙◌, ap₂}
use mathlib.Core.List.{Permᴰ}

module _ {M : Type 0} (op : M → M → M) (assoc : (x y z : M) → op (op x y) z ≡ op x (op y z)) (comm : (x y : M) → op x y ≡ op y x) where
  right_comm : (x y z : M) → op (op x y) z ≡ op (op x z) y
  right_comm x y z = assoc x y z ∙ ap (op x) (comm y z) ∙ sym (assoc x z y)

  pub folded_perm : (a : M) {xs ys : List M} → Permᴰ xs ys → fold op a xs ≡ fold op a ys
  folded_perm a Permᴰ.nil = refl
  folded_perm a (Permᴰ.cons {a = x} {b = y} {l₁ = l} {l₂ = k} h p) = ap (λ z. fold op (op a z) l) h ∙ folded_perm (op a y) p
  folded_perm a (Permᴰ.swap {a = x} {b = y} {a' = x'} {b' = y'} {l = l} h k) =
      ap (λ z. fold op z l) (right_comm a x y) ∙ ap₂ (λ u v. fold op (op (op a u) v) l) k h
  folded_perm a (Permᴰ.trans p q) = folded_perm a p ∙ folded_perm a q
