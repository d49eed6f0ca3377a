-- Texts that are cut at the room that there is for them.
use Rattle.std.proofs.Common.{◌≡◌, ℕ, ◌+◌, ◌-◌, ◌<◌, ◌≤◌, List, [], ◌∷◌, ◌++◌, length, take, drop, set, min, sym, ap, ◌∙◌, ⊎_elim, arith, length-append, length-take, length-drop}
use Rattle.std.proofs.lemmas.List.{append_assoc, take_all, take_at, take-append-le, take_min, take_more_set, drop-drop, length-take-le, length_push}
use Rattle.std.proofs.Math.Seq.{take-append-add}
use borrow.Rule.Slice.PartMut.{put_mid}
use Rattle.std.proofs.lemmas.Slice.{take-put_mid, drop-put_mid}
use Rattle.std.proofs.lemmas.Bool.{cases_lt}

module _ {X : Type 0} where
  pub take-append-take : (c : ℕ) (xs ys : List X) → take c (take c xs ++ ys) ≡ take c (xs ++ ys)
  take-append-take c xs ys =
      ⊎_elim
      (λ h. let l : length (take c xs) ≡ c = length-take-le c xs (omega arith) in take_at (take c xs) ys c l ∙ sym (take-append-le c xs ys (omega arith)))
      (λ h. ap (λ z. take c (z ++ ys)) (take_all c xs h))
      (cases_lt c (length xs))

  -- two texts one after the other
  pub take_twice : (c : ℕ) (xs ys zs : List X) → take c (take c (xs ++ ys) ++ zs) ≡ take c (xs ++ (ys ++ zs))
  take_twice c xs ys zs = take-append-take c (xs ++ ys) zs ∙ ap (take c) (append_assoc xs ys zs)

  -- an element that fits, and one that does not
  pub put_fits : (xs : List X) (n : ℕ) (x : X) → n < length xs → take (n + 1) (set xs n x) ≡ take (length xs) (take n xs ++ x ∷ [])
  put_fits xs n x h =
      let l = length-take-le n xs (omega arith) in
      take_more_set xs n x h ∙ sym (take_all (length xs) (take n xs ++ x ∷ []) (omega (arith, length_push (take n xs) x)))

  pub put_full : (xs : List X) (n : ℕ) (x : X) → n ≤ length xs → length xs ≤ n → take n xs ≡ take (length xs) (take n xs ++ x ∷ [])
  put_full xs n x h k = sym (take_at (take n xs) (x ∷ []) (length xs) (length-take-le n xs h ∙ omega arith))

  -- as much of ys as there is room for, behind the first n elements of xs
  module _ (xs ys zs : List X) (n k j : ℕ) (within : n ≤ length xs) (fits : k ≡ min (length xs - n) (length ys)) (same : j ≡ k) (put : zs ≡ take k ys) where
    length-put : length zs ≡ k
    length-put = ap length put ∙ length-take-le k ys (omega arith)

    pub length-put_in : length (put_mid n j xs zs) ≡ length xs
    length-put_in = let l = length-put in simp (length-append, length-take, length-drop) (omega arith)

    pub take-put_in : take (n + k) (put_mid n j xs zs) ≡ take (length xs) (take n xs ++ ys)
    take-put_in =
        let l = length-put in
        let room : length xs ≡ length (take n xs) + (length xs - n) = omega (arith, length-take-le n xs within) in
        take-put_mid n j xs zs (n + k) (omega arith) within ∙ ap (λ z. take n xs ++ z) (put ∙ ap (λ m. take m ys) fits ∙ take_min (length xs - n) ys)
        ∙ sym (ap (λ m. take m (take n xs ++ ys)) room ∙ take-append-add (take n xs) ys (length xs - n))

    pub drop-put_in : let now = put_mid n j xs zs in drop (length (take (n + k) now)) now ≡ drop (length (take (n + k) now)) xs
    drop-put_in =
        let l = length-put in
        drop-put_mid n j xs zs _ (simp length-take (omega (arith, length-put_in))) within (omega arith)

  -- what stays behind n elements stays behind more
  pub drop_later : (n m : ℕ) (xs ys : List X) → n ≤ m → drop n xs ≡ drop n ys → drop m xs ≡ drop m ys
  drop_later n m xs ys h e =
      let k : n + (m - n) ≡ m = omega arith in
      ap (λ z. drop z xs) (sym k) ∙ sym (drop-drop (m - n) n xs) ∙ ap (drop (m - n)) e ∙ drop-drop (m - n) n ys ∙ ap (λ z. drop z ys) k
