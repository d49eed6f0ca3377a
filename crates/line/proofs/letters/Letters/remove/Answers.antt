use Rattle.std.proofs.Common.{◌≡◌, ℕ, suc, ◌+◌, ◌-◌, ◌<◌, ◌≤◌, List, [], ◌++◌, length, take, drop, sym, ap, ◌∙◌, ap₂, append_assoc, add-one, arith, length-append, length-drop, length-take}
use Rattle.std.specs.List.{remove}
use Rattle.std.proofs.lemmas.List.{append-nil, drop_all, length-take-le, take-take, take_all, take-append-le, drop-take, drop-drop}
use Rattle.std.proofs.lemmas.Slice.{take-put_mid}
use borrow.Rule.Slice.PartMut.{put_mid, mid_of}
use Rattle.line.specs.declared.letters.Letter.{Letter}
use Rattle.line.proofs.letters.Letters.remove.Goals as goal
use Rattle.line.proofs.letters.Letters.remove.Goals.{then-at-used, else-at-used}

-- the letters from a place on, turned by one, without the last
gap_closed : (xs turned : List Letter) (at used : ℕ) → at < used → used ≤ length xs
    → turned ≡ drop 1 (mid_of at (used - at) xs) ++ take 1 (mid_of at (used - at) xs)
    → take (used - 1) (put_mid at (used - at) xs turned) ≡ remove (take used xs) at
gap_closed xs turned at used l h e =
    let n : ℕ = used - suc at in
    let mid : List Letter = mid_of at (used - at) xs in
    let ys : List Letter = put_mid at (used - at) xs turned in
    let rest : List Letter = take n (drop (suc at) xs) in
    let k : used - at ≡ 1 + n = omega arith in
    let m : drop 1 mid ≡ rest = ap (λ z. drop 1 (take z (drop at xs))) k ∙ drop-take 1 n (drop at xs) ∙ ap (take n) (drop-drop 1 at xs ∙ ap (λ z. drop z xs) (add-one at)) in
    let many : length (take at xs ++ rest) ≡ used - 1 = simp (length-append, length-take, length-drop) (omega arith) in
    let len : length turned ≡ used - at = omega (arith, ap length e, length-append (drop 1 mid) (take 1 mid), length-drop 1 mid, length-take 1 mid, length-take-le (used - at) (drop at xs) (simp length-drop (omega arith))) in
    sym (take-take (used - 1) used ys (omega arith))
    ∙ ap (take (used - 1)) (take-put_mid at (used - at) xs turned used (omega arith) (omega arith) ∙ ap (λ z. take at xs ++ z) (e ∙ ap (λ z. z ++ take 1 mid) m) ∙ sym (append_assoc (take at xs) rest (take 1 mid)))
    ∙ take-append-le (used - 1) (take at xs ++ rest) (take 1 mid) (omega arith)
    ∙ take_all (used - 1) (take at xs ++ rest) (omega arith)
    ∙ sym (ap₂ (λ u v. u ++ v) (take-take at used xs (omega arith)) (ap (λ z. drop (suc at) (take z xs)) (omega arith) ∙ drop-take (suc at) n xs))

-- nothing stands behind the last letter
last_gone : (xs : List Letter) (at used : ℕ) → at < used → used ≤ at + 1 → take (used - 1) xs ≡ remove (take used xs) at
last_gone xs at used l h =
    let none : drop (suc at) (take used xs) ≡ [] = drop_all (suc at) (take used xs) (simp length-take (omega arith)) in
    sym (ap₂ (λ u v. u ++ v) (take-take at used xs (omega arith)) none ∙ append-nil (take at xs) ∙ ap (λ n. take n xs) (omega arith))

pub returns-clause-closed : goal.returns-clause-closed
returns-clause-closed c =
    let l = c.args.self.now in
    let xs = l.places.now in
    let within : c.args.at < l.used = omega (arith, c.requires.there, length-take-le l.used xs l.fits) in
    elim c.if-at-used.branch [
      | then-at-used w ↦ rw w.self-is (gap_closed xs w.first_to_last.new.letters c.args.at l.used within l.fits w.first_to_last.ensures)
      | else-at-used w ↦ rw w.self-is (last_gone xs c.args.at l.used within (omega (arith, w.if-at-used.false)))
    ]
