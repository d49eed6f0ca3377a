-- One call of a `Writer` after another.
use Rattle.std.proofs.Common.{◌≡◌, ℕ, ◌≤◌, List, [], ◌++◌, length, take, sym, refl, ap, ◌∙◌, arith, length-append, length-take}
use Rattle.std.proofs.lemmas.List.{append-nil, take_all}
use Rattle.text.specs.declared.writer.Writer.{Writer}
use Rattle.text.specs.Written.{Wrote, written, room}
use Rattle.text.proofs.Fitted.{take_twice, drop_later}

pub length-written : (w : Writer) → length (written w) ≤ room w
length-written w = simp length-take (omega arith)

pub wrote_nothing : (w : Writer) → Wrote w w []
wrote_nothing w =
    record {
      lent = refl;
      wide = refl;
      text = sym (ap (take (room w)) (append-nil (written w)) ∙ take_all (room w) (written w) (length-written w));
      after = refl;
    }

-- what is written only grows
pub wrote_grows : {v w : Writer} {xs : List ℕ} → Wrote v w xs → length (written v) ≤ length (written w)
wrote_grows {v} {w} {xs} a =
    let l = length-written v in
    let e : length (written w) ≡ length (take (room v) (written v ++ xs)) = ap length a.text in
    let n = length-take (room v) (written v ++ xs) in
    let m = length-append (written v) xs in
    omega arith

infixl 20 ◌then◌
pub ◌then◌ : {u v w : Writer} {xs ys : List ℕ} → Wrote u v xs → Wrote v w ys → Wrote u w (xs ++ ys)
◌then◌ {u} {v} {w} {xs} {ys} a b =
    record {
      lent = b.lent ∙ a.lent;
      wide = b.wide ∙ a.wide;
      text = b.text ∙ ap (λ n. take n (written v ++ ys)) a.wide ∙ ap (λ z. take (room u) (z ++ ys)) a.text ∙ take_twice (room u) (written u) xs ys;
      after = b.after ∙ drop_later (length (written v)) (length (written w)) v.place.now u.place.now (wrote_grows b) a.after;
    }
