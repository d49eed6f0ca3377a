-- That every line is a proper wire, which is the law of the trait. The proof of a law may name nothing of `proofs`, so
-- its lemmas stand here; none of them has to be read to judge what is proved.
use Rattle.std.proofs.Common.{◌≡◌, ℕ, ◌<◌, ◌≤◌, true, false, cond, ◌&&◌, eqb, ltb, List, [], ◌∷◌, map, length, sym, refl, ap, ◌∙◌, ⊎_elim, arith}
use Rattle.std.specs.List.{filter}
use Rattle.std.proofs.lemmas.List.{length-take-le}
use Rattle.std.proofs.lemmas.Bool.{cases_Bool, eqb-true, eq-eqb, ltb-true, and_parts, and_from}
use Rattle.theory.specs.declared.message.Message.{Message}
use Rattle.theory.specs.Net.{put_pair, total}
use Rattle.theory.specs.Wire.{Proper}
use Rattle.theory.proofs.Nets.{pair_is, total-pair}
use Rattle.theory.proofs.Sums.{total_none}
use Rattle.line.specs.declared.letters.Letter.{Letter}
use Rattle.line.specs.declared.Line.{Line}
use Rattle.line.specs.Kept.{kept}
use Rattle.line.specs.Letters.{for_pair, pick, picked, joins}
use Rattle.line.specs.WireStates.{wire_state}

pub pick_yes : (f t : ℕ) (l : Letter) (ls : List Letter) → for_pair f t l ≡ true → pick f t (l ∷ ls) ≡ l.message ∷ pick f t ls
pick_yes f t l ls e = ap (λ b. map (λ x. x.message) (cond b (l ∷ filter (for_pair f t) ls) (filter (for_pair f t) ls))) e

pub pick_no : (f t : ℕ) (l : Letter) (ls : List Letter) → for_pair f t l ≡ false → pick f t (l ∷ ls) ≡ pick f t ls
pick_no f t l ls e = ap (λ b. map (λ x. x.message) (cond b (l ∷ filter (for_pair f t) ls) (filter (for_pair f t) ls))) e

-- a letter is for its own pair
pub own_pair : (l : Letter) → for_pair l.pair.from l.pair.to l ≡ true
own_pair l = and_from (eqb l.pair.from l.pair.from) (eqb l.pair.to l.pair.to) (eq-eqb l.pair.from l.pair.from refl) (eq-eqb l.pair.to l.pair.to refl)

-- and for no other
pub other_pair : (f t i j : ℕ) (l : Letter) → (i ≡ f → j ≡ t → ⊥) → for_pair f t l ≡ true → for_pair i j l ≡ false
other_pair f t i j l ne mine =
    ⊎_elim
    (λ e.
    let p = and_parts (eqb l.pair.from i) (eqb l.pair.to j) e in
    let q = and_parts (eqb l.pair.from f) (eqb l.pair.to t) mine in
    absurd (ne (sym (eqb-true l.pair.from i p.0) ∙ eqb-true l.pair.from f q.0) (sym (eqb-true l.pair.to j p.1) ∙ eqb-true l.pair.to t q.1)))
    (λ e. e) (cases_Bool (for_pair i j l))

-- a letter at the front
pub pick_front : (l : Letter) (ls : List Letter) → picked (l ∷ ls) ≡ put_pair (picked ls) l.pair.from l.pair.to (l.message ∷ pick l.pair.from l.pair.to ls)
pick_front l ls =
    pair_is (picked ls) (picked (l ∷ ls)) l.pair.from l.pair.to (l.message ∷ pick l.pair.from l.pair.to ls)
    (λ i j ne. pick_no i j l ls (other_pair l.pair.from l.pair.to i j l ne (own_pair l)))
    (pick_yes l.pair.from l.pair.to l ls (own_pair l))

-- the first letter and the others
pub joins-parts : (n : ℕ) (l : Letter) (ls : List Letter) → joins n (l ∷ ls) ≡ true → (l.pair.from < n) × (l.pair.to < n) × (joins n ls ≡ true)
joins-parts n l ls j =
    let p = and_parts (ltb l.pair.from n && ltb l.pair.to n) (joins n ls) j in
    let q = and_parts (ltb l.pair.from n) (ltb l.pair.to n) p.0 in
    (ltb-true l.pair.from n q.0, ltb-true l.pair.to n q.1, p.1)

-- a letter between boards is for no pair beyond them
pub no_sender : (n : ℕ) (ls : List Letter) → joins n ls ≡ true → (f t : ℕ) → n ≤ f → pick f t ls ≡ []
no_sender n [] j f t h = refl
no_sender n (l ∷ ls) j f t h =
    let p = joins-parts n l ls j in
    ⊎_elim
    (λ e. absurd (omega (arith, p.0, eqb-true l.pair.from f (and_parts (eqb l.pair.from f) (eqb l.pair.to t) e).0)))
    (λ e. pick_no f t l ls e ∙ no_sender n ls p.2 f t h) (cases_Bool (for_pair f t l))

pub no_taker : (n : ℕ) (ls : List Letter) → joins n ls ≡ true → (f t : ℕ) → n ≤ t → pick f t ls ≡ []
no_taker n [] j f t h = refl
no_taker n (l ∷ ls) j f t h =
    let p = joins-parts n l ls j in
    ⊎_elim
    (λ e. absurd (omega (arith, p.1, eqb-true l.pair.to t (and_parts (eqb l.pair.from f) (eqb l.pair.to t) e).1)))
    (λ e. pick_no f t l ls e ∙ no_taker n ls p.2 f t h) (cases_Bool (for_pair f t l))

-- then every letter waits on one of the pairs
pub total-picked : (n : ℕ) (ls : List Letter) → joins n ls ≡ true → total n (picked ls) ≡ length ls
total-picked n [] j = total_none n
total-picked n (l ∷ ls) j =
    let p = joins-parts n l ls j in
    let ms : List Message = l.message ∷ pick l.pair.from l.pair.to ls in
    let a : total n (picked (l ∷ ls)) ≡ _ = ap (total n) (pick_front l ls) in
    omega (arith, a, total-pair n (picked ls) l.pair.from l.pair.to ms p.0 p.1, total-picked n ls p.2)

pub proper_line : (w : Line) → Proper (wire_state w)
proper_line w =
    let l = w.letters in
    let ls = kept l in
    record {
      few = w.few;
      fits = omega (arith, total-picked w.boards ls w.joined, length-take-le l.used l.places.now l.fits, l.fits);
      no_sender = no_sender w.boards ls w.joined;
      no_taker = no_taker w.boards ls w.joined;
    }
