-- What an append and a removal do to the messages of each pair.
use Rattle.std.proofs.Common.{◌≡◌, ℕ, suc, ◌+◌, ◌<◌, true, false, cond, not, List, [], ◌∷◌, ◌++◌, map, length, get_or, Some, None, Option, sym, refl, ap, ◌∙◌, subst, ⊎_elim, arith}
use Rattle.std.specs.List.{remove, filter, position, position_or_len}
use Rattle.std.proofs.lemmas.List.{append-nil, map-append}
use Rattle.std.proofs.lemmas.List.Elements.{filter-append}
use Rattle.std.proofs.lemmas.List.Sums.{prefix_len-le-length}
use Rattle.std.proofs.lemmas.Bool.{cases_Bool, cases_lt, lt-ltb, le-ltb}
use Rattle.theory.specs.declared.message.Message.{Message}
use Rattle.theory.specs.declared.message.Pair.{Pair}
use Rattle.theory.specs.Net.{put_pair}
use Rattle.theory.proofs.Nets.{pair_is}
use Rattle.line.specs.declared.letters.Letter.{Letter}
use Rattle.line.specs.Letters.{letter, for_pair, pick, picked}
use Rattle.line.specs.Propers.{pick_yes, pick_no, own_pair, other_pair}

-- the place of a pair's first letter, or the length
abbrev pub first_of : ℕ → ℕ → List Letter → ℕ
first_of f t ls = position_or_len (for_pair f t) ls

first_yes : (f t : ℕ) (l : Letter) (ls : List Letter) → for_pair f t l ≡ true → first_of f t (l ∷ ls) ≡ 0
first_yes f t l ls e = ap (λ b. cond (not b) (1 + first_of f t ls) 0) e

first_no : (f t : ℕ) (l : Letter) (ls : List Letter) → for_pair f t l ≡ false → first_of f t (l ∷ ls) ≡ suc (first_of f t ls)
first_no f t l ls e = omega (arith, ap (λ b. cond (not b) (1 + first_of f t ls) 0) e)

pub pick-append : (f t : ℕ) (xs ys : List Letter) → pick f t (xs ++ ys) ≡ pick f t xs ++ pick f t ys
pick-append f t xs ys =
    ap (map (λ l. l.message)) (filter-append (for_pair f t) xs ys) ∙ map-append (λ l. l.message) (filter (for_pair f t) xs) (filter (for_pair f t) ys)

-- a letter behind the others
pub pick-send : (p : Pair) (m : Message) (ls : List Letter) → picked (ls ++ letter p m ∷ []) ≡ put_pair (picked ls) p.from p.to (pick p.from p.to ls ++ m ∷ [])
pick-send p m ls =
    let f = p.from in
    let t = p.to in
    let x : Letter = letter p m in
    pair_is (picked ls) (picked (ls ++ x ∷ [])) f t (pick f t ls ++ m ∷ [])
    (λ i j ne.
    pick-append i j ls (x ∷ []) ∙ ap (λ z. pick i j ls ++ z) (pick_no i j x [] (other_pair f t i j x ne (own_pair x))) ∙ append-nil (pick i j ls))
    (pick-append f t ls (x ∷ []) ∙ ap (λ z. pick f t ls ++ z) (pick_yes f t x [] (own_pair x)))

-- the first letter of a pair taken out
pick_first : (f t : ℕ) (ls : List Letter) (d : Letter) → first_of f t ls < length ls
    → pick f t ls ≡ (get_or ls (first_of f t ls) d).message ∷ pick f t (remove ls (first_of f t ls))
pick_first f t [] d h = absurd (omega arith)
pick_first f t (l ∷ ls) d h =
    ⊎_elim
    (λ e.
    let z = first_yes f t l ls e in
    pick_yes f t l ls e ∙ sym (ap (λ n. (get_or (l ∷ ls) n d).message ∷ pick f t (remove (l ∷ ls) n)) z))
    (λ e.
    let z = first_no f t l ls e in
    let h' : first_of f t ls < length ls = omega (arith, subst (λ n. n < length (l ∷ ls)) z h) in
    pick_no f t l ls e ∙ pick_first f t ls d h'
    ∙ ap (λ w. (get_or ls (first_of f t ls) d).message ∷ w) (sym (pick_no f t l (remove ls (first_of f t ls)) e))
    ∙ sym (ap (λ n. (get_or (l ∷ ls) n d).message ∷ pick f t (remove (l ∷ ls) n)) z))
    (cases_Bool (for_pair f t l))

-- leaves every other pair as it was
pick_other : (f t i j : ℕ) (ls : List Letter) → (i ≡ f → j ≡ t → ⊥) → pick i j (remove ls (first_of f t ls)) ≡ pick i j ls
pick_other f t i j [] ne = refl
pick_other f t i j (l ∷ ls) ne =
    ⊎_elim
    (λ e. ap (λ n. pick i j (remove (l ∷ ls) n)) (first_yes f t l ls e) ∙ sym (pick_no i j l ls (other_pair f t i j l ne e)))
    (λ e.
    ap (λ n. pick i j (remove (l ∷ ls) n)) (first_no f t l ls e)
    ∙ ⊎_elim
    (λ m. pick_yes i j l (remove ls (first_of f t ls)) m ∙ ap (λ z. l.message ∷ z) (pick_other f t i j ls ne) ∙ sym (pick_yes i j l ls m))
    (λ m. pick_no i j l (remove ls (first_of f t ls)) m ∙ pick_other f t i j ls ne ∙ sym (pick_no i j l ls m))
    (cases_Bool (for_pair i j l)))
    (cases_Bool (for_pair f t l))

-- a take: the message, and what waits then
pub pick-take : (f t at : ℕ) (m : Message) (ls : List Letter) → at ≡ first_of f t ls → at < length ls → ((d : Letter) → m ≡ (get_or ls at d).message)
    → pick f t ls ≡ m ∷ pick f t (remove ls at)
pick-take f t at m ls e h read =
    let d : Letter = letter (record { from = 0; to = 0 }) m in
    pick_first f t ls d (omega (arith, e)) ∙ ap (λ n. (get_or ls n d).message ∷ pick f t (remove ls n)) (sym e)
    ∙ ap (λ z. z ∷ pick f t (remove ls at)) (sym (read d))

pub pick_removed : (f t at : ℕ) (ls : List Letter) → at ≡ first_of f t ls
    → picked (remove ls at) ≡ put_pair (picked ls) f t (pick f t (remove ls at))
pick_removed f t at ls e =
    pair_is (picked ls) (picked (remove ls at)) f t (pick f t (remove ls at))
    (λ i j ne. ap (λ n. pick i j (remove ls n)) e ∙ pick_other f t i j ls ne)
    refl

-- a pair that has no letter
pub pick_none : (f t : ℕ) (ls : List Letter) → length ls ≡ first_of f t ls → pick f t ls ≡ []
pick_none f t [] h = refl
pick_none f t (l ∷ ls) h =
    ⊎_elim (λ e. absurd (omega (arith, h, first_yes f t l ls e)))
    (λ e. pick_no f t l ls e ∙ pick_none f t ls (omega (arith, h, first_no f t l ls e)))
    (cases_Bool (for_pair f t l))

-- what a look-up answers
pub find_some : (f t at : ℕ) (ls : List Letter) → Some at ≡ position (for_pair f t) ls → (at ≡ first_of f t ls) × (at < length ls)
find_some f t at ls e =
    ⊎_elim
    (λ l. let same : Some at ≡ Some (first_of f t ls) = e ∙ rw (lt-ltb (first_of f t ls) (length ls) l) refl in let is : at ≡ first_of f t ls = cc in (is, omega arith))
    (λ h. let none : Some at ≡ None = e ∙ rw (le-ltb (first_of f t ls) (length ls) h) refl in absurd cc)
    (cases_lt (first_of f t ls) (length ls))

pub find_none : (f t : ℕ) (ls : List Letter) → ◌≡◌ {A = Option ℕ} None (position (for_pair f t) ls) → length ls ≡ first_of f t ls
find_none f t ls e =
    ⊎_elim
    (λ l. let some : None ≡ Some (first_of f t ls) = e ∙ rw (lt-ltb (first_of f t ls) (length ls) l) refl in absurd cc)
    (λ h. omega (arith, prefix_len-le-length (λ l. not (for_pair f t l)) ls))
    (cases_lt (first_of f t ls) (length ls))
