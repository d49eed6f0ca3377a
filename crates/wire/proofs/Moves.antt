-- Messages moved from one wire to another: one after the other on a pair, then pair by pair.
use Rattle.std.proofs.Common.{◌≡◌, ℕ, ◌+◌, ◌-◌, ◌<◌, ◌≤◌, Bool, true, false, cond, ◌||◌, eqb, ltb, ◌⊎◌, List, [], ◌∷◌, ◌++◌, length, get_or, drop, Ok, Err, Result, sym, refl, ap, ◌∙◌, subst, ap₂, inl, inr, append_assoc, arith}
use mathlib.Core.Path.{fun_ext}
use lib.ListN as list
use Rattle.std.proofs.lemmas.List.{append-nil, drop_more, drop_all, take_all, take_more, length-append, length-take-le}
use Rattle.std.proofs.lemmas.Bool.{and_from, and_left, and_right, eq-eqb, ne_eqb, cases_eq, cases_lt, lt-ltb, le-ltb}
use Rattle.std.proofs.lemmas.Bool.Decides.{nat_tests}
use Rattle.theory.specs.declared.fault.WireFault.{WireFault}
use Rattle.theory.specs.declared.message.Message.{Message}
use Rattle.theory.specs.declared.message.Message.TheVariants.{Want}
use Rattle.theory.specs.Net.{Net, put_pair, total}
use Rattle.theory.specs.Wire.{WireState, Proper, with_pair, send, take, load}
use Rattle.theory.proofs.Nets.{pair_is, total-pair, pair_within_total, pair_own}
use Rattle.wire.proofs.Rows.{rows}
use Rattle.wire.specs.Moves.{Pairs, one_pair, row, taken, given, with_net, Ready, Moved}
use Rattle.wire.specs.Transfer.{transferred}
use Rattle.wire.proofs.Pairs.{take_is, send_is}

-- an answer is one of the two
pub not_refused : {X : Type 0} (r : Result X WireFault) (x : X) (e : WireFault) → r ≡ Ok x → r ≡ Err e → ⊥
not_refused r x e a b = let z : ◌≡◌ {A = ℕ} 0 1 = cc in omega arith

pub same_answer : {X : Type 0} (r : Result X WireFault) (x y : X) → r ≡ Ok x → r ≡ Ok y → x ≡ y
same_answer r x y a b = cc

-- one pair, of which the first i messages are moved
abbrev pub left_after : WireState → ℕ → ℕ → ℕ → WireState
left_after s f g i = with_pair f g (drop i (s.waiting f g)) s

abbrev pub came_after : WireState → WireState → ℕ → ℕ → ℕ → WireState
came_after s t f g i = with_pair f g (t.waiting f g ++ list.take i (s.waiting f g)) t

pub left_none : (s : WireState) (f g : ℕ) → s ≡ left_after s f g 0
left_none s f g = ap (λ net. with_net net s) (pair_own s.waiting f g (s.waiting f g) refl)

pub came_none : (s t : WireState) (f g : ℕ) → t ≡ came_after s t f g 0
came_none s t f g = ap (λ net. with_net net t) (pair_own t.waiting f g (t.waiting f g ++ []) (sym (append-nil (t.waiting f g))))

given_pair : (x y : Net) (f g : ℕ) → given (one_pair f g) x y ≡ put_pair y f g (y f g ++ x f g)
unfolding given
given_pair x y f g =
    pair_is y (given (one_pair f g) x y) f g (y f g ++ x f g) (λ i j ne. go i j ne (cases_eq i f)) (rw (and_from (eqb f f) (eqb g g) (eq-eqb f f refl) (eq-eqb g g refl)))
  where
    go : (i j : ℕ) → (i ≡ f → j ≡ g → ⊥) → (i ≡ f) ⊎ (i ≡ f → ⊥) → cond (one_pair f g i j) (y i j ++ x i j) (y i j) ≡ y i j
    go i j ne (inl e) = rw (and_right (eqb i f) (eqb j g) (ne_eqb j g (ne e)))
    go i j ne (inr n) = rw (and_left (eqb i f) (eqb j g) (ne_eqb i f n))

module _ (s t : WireState) (ready : Ready s t) (f g : ℕ) (lf : f < s.boards) (lg : g < s.boards) where
  -- what a take finds
  pub take_turn : (i : ℕ) → i < length (s.waiting f g) → take f g (left_after s f g i) ≡ (left_after s f g (i + 1), Ok (get_or (s.waiting f g) i Want))
  take_turn i l =
      ap (λ ms. take f g (with_pair f g ms s)) (drop_more (s.waiting f g) i Want l)
      ∙ take_is f g s lf lg (get_or (s.waiting f g) i Want) (drop (i + 1) (s.waiting f g))

  -- there is room for it
  room_turn : (i : ℕ) → i < length (s.waiting f g) → total t.boards (came_after s t f g i).waiting ≡ t.capacity → ⊥
  room_turn i l full =
      let old = t.waiting f g in
      let ms = list.take i (s.waiting f g) in
      omega (
        arith,
        full,
        ready.joins,
        ready.room,
        length-append old ms,
        length-take-le i (s.waiting f g) (omega arith),
        total-pair t.boards t.waiting f g (old ++ ms) (omega (arith, ready.joins)) (omega (arith, ready.joins)),
        pair_within_total s.boards s.waiting f g lf lg,
      )

  pub send_turn : (i : ℕ) → i < length (s.waiting f g) → send f g (get_or (s.waiting f g) i Want) (came_after s t f g i) ≡ (came_after s t f g (i + 1), Ok tt)
  send_turn i l =
      let old = t.waiting f g in
      let ms = s.waiting f g in
      send_is f g t (omega (arith, ready.joins)) (omega (arith, ready.joins)) (get_or ms i Want) (old ++ list.take i ms) (room_turn i l)
      ∙ ap (λ xs. (with_pair f g xs t, Ok tt)) (append_assoc old (list.take i ms) (get_or ms i Want ∷ []) ∙ ap (λ xs. old ++ xs) (sym (take_more ms i Want l)))

  -- what a turn leaves, told by the answers of the wires
  pub take_done : (i : ℕ) → i < length (s.waiting f g) → (w w' : WireState) (r : Result Message WireFault) → w ≡ left_after s f g i → (w', r) ≡ take f g w
      → (w' ≡ left_after s f g (i + 1)) × (r ≡ Ok (get_or (s.waiting f g) i Want))
  take_done i l w w' r was step = let e = step ∙ ap (take f g) was ∙ take_turn i l in (ap (λ p. p.0) e, ap (λ p. p.1) e)

  pub send_done : (i : ℕ) → i < length (s.waiting f g) → (m : Message) (w w' : WireState) (r : Result (Unit {0}) WireFault) → m ≡ get_or (s.waiting f g) i Want
      → w ≡ came_after s t f g i → (w', r) ≡ send f g m w → (w' ≡ came_after s t f g (i + 1)) × (r ≡ Ok tt)
  send_done i l m w w' r is was step = let e = step ∙ ap₂ (send f g) is was ∙ send_turn i l in (ap (λ p. p.0) e, ap (λ p. p.1) e)

  -- the whole pair
  pub pair_moved : (i : ℕ) → length (s.waiting f g) ≤ i → Moved (one_pair f g) s t (left_after s f g i) (came_after s t f g i)
  unfolding taken put_pair
  pair_moved i l =
      let old = t.waiting f g in
      let ms = s.waiting f g in
      let none : drop i ms ≡ [] = drop_all i ms l in
      let all : list.take i ms ≡ ms = take_all i ms l in
      let a = total-pair s.boards s.waiting f g (drop i ms) lf lg in
      let b = total-pair t.boards t.waiting f g (old ++ list.take i ms) (omega (arith, ready.joins)) (omega (arith, ready.joins)) in
      record {
        left = ap (λ xs. with_pair f g xs s) none;
        came = ap (λ xs. with_pair f g (old ++ xs) t) all ∙ ap (λ net. with_net net t) (sym (given_pair s.waiting t.waiting f g));
        loads = omega (arith, a, b, ap length none, ap length all, length-append old (list.take i ms));
      }

-- some pairs and then others
abbrev either : Pairs → Pairs → Pairs
either p q f t = p f t || q f t

taken_both : (p q : Bool) (x : List Message) → cond q [] (cond p [] x) ≡ cond (p || q) [] x
taken_both true true x = refl
taken_both true false x = refl
taken_both false true x = refl
taken_both false false x = refl

given_both : (p q : Bool) (x y : List Message) → cond q (cond p (y ++ x) y ++ cond p [] x) (cond p (y ++ x) y) ≡ cond (p || q) (y ++ x) y
given_both true true x y = append-nil (y ++ x)
given_both true false x y = refl
given_both false true x y = refl
given_both false false x y = refl

pub then_moved : (p q : Pairs) (s t s₁ t₁ s₂ t₂ : WireState) → Moved p s t s₁ t₁ → Moved q s₁ t₁ s₂ t₂ → Moved (either p q) s t s₂ t₂
unfolding taken given
then_moved p q s t s₁ t₁ s₂ t₂ first then =
    record {
      left = then.left ∙ ap (λ w. with_net (taken q w.waiting) w) first.left
          ∙ ap (λ net. with_net net s) (fun_ext (λ i. fun_ext (λ j. taken_both (p i j) (q i j) (s.waiting i j))));
      came = then.came ∙ ap₂ (λ v w. with_net (given q v.waiting w.waiting) w) first.left first.came
          ∙ ap (λ net. with_net net t) (fun_ext (λ i. fun_ext (λ j. given_both (p i j) (q i j) (s.waiting i j) (t.waiting i j))));
      loads = then.loads ∙ first.loads;
    }

same_moved : (p q : Pairs) (s t s' t' : WireState) → ((i j : ℕ) → p i j ≡ q i j) → Moved p s t s' t' → Moved q s t s' t'
same_moved p q s t s' t' same m = let P : Pairs → Type 0 = λ x. Moved x s t s' t' in subst P (fun_ext (λ i. fun_ext (λ j. same i j))) m

-- no pair
none_moved : (p : Pairs) (s t : WireState) → ((i j : ℕ) → p i j ≡ false) → Moved p s t s t
unfolding taken given
none_moved p s t none = same_moved (λ _ _. false) p s t s t (λ i j. sym (none i j)) (record { left = refl; came = refl; loads = refl })

pub row_none : (from : ℕ) (s t : WireState) → Moved (row from 0) s t s t
row_none from s t = none_moved (row from 0) s t (λ i j. and_right (eqb i from) (ltb j 0) (le-ltb j 0 (omega arith)))

pub row_more : (from k : ℕ) (s t s₁ t₁ s₂ t₂ : WireState) → Moved (row from k) s t s₁ t₁ → Moved (one_pair from k) s₁ t₁ s₂ t₂ → Moved (row from (k + 1)) s t s₂ t₂
row_more from k s t s₁ t₁ s₂ t₂ first then =
    same_moved (either (row from k) (one_pair from k)) (row from (k + 1)) s t s₂ t₂ (λ i j. grind (arith, nat_tests)) (then_moved (row from k) (one_pair from k) s t s₁ t₁ s₂ t₂ first then)

pub rows_none : (n : ℕ) (s t : WireState) → Moved (rows 0 n) s t s t
rows_none n s t = none_moved (rows 0 n) s t (λ i j. and_left (ltb i 0) (ltb j n) (le-ltb i 0 (omega arith)))

pub rows_more : (n k : ℕ) (s t s₁ t₁ s₂ t₂ : WireState) → Moved (rows k n) s t s₁ t₁ → Moved (row k n) s₁ t₁ s₂ t₂ → Moved (rows (k + 1) n) s t s₂ t₂
rows_more n k s t s₁ t₁ s₂ t₂ first then =
    same_moved (either (rows k n) (row k n)) (rows (k + 1) n) s t s₂ t₂ (λ i j. grind (arith, nat_tests)) (then_moved (rows k n) (row k n) s t s₁ t₁ s₂ t₂ first then)

-- from what the wires tell
pub is_ready : (s t : WireState) (ns nt capacity here wanted : ℕ) → Proper t → ns ≡ s.boards → nt ≡ t.boards → capacity ≡ t.capacity → here ≡ load t → wanted ≡ load s
    → ns ≤ nt → wanted ≤ capacity - here → Ready s t
is_ready s t ns nt capacity here wanted proper a b k h w fewer fits =
    record { joins = omega (arith, a, b); room = omega (arith, k, h, w, proper.fits) }

-- every pair
every_pair : (s t s' t' : WireState) → Proper s → Ready s t → Moved (rows s.boards s.boards) s t s' t'
    → ◌≡◌ {A = (WireState × WireState) × Result (Unit {0}) WireFault} ((s', t'), Ok tt) (transferred s t)
unfolding taken given
every_pair s t s' t' proper ready m =
    rw (le-ltb t.boards s.boards ready.joins, le-ltb (t.capacity - load t) (load s) (omega (arith, ready.room)))
    (ap₂ (λ v w. ((v, w), Ok tt)) (m.left ∙ ap (λ net. with_net net s) (fun_ext (λ i. fun_ext (λ j. rest i j (cases_lt i s.boards) (cases_lt j s.boards)))))
    (m.came ∙ ap (λ net. with_net net t) (fun_ext (λ i. fun_ext (λ j. both i j (cases_lt i s.boards) (cases_lt j s.boards))))))
  where
    rest : (i j : ℕ) → (i < s.boards) ⊎ (s.boards ≤ i) → (j < s.boards) ⊎ (s.boards ≤ j) → cond (rows s.boards s.boards i j) [] (s.waiting i j) ≡ []
    rest i j (inl a) (inl b) = rw (and_from (ltb i s.boards) (ltb j s.boards) (lt-ltb i s.boards a) (lt-ltb j s.boards b))
    rest i j (inl a) (inr b) = rw (and_right (ltb i s.boards) (ltb j s.boards) (le-ltb j s.boards b)) (proper.no_taker i j b)
    rest i j (inr a) _ = rw (and_left (ltb i s.boards) (ltb j s.boards) (le-ltb i s.boards a)) (proper.no_sender i j a)

    both : (i j : ℕ) → (i < s.boards) ⊎ (s.boards ≤ i) → (j < s.boards) ⊎ (s.boards ≤ j) → cond (rows s.boards s.boards i j) (t.waiting i j ++ s.waiting i j) (t.waiting i j) ≡ t.waiting i j ++ s.waiting i j
    both i j (inl a) (inl b) = rw (and_from (ltb i s.boards) (ltb j s.boards) (lt-ltb i s.boards a) (lt-ltb j s.boards b))
    both i j (inl a) (inr b) = rw (and_right (ltb i s.boards) (ltb j s.boards) (le-ltb j s.boards b), proper.no_taker i j b) (sym (append-nil (t.waiting i j)))
    both i j (inr a) _ = rw (and_left (ltb i s.boards) (ltb j s.boards) (le-ltb i s.boards a), proper.no_sender i j a) (sym (append-nil (t.waiting i j)))

pub all_moved : (s t s' t' : WireState) (k n : ℕ) → Proper s → Ready s t → k ≡ s.boards → n ≡ s.boards → Moved (rows k n) s t s' t'
    → ◌≡◌ {A = (WireState × WireState) × Result (Unit {0}) WireFault} ((s', t'), Ok tt) (transferred s t)
all_moved s t s' t' k n proper ready a b m =
    let P : Pairs → Type 0 = λ p. Moved p s t s' t' in
    every_pair s t s' t' proper ready (subst P (ap₂ rows a b) m)
