-- Nets that differ on one pair, and how many messages wait on them.
use Rattle.std.proofs.Common.{◌≡◌, ℕ, ◌+◌, ◌<◌, ◌≤◌, cond, ◌&&◌, eqb, ◌⊎◌, List, length, sym, refl, ap, ◌∙◌, inl, inr, arith}
use mathlib.Core.Path.{fun_ext}
use Rattle.std.proofs.lemmas.Bool.{cases_eq, eq-eqb, ne_eqb, and_from, and_left, and_right}
use Rattle.theory.specs.declared.message.Message.{Message}
use Rattle.theory.specs.Net.{Net, put_pair, sum_to, total}
use Rattle.theory.proofs.Sums.{sum_same, sum_but, sum_part}

pub pair_same : (net : Net) (f t : ℕ) (ms : List Message) → put_pair net f t ms f t ≡ ms
unfolding put_pair
pair_same net f t ms = rw (and_from (eqb f f) (eqb t t) (eq-eqb f f refl) (eq-eqb t t refl))

pub pair_other : (net : Net) (f t : ℕ) (ms : List Message) (i j : ℕ) → (i ≡ f → j ≡ t → ⊥) → put_pair net f t ms i j ≡ net i j
unfolding put_pair
pair_other net f t ms i j ne = go (cases_eq i f)
  where
    go : (i ≡ f) ⊎ (i ≡ f → ⊥) → cond (eqb i f && eqb j t) ms (net i j) ≡ net i j
    go (inl e) = rw (and_right (eqb i f) (eqb j t) (ne_eqb j t (ne e)))
    go (inr n) = rw (and_left (eqb i f) (eqb j t) (ne_eqb i f n))

-- a net that has ms on one pair and is as before elsewhere
pub pair_is : (net g : Net) (f t : ℕ) (ms : List Message) → ((i j : ℕ) → (i ≡ f → j ≡ t → ⊥) → g i j ≡ net i j) → g f t ≡ ms → g ≡ put_pair net f t ms
pair_is net g f t ms same here = fun_ext (λ i. fun_ext (λ j. go i j (cases_eq i f) (cases_eq j t)))
  where
    go : (i j : ℕ) → (i ≡ f) ⊎ (i ≡ f → ⊥) → (j ≡ t) ⊎ (j ≡ t → ⊥) → g i j ≡ put_pair net f t ms i j
    go i j (inl a) (inl b) = rw (a, b) (here ∙ sym (pair_same net f t ms))
    go i j (inl a) (inr n) = same i j (λ _. n) ∙ sym (pair_other net f t ms i j (λ _. n))
    go i j (inr n) _ = same i j (λ e _. n e) ∙ sym (pair_other net f t ms i j (λ e _. n e))

pub pair-pair : (net : Net) (f t : ℕ) (xs ys : List Message) → put_pair (put_pair net f t xs) f t ys ≡ put_pair net f t ys
pair-pair net f t xs ys =
    pair_is net (put_pair (put_pair net f t xs) f t ys) f t ys
    (λ i j ne. pair_other (put_pair net f t xs) f t ys i j ne ∙ pair_other net f t xs i j ne) (pair_same (put_pair net f t xs) f t ys)

-- what waits there already
pub pair_own : (net : Net) (f t : ℕ) (ms : List Message) → net f t ≡ ms → net ≡ put_pair net f t ms
pair_own net f t ms e = pair_is net net f t ms (λ i j ne. refl) e

pub pair_within_total : (n : ℕ) (net : Net) (f t : ℕ) → f < n → t < n → length (net f t) ≤ total n net
pair_within_total n net f t lf lt =
    omega (arith, sum_part n t (λ to. length (net f to)) lt, sum_part n f (λ from. sum_to n (λ to. length (net from to))) lf)

-- other messages on one pair
pub total-pair : (n : ℕ) (net : Net) (f t : ℕ) (ms : List Message) → f < n → t < n → total n (put_pair net f t ms) + length (net f t) ≡ total n net + length ms
total-pair n net f t ms lf lt =
    let new : Net = put_pair net f t ms in
    let row : ℕ → ℕ = λ from. sum_to n (λ to. length (net from to)) in
    let row' : ℕ → ℕ = λ from. sum_to n (λ to. length (new from to)) in
    let a : sum_to n row' + row f ≡ sum_to n row + row' f =
    sum_but n f row row' lf (λ j ne. sum_same n _ _ (λ i _. ap length (pair_other net f t ms j i (λ e _. ne e)))) in
    let b : row' f + length (net f t) ≡ row f + length (new f t) =
    sum_but n t (λ to. length (net f to)) (λ to. length (new f to)) lt (λ j ne. ap length (pair_other net f t ms f j (λ _. ne))) in
    let c : length (new f t) ≡ length ms = ap length (pair_same net f t ms) in
    omega (arith, a, b, c)
