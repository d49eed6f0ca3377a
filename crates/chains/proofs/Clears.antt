-- A table whose places are all free.
use Rattle.std.proofs.Common.{◌≡◌, ℕ, zero, suc, ◌+◌, ◌-◌, ◌<◌, ◌≤◌, ◌⊎◌, List, length, get_or, set, replicate, sym, refl, ap, ◌∙◌, ap₂, inl, inr, add-one, arith}
use Rattle.std.proofs.lemmas.List.{length-set, length-replicate, get_or-replicate, get_or_past, get_or-set_same, get_or-set_other}
use Rattle.std.proofs.lemmas.Bool.{cases_eq, cases_lt}
use Rattle.chains.specs.declared.table.Chain.{Chain}
use Rattle.chains.specs.Spots.{spot, listed}
use Rattle.chains.specs.Changes.{Cleared}
use Rattle.chains.specs.Linkages.{Linkage, no_chain, chain_of, len_of, place_of, places, next_in, message_in, Linked}
use Rattle.chains.proofs.Spots.{spot_start, spot-step, listed_none}

pub is_no_chain : (c : Chain) → (c.first ≡ 0) × ((c.last ≡ 0) × (c.len ≡ 0)) → c ≡ no_chain
is_no_chain c e = λ i. record { first = e.0 i; last = e.1.0 i; len = e.1.1 i }

-- where each place is followed by the next number, they are counted
spot_count : (next : ℕ → ℕ) (n : ℕ) → ((k : ℕ) → k < n → next k ≡ k + 1) → (k : ℕ) → k ≤ n → spot next 0 k ≡ k
spot_count next n up zero l = spot_start next 0
spot_count next n up (suc k) l =
    ap (spot next 0) (sym (add-one k)) ∙ spot-step next 0 k ∙ ap next (spot_count next n up k (omega arith)) ∙ up k (omega arith) ∙ add-one k

same_everywhere : {A : Type 0} (n : ℕ) (a : A) (i : ℕ) → get_or (replicate n a) i a ≡ a
same_everywhere n a i = go (cases_lt i n)
  where
    go : (i < n) ⊎ (n ≤ i) → get_or (replicate n a) i a ≡ a
    go (inl l) = get_or-replicate n i a a l
    go (inr h) = get_or_past (replicate n a) i a (omega (arith, length-replicate n a))

module _ (t : Linkage) (nones : List Chain) (end n : ℕ) (empty : nones ≡ replicate 257 no_chain) (whole : n ≡ places t) (before : end ≡ n - 1)
    (up : (k : ℕ) → k < n → next_in t.links k ≡ k + 1) (chains : t.chains ≡ set nones 256 (record { first = 0; last = end; len = n })) where
  abbrev all : Chain
  all = record { first = 0; last = end; len = n }

  many : length nones ≡ 257
  many = ap length empty ∙ length-replicate 257 no_chain

  here : (i : ℕ) → i ≡ 256 → chain_of t i ≡ all
  here i e = ap₂ (λ cs h. get_or cs h no_chain) chains e ∙ get_or-set_same nones 256 all no_chain (omega (arith, many))

  else : (i : ℕ) → (i ≡ 256 → ⊥) → chain_of t i ≡ no_chain
  else i ne =
      ap (λ cs. get_or cs i no_chain) chains ∙ get_or-set_other nones 256 i all no_chain ne
      ∙ ap (λ cs. get_or cs i no_chain) empty ∙ same_everywhere 257 no_chain i

  -- only the last chain has places, and they are counted
  last_only : (i k : ℕ) → k < len_of t i → i ≡ 256
  last_only i k l = go (cases_eq i 256)
    where
      go : (i ≡ 256) ⊎ (i ≡ 256 → ⊥) → i ≡ 256
      go (inl e) = e
      go (inr ne) = let z : len_of t i ≡ 0 = ap (λ c. c.len) (else i ne) in absurd (omega arith)

  short : (i k : ℕ) → k < len_of t i → k < n
  short i k l = let e : len_of t i ≡ n = ap (λ c. c.len) (here i (last_only i k l)) in omega arith

  counts : (i k : ℕ) → k < len_of t i → place_of t i k ≡ k
  counts i k l =
      let lk = short i k l in
      ap (λ c. spot (next_in t.links) c.first k) (here i (last_only i k l)) ∙ spot_count (next_in t.links) n up k (omega arith)

  pub linked : Linked t
  linked = record {
    chained = ap length chains ∙ length-set nones 256 all ∙ many;
    apart = λ m. (
      last_only m.i m.k m.in_i ∙ sym (last_only m.j m.l m.in_j),
      sym (counts m.i m.k m.in_i) ∙ m.meet ∙ counts m.j m.l m.in_j,
    );
    within = λ i k l. omega (arith, counts i k l, short i k l, whole);
    ends = λ i k e.
        let l : k < len_of t i = omega arith in
        let a : (chain_of t i).last ≡ end = ap (λ c. c.last) (here i (last_only i k l)) in
        let b : len_of t i ≡ n = ap (λ c. c.len) (here i (last_only i k l)) in
        omega (arith, counts i k l, before, a, b, e);
  }

  pub cleared : Cleared n t
  cleared = record {
    room = sym whole;
    free = ap (λ c. c.len) (here 256 refl);
    none = λ i ne. ap (λ c. listed (λ k. message_in t.links (spot (next_in t.links) c.first k)) c.len) (else i ne) ∙ listed_none (λ k. message_in t.links (spot (next_in t.links) 0 k));
  }
