-- A chain that loses its first place.
use Rattle.std.proofs.Common.{◌≡◌, ℕ, ◌+◌, ◌-◌, ◌<◌, cond, eqb, ◌⊎◌, ◌∷◌, length, get_or, set, sym, refl, ap, ◌∙◌, ap₂, inl, inr, add-one, arith}
use Rattle.std.proofs.lemmas.List.{length-set, get_or-set_same, get_or-set_other}
use Rattle.std.proofs.lemmas.Bool.{cases_eq, eq-eqb, ne_eqb}
use Rattle.chains.specs.declared.table.Chain.{Chain}
use Rattle.chains.specs.Spots.{spot, listed}
use Rattle.chains.specs.Changes.{Detached}
use Rattle.chains.specs.Linkages.{Linkage, linkage_of, no_chain, chain_of, len_of, place_of, places, next_in, message_in, messages, Linked, Meeting}
use Rattle.chains.proofs.Spots.{spot_start, spot_next, listed_first}

-- the spot in chain j, before chain i lost its first place, of what is now at k
unfoldable up : ℕ → ℕ → ℕ → ℕ
up i j k = cond (eqb j i) (k + 1) k

up_here : (i j k : ℕ) → j ≡ i → up i j k ≡ k + 1
unfolding up
up_here i j k e = rw (eq-eqb j i e)

up_else : (i j k : ℕ) → (j ≡ i → ⊥) → up i j k ≡ k
unfolding up
up_else i j k ne = rw (ne_eqb j i ne)

up_same : (i j h k l : ℕ) → j ≡ h → up i j k ≡ up i h l → k ≡ l
up_same i j h k l e same = go (cases_eq j i)
  where
    go : (j ≡ i) ⊎ (j ≡ i → ⊥) → k ≡ l
    go (inl y) = omega (arith, up_here i j k y, up_here i h l (sym e ∙ y), same)
    go (inr n) = omega (arith, up_else i j k n, up_else i h l (λ y. n (e ∙ y)), same)

pub first_within : (s : Linkage) (i : ℕ) → Linked s → 0 < len_of s i → (chain_of s i).first < places s
first_within s i ok some = omega (arith, spot_start (next_in s.links) (chain_of s i).first, ok.within i 0 some)

module _ (s t : Linkage) (i : ℕ) (ok : Linked s) (li : i < 257) (some : 0 < len_of s i) (links : t.links ≡ s.links)
    (chains : t.chains ≡ set s.chains i (record { first = next_in s.links (chain_of s i).first; last = (chain_of s i).last; len = len_of s i - 1 })) where
  abbrev new : Chain
  new = record { first = next_in s.links (chain_of s i).first; last = (chain_of s i).last; len = len_of s i - 1 }

  here : (j : ℕ) → j ≡ i → chain_of t j ≡ new
  here j e = ap₂ (λ cs h. get_or cs h no_chain) chains e ∙ get_or-set_same s.chains i new no_chain (omega (arith, ok.chained))

  else : (j : ℕ) → (j ≡ i → ⊥) → chain_of t j ≡ chain_of s j
  else j ne = ap (λ cs. get_or cs j no_chain) chains ∙ get_or-set_other s.chains i j new no_chain ne

  room : places t ≡ places s
  room = ap length links

  place_here : (j k : ℕ) → j ≡ i → place_of t j k ≡ place_of s j (k + 1)
  place_here j k e =
      ap₂ (λ ls c. spot (next_in ls) c.first k) links (here j e)
      ∙ spot_next (next_in s.links) (chain_of s i).first k
      ∙ ap₂ (λ h n. place_of s h n) (sym e) (sym (add-one k))

  place_else : (j k : ℕ) → (j ≡ i → ⊥) → place_of t j k ≡ place_of s j k
  place_else j k ne = ap₂ (λ ls c. spot (next_in ls) c.first k) links (else j ne)

  len_here : (j : ℕ) → j ≡ i → len_of t j + 1 ≡ len_of s j
  len_here j e =
      let a : len_of t j ≡ len_of s i - 1 = ap (λ c. c.len) (here j e) in
      let b : len_of s j ≡ len_of s i = ap (len_of s) e in
      omega arith

  len_else : (j : ℕ) → (j ≡ i → ⊥) → len_of t j ≡ len_of s j
  len_else j ne = ap (λ c. c.len) (else j ne)

  -- each spot was one before
  was : (j k : ℕ) → place_of t j k ≡ place_of s j (up i j k)
  was j k = go (cases_eq j i)
    where
      go : (j ≡ i) ⊎ (j ≡ i → ⊥) → place_of t j k ≡ place_of s j (up i j k)
      go (inl e) = place_here j k e ∙ ap (place_of s j) (sym (up_here i j k e))
      go (inr ne) = place_else j k ne ∙ ap (place_of s j) (sym (up_else i j k ne))

  was_in : (j k : ℕ) → k < len_of t j → up i j k < len_of s j
  was_in j k l = go (cases_eq j i)
    where
      go : (j ≡ i) ⊎ (j ≡ i → ⊥) → up i j k < len_of s j
      go (inl e) = omega (arith, up_here i j k e, len_here j e, l)
      go (inr ne) = omega (arith, up_else i j k ne, len_else j ne, l)

  apart_now : (m : Meeting t) → (m.i ≡ m.j) × (m.k ≡ m.l)
  apart_now m =
      let old : Meeting s = record {
        i = m.i;
        j = m.j;
        k = up i m.i m.k;
        l = up i m.j m.l;
        in_i = was_in m.i m.k m.in_i;
        in_j = was_in m.j m.l m.in_j;
        meet = sym (was m.i m.k) ∙ m.meet ∙ was m.j m.l;
      } in
      let same = ok.apart old in
      (same.0, up_same i m.i m.j m.k m.l same.0 same.1)

  linked : Linked t
  linked = record {
    chained = ap length chains ∙ length-set s.chains i new ∙ ok.chained;
    apart = apart_now;
    within = λ j k l. omega (arith, was j k, room, ok.within j (up i j k) (was_in j k l));
    ends = λ j k e. go j k e (cases_eq j i);
  }
    where
      go : (j k : ℕ) → len_of t j ≡ k + 1 → (j ≡ i) ⊎ (j ≡ i → ⊥) → (chain_of t j).last ≡ place_of t j k
      go j k e (inl y) =
          ap (λ c. c.last) (here j y) ∙ ap (λ h. (chain_of s h).last) (sym y)
          ∙ ok.ends j (k + 1) (omega (arith, len_here j y, e)) ∙ sym (place_here j k y)
      go j k e (inr ne) = ap (λ c. c.last) (else j ne) ∙ ok.ends j k (sym (len_else j ne) ∙ e) ∙ sym (place_else j k ne)

  start : place_of s i 0 ≡ (chain_of s i).first
  start = spot_start (next_in s.links) (chain_of s i).first

  alone : (j k : ℕ) → k < len_of t j → place_of t j k ≡ (chain_of s i).first → ⊥
  alone j k l e = go (cases_eq j i)
    where
      old : Meeting s
      old = record { i = j; j = i; k = up i j k; l = 0; in_i = was_in j k l; in_j = some; meet = sym (was j k) ∙ e ∙ sym start }

      go : (j ≡ i) ⊎ (j ≡ i → ⊥) → ⊥
      go (inl y) = omega (arith, up_here i j k y, (ok.apart old).1)
      go (inr ne) = ne (ok.apart old).0

  pub detached : Detached s t i (chain_of s i).first
  detached = record {
    loose = record { less = omega (arith, room, first_within s i ok some); alone = alone };
    links = links;
    first =
        ap (listed (λ k. message_in s.links (place_of s i k))) (sym (len_here i refl))
        ∙ listed_first (λ k. message_in s.links (place_of s i k)) (λ k. message_in t.links (place_of t i k)) (len_of t i)
        (λ k l. ap₂ message_in links (place_here i k refl))
        ∙ ap (λ p. message_in s.links p ∷ messages t i) start;
    others = λ j ne. ap₂ (λ ls c. listed (λ k. message_in ls (spot (next_in ls) c.first k)) c.len) links (else j ne);
  }

-- what a detachment writes
abbrev pub shortened : Linkage → ℕ → Linkage
shortened s i = linkage_of s.links (set s.chains i (record { first = next_in s.links (chain_of s i).first; last = (chain_of s i).last; len = len_of s i - 1 }))

module _ (s : Linkage) (i : ℕ) (ok : Linked s) (li : i < 257) (some : 0 < len_of s i) where
  pub linked_shortened : Linked (shortened s i)
  linked_shortened = linked s (shortened s i) i ok li some refl refl

  pub detached_shortened : Detached s (shortened s i) i (chain_of s i).first
  detached_shortened = detached s (shortened s i) i ok li some refl refl
