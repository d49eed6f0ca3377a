-- A chain that gains a place at its end.
use Rattle.std.proofs.Common.{◌≡◌, ℕ, ◌+◌, ◌-◌, ◌<◌, ◌≤◌, ◌⊎◌, List, [], ◌∷◌, ◌++◌, length, get_or, set, sym, refl, ap, ◌∙◌, ap₂, inl, inr, arith}
use mathlib.Core.Path.{fun_ext}
use Rattle.std.proofs.lemmas.List.{length-set, get_or-set_same, get_or-set_other}
use Rattle.std.proofs.lemmas.Bool.{cases_eq, cases_lt}
use Rattle.theory.specs.declared.message.Message.{Message}
use Rattle.chains.specs.declared.Link.{Link}
use Rattle.chains.specs.declared.table.Chain.{Chain}
use Rattle.chains.specs.Spots.{spot, listed}
use Rattle.chains.specs.Changes.{Loose, Attached}
use Rattle.chains.specs.Linkages.{Linkage, linkage_of, no_chain, no_link, chain_of, len_of, place_of, places, next_in, message_in, Linked, Meeting}
use Rattle.chains.proofs.Spots.{spot_start, spot-step, spot_same, listed_last, listed_same}

-- chain i has p behind its places, with the message m there, and all else that is in chains is as it was
record Longer (s t : Linkage) (i p : ℕ) (m : Message) : Type 0 where
  chained : length t.chains ≡ 257
  room : places t ≡ places s
  len_here : len_of t i ≡ len_of s i + 1
  len_else : (j : ℕ) → (j ≡ i → ⊥) → len_of t j ≡ len_of s j
  last_here : (chain_of t i).last ≡ p
  last_else : (j : ℕ) → (j ≡ i → ⊥) → (chain_of t j).last ≡ (chain_of s j).last
  kept : (j k : ℕ) → k < len_of s j → place_of t j k ≡ place_of s j k
  new : place_of t i (len_of s i) ≡ p
  text : message_in t.links p ≡ m
  texts : (q : ℕ) → (q ≡ p → ⊥) → message_in t.links q ≡ message_in s.links q

module _ (s t : Linkage) (i p : ℕ) (m : Message) (ok : Linked s) (loose : Loose s p) (more : Longer s t i p m) where
  -- a spot is an old one, or the new one
  side : (j k : ℕ) → k < len_of t j → (k < len_of s j) ⊎ ((j ≡ i) × (k ≡ len_of s i))
  side j k l = go (cases_lt k (len_of s j)) (cases_eq j i)
    where
      go : (k < len_of s j) ⊎ (len_of s j ≤ k) → (j ≡ i) ⊎ (j ≡ i → ⊥) → (k < len_of s j) ⊎ ((j ≡ i) × (k ≡ len_of s i))
      go (inl y) e = inl y
      go (inr n) (inl e) =
          let a : len_of s j ≡ len_of s i = ap (len_of s) e in
          let b : len_of t j ≡ len_of t i = ap (len_of t) e in
          inr (e, omega (arith, more.len_here, a, b, l, n))
      go (inr n) (inr ne) = absurd (omega (arith, more.len_else j ne, l, n))

  at_new : (j k : ℕ) → (j ≡ i) × (k ≡ len_of s i) → place_of t j k ≡ p
  at_new j k e = ap₂ (place_of t) e.0 e.1 ∙ more.new

  apart_now : (w : Meeting t) → (w.i ≡ w.j) × (w.k ≡ w.l)
  apart_now w = go (side w.i w.k w.in_i) (side w.j w.l w.in_j)
    where
      go : (w.k < len_of s w.i) ⊎ ((w.i ≡ i) × (w.k ≡ len_of s i)) → (w.l < len_of s w.j) ⊎ ((w.j ≡ i) × (w.l ≡ len_of s i))
          → (w.i ≡ w.j) × (w.k ≡ w.l)
      go (inl a) (inl b) =
          ok.apart (record { i = w.i; j = w.j; k = w.k; l = w.l; in_i = a; in_j = b; meet = sym (more.kept w.i w.k a) ∙ w.meet ∙ more.kept w.j w.l b })
      go (inl a) (inr b) = absurd (loose.alone w.i w.k a (sym (more.kept w.i w.k a) ∙ w.meet ∙ at_new w.j w.l b))
      go (inr a) (inl b) = absurd (loose.alone w.j w.l b (sym (more.kept w.j w.l b) ∙ sym w.meet ∙ at_new w.i w.k a))
      go (inr a) (inr b) = (a.0 ∙ sym b.0, a.1 ∙ sym b.1)

  linked : Linked t
  linked = record {
    chained = more.chained;
    apart = apart_now;
    within = λ j k l. inside j k (side j k l);
    ends = λ j k e. end j k e (cases_eq j i);
  }
    where
      inside : (j k : ℕ) → (k < len_of s j) ⊎ ((j ≡ i) × (k ≡ len_of s i)) → place_of t j k < places t
      inside j k (inl l) = omega (arith, more.kept j k l, ok.within j k l, more.room)
      inside j k (inr e) = omega (arith, at_new j k e, loose.less, more.room)

      end : (j k : ℕ) → len_of t j ≡ k + 1 → (j ≡ i) ⊎ (j ≡ i → ⊥) → (chain_of t j).last ≡ place_of t j k
      end j k e (inl y) =
          let b : len_of t j ≡ len_of t i = ap (len_of t) y in
          ap (λ h. (chain_of t h).last) y ∙ more.last_here ∙ sym (at_new j k (y, omega (arith, more.len_here, b, e)))
      end j k e (inr ne) =
          let l : len_of s j ≡ k + 1 = sym (more.len_else j ne) ∙ e in
          more.last_else j ne ∙ ok.ends j k l ∙ sym (more.kept j k (omega arith))

  -- the messages that were there
  same : (j k : ℕ) → k < len_of s j → message_in t.links (place_of t j k) ≡ message_in s.links (place_of s j k)
  same j k l = ap (message_in t.links) (more.kept j k l) ∙ more.texts (place_of s j k) (loose.alone j k l)

  longer : Attached s t i m
  longer = record {
    room = more.room;
    last =
        ap (listed (λ k. message_in t.links (place_of t i k))) more.len_here
        ∙ listed_last (λ k. message_in t.links (place_of t i k)) (len_of s i)
        ∙ ap₂ (λ xs x. xs ++ x ∷ [])
        (listed_same (λ k. message_in t.links (place_of t i k)) (λ k. message_in s.links (place_of s i k)) (len_of s i) (same i))
        (ap (message_in t.links) more.new ∙ more.text);
    others = λ j ne.
        ap (listed (λ k. message_in t.links (place_of t j k))) (more.len_else j ne)
        ∙ listed_same (λ k. message_in t.links (place_of t j k)) (λ k. message_in s.links (place_of s j k)) (len_of s j) (same j);
  }

-- what a write of one place leaves of a field that it does not change
field_kept : {A : Type 0} (f : Link → A) (links : List Link) (p : ℕ) (x : Link) → p < length links → f x ≡ f (get_or links p no_link)
    → (q : ℕ) → f (get_or (set links p x) q no_link) ≡ f (get_or links q no_link)
field_kept f links p x l e q = go (cases_eq q p)
  where
    go : (q ≡ p) ⊎ (q ≡ p → ⊥) → f (get_or (set links p x) q no_link) ≡ f (get_or links q no_link)
    go (inl y) = ap (λ h. f (get_or (set links p x) h no_link)) y ∙ ap f (get_or-set_same links p x no_link l) ∙ e ∙ ap (λ h. f (get_or links h no_link)) (sym y)
    go (inr ne) = ap f (get_or-set_other links p q x no_link ne)

pub last_within : (s : Linkage) (i : ℕ) → Linked s → (len_of s i ≡ 0 → ⊥) → (chain_of s i).last < places s
last_within s i ok some =
    omega (arith, ok.ends i (len_of s i - 1) (omega (arith, some)), ok.within i (len_of s i - 1) (omega (arith, some)))

pub last_within_filled : (s : Linkage) (i p : ℕ) (m : Message) → Linked s → (len_of s i ≡ 0 → ⊥)
    → (chain_of s i).last < length (set s.links p (record { message = m; next = next_in s.links p }))
last_within_filled s i p m ok some =
    omega (arith, last_within s i ok some, length-set s.links p (record { message = m; next = next_in s.links p }))

module _ (s t : Linkage) (i p : ℕ) (m : Message) (ok : Linked s) (li : i < 257) (loose : Loose s p) where
  abbrev xs : List Link
  xs = s.links

  -- with the message at its place
  abbrev filled : List Link
  filled = set xs p (record { message = m; next = next_in xs p })

  text_filled : message_in filled p ≡ m
  text_filled = ap (λ l. l.message) (get_or-set_same xs p (record { message = m; next = next_in xs p }) no_link loose.less)

  texts_filled : (q : ℕ) → (q ≡ p → ⊥) → message_in filled q ≡ message_in xs q
  texts_filled q ne = ap (λ l. l.message) (get_or-set_other xs p q (record { message = m; next = next_in xs p }) no_link ne)

  next_filled : (q : ℕ) → next_in filled q ≡ next_in xs q
  next_filled = field_kept (λ l. l.next) xs p (record { message = m; next = next_in xs p }) loose.less refl

  length_filled : length filled ≡ places s
  length_filled = length-set xs p (record { message = m; next = next_in xs p })

  module _ (new : Chain) (chains : t.chains ≡ set s.chains i new) where
    here : chain_of t i ≡ new
    here = ap (λ cs. get_or cs i no_chain) chains ∙ get_or-set_same s.chains i new no_chain (omega (arith, ok.chained))

    else : (j : ℕ) → (j ≡ i → ⊥) → chain_of t j ≡ chain_of s j
    else j ne = ap (λ cs. get_or cs j no_chain) chains ∙ get_or-set_other s.chains i j new no_chain ne

    count : length t.chains ≡ 257
    count = ap length chains ∙ length-set s.chains i new ∙ ok.chained

  abbrev one : Chain
  one = record { first = p; last = p; len = 1 }

  -- an empty chain
  more_first : len_of s i ≡ 0 → t.links ≡ set s.links p (record { message = m; next = next_in s.links p })
      → t.chains ≡ set s.chains i (record { first = p; last = p; len = 1 }) → Longer s t i p m
  more_first none links chains =
      record {
        chained = count one chains;
        room = ap length links ∙ length_filled;
        len_here = let a : len_of t i ≡ 1 = ap (λ c. c.len) (here one chains) in omega arith;
        len_else = λ j ne. ap (λ c. c.len) (else one chains j ne);
        last_here = ap (λ c. c.last) (here one chains);
        last_else = λ j ne. ap (λ c. c.last) (else one chains j ne);
        kept = λ j k l. was j k l (cases_eq j i);
        new = ap₂ (λ c k. spot (next_in t.links) c.first k) (here one chains) none ∙ spot_start (next_in t.links) p;
        text = ap (λ ls. message_in ls p) links ∙ text_filled;
        texts = λ q ne. ap (λ ls. message_in ls q) links ∙ texts_filled q ne;
      }
    where
      was : (j k : ℕ) → k < len_of s j → (j ≡ i) ⊎ (j ≡ i → ⊥) → place_of t j k ≡ place_of s j k
      was j k l (inl e) = let a : len_of s j ≡ len_of s i = ap (len_of s) e in absurd (omega arith)
      was j k l (inr ne) = ap₂ (λ f c. spot f c.first k) (ap next_in links ∙ fun_ext next_filled) (else one chains j ne)

  -- a chain with a last place, which p now follows
  module _ (some : len_of s i ≡ 0 → ⊥) where
    abbrev end : ℕ
    end = (chain_of s i).last

    end_is : end ≡ place_of s i (len_of s i - 1)
    end_is = ok.ends i (len_of s i - 1) (omega (arith, some))

    end_within : end < length filled
    end_within = last_within_filled s i p m ok some

    -- no place but the last of chain i is the end
    end_only : (j k h : ℕ) → h < k → k < len_of s j → place_of s j h ≡ end → ⊥
    end_only j k h l lk e =
        let w : Meeting s = record { i = j; j = i; k = h; l = len_of s i - 1; in_i = omega arith; in_j = omega (arith, some); meet = e ∙ end_is } in
        let same = ok.apart w in
        let a : len_of s j ≡ len_of s i = ap (len_of s) same.0 in
        omega (arith, same.1, a, l, lk, some)

    abbrev tied : List Link
    tied = set filled end (record { message = message_in filled end; next = p })

    next_end : next_in tied end ≡ p
    next_end = ap (λ l. l.next) (get_or-set_same filled end (record { message = message_in filled end; next = p }) no_link end_within)

    next_tied : (q : ℕ) → (q ≡ end → ⊥) → next_in tied q ≡ next_in xs q
    next_tied q ne = ap (λ l. l.next) (get_or-set_other filled end q (record { message = message_in filled end; next = p }) no_link ne) ∙ next_filled q

    text_tied : (q : ℕ) → message_in tied q ≡ message_in filled q
    text_tied = field_kept (λ l. l.message) filled end (record { message = message_in filled end; next = p }) end_within refl

    abbrev long : Chain
    long = record { first = (chain_of s i).first; last = p; len = len_of s i + 1 }

    module _ (links : t.links ≡ tied) (chains : t.chains ≡ set s.chains i long) where
      first_same : (j : ℕ) → (chain_of t j).first ≡ (chain_of s j).first
      first_same j = go (cases_eq j i)
        where
          go : (j ≡ i) ⊎ (j ≡ i → ⊥) → (chain_of t j).first ≡ (chain_of s j).first
          go (inl e) = ap (λ h. (chain_of t h).first) e ∙ ap (λ c. c.first) (here long chains) ∙ ap (λ h. (chain_of s h).first) (sym e)
          go (inr ne) = ap (λ c. c.first) (else long chains j ne)

      was : (j k : ℕ) → k < len_of s j → place_of t j k ≡ place_of s j k
      was j k l =
          ap₂ (λ ls f. spot (next_in ls) f k) links (first_same j)
          ∙ spot_same (next_in xs) (next_in tied) (chain_of s j).first k (λ h lh. next_tied (place_of s j h) (end_only j k h lh l))

      new_place : place_of t i (len_of s i) ≡ p
      new_place =
          let e : len_of s i ≡ (len_of s i - 1) + 1 = omega (arith, some) in
          ap (place_of t i) e
          ∙ spot-step (next_in t.links) (chain_of t i).first (len_of s i - 1)
          ∙ ap₂ (λ ls q. next_in ls q) links (was i (len_of s i - 1) (omega (arith, some)) ∙ sym end_is)
          ∙ next_end

      more_next : Longer s t i p m
      more_next =
          record {
            chained = count long chains;
            room = ap length links ∙ length-set filled end (record { message = message_in filled end; next = p }) ∙ length_filled;
            len_here = ap (λ c. c.len) (here long chains);
            len_else = λ j ne. ap (λ c. c.len) (else long chains j ne);
            last_here = ap (λ c. c.last) (here long chains);
            last_else = λ j ne. ap (λ c. c.last) (else long chains j ne);
            kept = was;
            new = new_place;
            text = ap (λ ls. message_in ls p) links ∙ text_tied p ∙ text_filled;
            texts = λ q ne. ap (λ ls. message_in ls q) links ∙ text_tied q ∙ texts_filled q ne;
          }

-- what an attachment writes, in the order of its writes
abbrev pub with_message : Linkage → ℕ → Message → Linkage
with_message s p m = linkage_of (set s.links p (record { message = m; next = next_in s.links p })) s.chains

abbrev pub begun : Linkage → ℕ → ℕ → Message → Linkage
begun s i p m = linkage_of (with_message s p m).links (set s.chains i (record { first = p; last = p; len = 1 }))

abbrev pub extended : Linkage → ℕ → ℕ → Message → Linkage
extended s i p m =
    let xs = (with_message s p m).links in
    let end = (chain_of s i).last in
    linkage_of (set xs end (record { message = message_in xs end; next = p })) (set s.chains i (record { first = (chain_of s i).first; last = p; len = len_of s i + 1 }))

module _ (s : Linkage) (i p : ℕ) (m : Message) (ok : Linked s) (li : i < 257) (loose : Loose s p) where
  -- a message alone changes no chain
  pub linked_with_message : Linked (with_message s p m)
  linked_with_message = record {
    chained = ok.chained;
    apart = λ w. ok.apart (record { i = w.i; j = w.j; k = w.k; l = w.l; in_i = w.in_i; in_j = w.in_j; meet = sym (same w.i w.k) ∙ w.meet ∙ same w.j w.l });
    within = λ j k l. omega (arith, same j k, ok.within j k l, length_filled s s i p m ok li loose);
    ends = λ j k e. ok.ends j k e ∙ sym (same j k);
  }
    where
      same : (j k : ℕ) → place_of (with_message s p m) j k ≡ place_of s j k
      same j k = ap (λ f. spot f (chain_of s j).first k) (fun_ext (next_filled s s i p m ok li loose))

  module _ (none : len_of s i ≡ 0) where
    more_begun : Longer s (begun s i p m) i p m
    more_begun = more_first s (begun s i p m) i p m ok li loose none refl refl

    pub linked_begun : Linked (begun s i p m)
    linked_begun = linked s (begun s i p m) i p m ok loose more_begun

    pub attached_begun : Attached s (begun s i p m) i m
    attached_begun = longer s (begun s i p m) i p m ok loose more_begun

  module _ (some : len_of s i ≡ 0 → ⊥) where
    more_extended : Longer s (extended s i p m) i p m
    more_extended = more_next s (extended s i p m) i p m ok li loose some refl refl

    pub linked_extended : Linked (extended s i p m)
    linked_extended = linked s (extended s i p m) i p m ok loose more_extended

    pub attached_extended : Attached s (extended s i p m) i m
    attached_extended = longer s (extended s i p m) i p m ok loose more_extended
