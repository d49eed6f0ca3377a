-- Queues over the parts of one list: what a call at one of them finds, and what it makes of all.
use Rattle.std.proofs.Common.{◌≡◌, ℕ, ◌+◌, ◌-◌, ◌*◌, ◌<◌, ◌≤◌, Bool, true, false, cond, ◌⊎◌, List, [], ◌∷◌, ◌++◌, length, get_or, set, sym, refl, ap, ◌∙◌, ap₂, inl, inr, zero-le, arith}
use borrow.Rule.Slice.PartMut.{put_mid}
use mathlib.Core.Path.{fun_ext}
use Rattle.std.specs.List.{between}
use Rattle.std.proofs.lemmas.List.{get_or-set_same, get_or-set_other, get_or_default}
use Rattle.std.proofs.lemmas.List.Edits.{get_or-between}
use Rattle.std.proofs.lemmas.Bool.{cases_lt, lt-ltb, le-leb, lt-leb}
use Rattle.theory.specs.Functions.{put, masked}
use Rattle.theory.specs.Lists.{parts}
use Rattle.theory.proofs.Functions.{put_own, masked_in, masked_out, masked-change, is_same, is_other}
use Rattle.theory.proofs.Parts.{ends_within, length-parts, length-put, parts-put}
use Rattle.queue.specs.declared.queues.Queues.{Queues}
use Rattle.queue.specs.declared.ring.Ring.{Ring}
use Rattle.queue.specs.Pushes.{pushed, has_room, has_room_at, pushed_at}
use Rattle.queue.specs.Rings.{items, no_ring, Popped}
use Rattle.queue.specs.QueuesOf.{queue_at, queues, count_of, each_of, counted}
use Rattle.queue.proofs.Rings.{length-items, items_none, items_popped}

-- where every ring is empty
pub queues_none : {T : Type 0} (rings : List Ring) (count each : ℕ) (xs : List T) → ((k : ℕ) → k < count → (get_or rings k no_ring).len ≡ 0)
    → masked count [] (queue_at rings each xs) ≡ (λ _. [])
queues_none rings count each xs none = fun_ext (λ k. go k (cases_lt k count))
  where
    go : (k : ℕ) → (k < count) ⊎ (count ≤ k) → masked count [] (queue_at rings each xs) k ≡ []
    go k (inl l) = masked_in count [] (queue_at rings each xs) k l ∙ items_none (parts xs each k) (get_or rings k no_ring) (none k l)
    go k (inr h) = masked_out count [] (queue_at rings each xs) k h

-- a push at queue b, which is there
pub pushed_put : {T : Type 0} (count each b : ℕ) (x : T) (f : ℕ → List T) → b < count → put f b (pushed each x (f b)) ≡ pushed_at count each b x f
pushed_put count each b x f l = rw (lt-ltb b count l) (go (has_room each (f b)))
  where
    go : (t : Bool) → put f b (cond t (f b ++ x ∷ []) (f b)) ≡ cond t (put f b (f b ++ x ∷ [])) f
    go true = refl
    go false = sym (put_own f b (f b) refl)

pub counted_all : (lent count places : ℕ) → lent ≤ places → counted lent count places ≡ count
unfolding counted
counted_all lent count places h = rw (le-leb lent places h)

pub counted_none : (lent count places : ℕ) → places < lent → counted lent count places ≡ 0
unfolding counted
counted_none lent count places h = rw (lt-leb lent places h)

-- where a queue is there, the layout is whole
counted_some : (lent count places b : ℕ) → b < counted lent count places → (lent ≤ places) × (counted lent count places ≡ count)
counted_some lent count places b l = go (cases_lt places lent)
  where
    go : (places < lent) ⊎ (lent ≤ places) → (lent ≤ places) × (counted lent count places ≡ count)
    go (inl h) = absurd (omega (arith, l, counted_none lent count places h))
    go (inr h) = (h, counted_all lent count places h)

module _ {T : Type 0} (q : Queues T) (b : ℕ) where
  -- where there is no queue b
  pub queue_past : count_of q ≤ b → queues q b ≡ []
  queue_past h = masked_out (count_of q) [] (queue_at q.layout.rings q.layout.each q.places.now) b h

  -- where there is
  module _ (l : b < count_of q) where
    whole : (q.layout.lent ≤ length q.places.now) × (count_of q ≡ q.layout.count)
    whole = counted_some q.layout.lent q.layout.count (length q.places.now) b l

    in_rings : b < length q.layout.rings
    in_rings = omega (arith, l, whole.1, q.layout.few, q.layout.sixteen)

    pub ends : b * q.layout.each + q.layout.each ≤ length q.places.now
    ends = omega (arith, whole.0, q.layout.fits, ends_within b q.layout.count q.layout.each (omega (arith, l, whole.1)))

  -- and d is what the ring was read at, which does not count
  module _ (l : b < count_of q) (d : Ring) where
    abbrev xs : List T
    xs = q.places.now

    abbrev each : ℕ
    each = q.layout.each

    abbrev r : Ring
    r = get_or q.layout.rings b d

    is : get_or q.layout.rings b no_ring ≡ r
    is = get_or_default q.layout.rings b no_ring d (in_rings l)

    pub ring-room : r.room ≡ each
    ring-room = ap (λ s. s.room) (sym is) ∙ q.layout.rooms b (omega (arith, in_rings l, q.layout.sixteen))

    pub length-part : length (parts xs each b) ≡ r.room
    length-part = length-parts xs each b (ends l) ∙ sym ring-room

    pub queue_is : items (parts xs each b) r ≡ queues q b
    queue_is = sym (masked_in (count_of q) [] (queue_at q.layout.rings each xs) b l ∙ ap (items (parts xs each b)) is)

    pub length_queue : r.len ≡ length (queues q b)
    length_queue = sym (length-items (parts xs each b) r length-part) ∙ ap length queue_is

    -- its first item, and what is left without it
    pub queue_first : (s : Ring) (at : ℕ) (x : T) → Popped r s at → x ≡ get_or xs (b * each + at) x → queues q b ≡ x ∷ items (parts xs each b) s
    unfolding parts
    queue_first s at x p e =
        sym queue_is ∙ items_popped (parts xs each b) r length-part s at x p
        ∙ ap (λ y. y ∷ items (parts xs each b) s) (get_or-between xs (b * each) (b * each + each) at x (omega (arith, ring-room, p.within)) ∙ sym e)

    -- what the queues hold where the ring is s now, and the places are ys
    abbrev pub changed : Ring → List T → ℕ → List T
    changed s ys = masked (counted q.layout.lent q.layout.count (length ys)) [] (queue_at (set q.layout.rings b s) each ys)

    -- the places have changed in the part of b alone
    pub queues_changed : (s : Ring) (ys : List T) → length ys ≡ length xs → ((j : ℕ) → (j ≡ b → ⊥) → parts ys each j ≡ parts xs each j)
        → changed s ys ≡ put (queues q) b (items (parts ys each b) s)
    queues_changed s ys n same =
        ap (λ k. masked (counted q.layout.lent q.layout.count k) [] (queue_at (set q.layout.rings b s) each ys)) n
        ∙ masked-change (count_of q) [] (queue_at q.layout.rings each xs) (queue_at (set q.layout.rings b s) each ys) b (λ _. items (parts ys each b) s) l
        (λ j ne. ap₂ items (same j ne) (get_or-set_other q.layout.rings b j s no_ring ne))
        (ap (items (parts ys each b)) (get_or-set_same q.layout.rings b s no_ring (in_rings l)))

    -- the part of b is lent as a slice
    module _ (from : ℕ) (e : from ≡ b * each) where
      abbrev part : List T
      part = between from (from + each) xs

      part_is : part ≡ parts xs each b
      unfolding parts
      part_is = ap (λ k. between k (k + each) xs) e

      pub length-lent : length part ≡ r.room
      length-lent = ap length part_is ∙ length-part

      pub lent_is : items part r ≡ queues q b
      lent_is = ap (λ z. items z r) part_is ∙ queue_is

      pub has_room_lent : has_room r.room (items part r) ≡ has_room_at (count_of q) each b (queues q)
      has_room_lent = ap₂ has_room ring-room lent_is ∙ sym (rw (lt-ltb b (count_of q) l) refl)

      -- and is ys now, with the ring s
      pub queues_put : (s : Ring) (ys : List T) → length ys ≡ length part → changed s (put_mid from (from + each - from) xs ys) ≡ put (queues q) b (items ys s)
      queues_put s ys n =
          let zs = put_mid from (from + each - from) xs ys in
          let m : length ys ≡ each = n ∙ length-lent ∙ ring-room in
          let k : length zs ≡ length xs = ap (λ k. length (put_mid k (k + each - k) xs ys)) e ∙ length-put xs ys each b (ends l) m in
          let h : parts zs each ≡ put (parts xs each) b ys = ap (λ k. parts (put_mid k (k + each - k) xs ys) each) e ∙ parts-put xs ys each b (ends l) m in
          queues_changed s zs k (is_other (parts xs each) (parts zs each) b ys h)
          ∙ ap (λ z. put (queues q) b (items z s)) (is_same (parts xs each) (parts zs each) b ys h)

      -- and its items are those of a push
      pub queues-pushed : (x : T) (s : Ring) (ys : List T) → length ys ≡ length part → items ys s ≡ pushed r.room x (items part r)
          → changed s (put_mid from (from + each - from) xs ys) ≡ pushed_at (count_of q) each b x (queues q)
      queues-pushed x s ys n h =
          queues_put s ys n ∙ ap (put (queues q) b) (h ∙ ap₂ (λ k z. pushed k x z) ring-room lent_is) ∙ pushed_put (count_of q) each b x (queues q) l

-- no queue holds more than its room
pub queue_within : {T : Type 0} (q : Queues T) (b : ℕ) → length (queues q b) ≤ each_of q
queue_within q b = go (cases_lt b (count_of q))
  where
    go : (b < count_of q) ⊎ (count_of q ≤ b) → length (queues q b) ≤ each_of q
    go (inl l) = omega (arith, length_queue q b l no_ring, ring-room q b l no_ring, (get_or q.layout.rings b no_ring).within.1)
    go (inr h) = rw (queue_past q b h) zero-le

-- what the calls of queues take
pub ruleset queue_parts = (queue_past, ends, length_queue, length-lent, lent_is, queues_none, counted_all, counted_none, put_own)
