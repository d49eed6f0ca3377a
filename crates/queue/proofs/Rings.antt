-- The items of a ring before and after its calls.
use Rattle.std.proofs.Common.{◌≡◌, ℕ, ◌+◌, ◌-◌, ◌≤◌, List, [], ◌∷◌, ◌++◌, length, get_or, set, Some, None, sym, refl, ap, ◌∙◌, ap₂, arith}
use Rattle.std.specs.List.{slice_get}
use Rattle.std.proofs.lemmas.Option.{slice_get_read, slice_get_past}
use Rattle.std.proofs.lemmas.Bool.{eq-eqb, ne_eqb, lt-ltb, le-ltb}
use Rattle.theory.specs.Lists.{ring}
use Rattle.theory.proofs.Rings.{length-ring, ring_none}
use Rattle.queue.specs.declared.ring.Ring.{Ring}
use Rattle.queue.specs.Rings.{items, items_in, Placed, Pushed, Popped}
use Rattle.queue.proofs.Places.{ring-pushed, ring_popped, get_or-ring}

module _ {T : Type 0} where
  pub items_none : (xs : List T) (r : Ring) → r.len ≡ 0 → items xs r ≡ []
  items_none xs r e = ap (ring xs r.first) e ∙ ring_none xs r.first

  pub items_unfit : (xs : List T) (r : Ring) → (r.room ≡ length xs → ⊥) → items_in xs r ≡ []
  unfolding items_in
  items_unfit xs r ne = rw (ne_eqb r.room (length xs) ne)

  module _ (xs : List T) (r : Ring) (n : length xs ≡ r.room) where
    pub length-items : length (items xs r) ≡ r.len
    length-items = length-ring xs r.first r.len (omega arith) (omega arith)

    pub items_fit : items_in xs r ≡ items xs r
    unfolding items_in
    items_fit = rw (eq-eqb r.room (length xs) (sym n))

    pub items-pushed : (s : Ring) (at : ℕ) (x : T) → Pushed r s at → items (set xs at x) s ≡ items xs r ++ x ∷ []
    items-pushed s at x p =
        ap₂ (ring (set xs at x)) p.first p.len
        ∙ ap (λ k. ring (set xs k x) r.first (r.len + 1)) p.place
        ∙ ring-pushed xs r.room r.first r.len n (omega arith) x p.less

    pub items_popped : (s : Ring) (at : ℕ) (d : T) → Popped r s at → items xs r ≡ get_or xs at d ∷ items xs s
    items_popped s at d p =
        ring_popped xs r.room r.first r.len n (omega arith) d p.some (omega arith)
        ∙ ap (λ k. get_or xs k d ∷ ring xs (k + 1) (r.len - 1)) (sym p.place)
        ∙ ap₂ (λ f l. get_or xs at d ∷ ring xs f l) (sym p.first) (sym p.len)

    pub slice_get_placed : (i at : ℕ) (x : T) → Placed r i at → x ≡ get_or xs at x → slice_get (items xs r) i ≡ Some x
    slice_get_placed i at x p e =
        slice_get_read (items xs r) r.len i x (sym length-items) p.less
        (e ∙ ap (λ k. get_or xs k x) p.place ∙ sym (get_or-ring xs r.room r.first r.len n (omega arith) i x p.less (omega arith)))

    pub slice_get_missing : (i : ℕ) → r.len ≤ i → slice_get (items xs r) i ≡ None
    slice_get_missing i h = slice_get_past (items xs r) i (omega (arith, length-items))

-- what the calls of a ring with its places take
pub ruleset ring_items = (length-items, items_fit, items_unfit, items_none, items-pushed, items_popped, slice_get_placed, slice_get_missing, lt-ltb, le-ltb)
