-- Chains as a wire, before and after its calls.
use Rattle.std.proofs.Common.{◌≡◌, ℕ, ◌+◌, ◌-◌, ◌*◌, ◌<◌, ◌≤◌, [], ◌∷◌, ◌++◌, length, Ok, Err, sym, ap, ◌∙◌, ap₂, arith}
use Rattle.std.proofs.lemmas.List.{length_push, nil_from_length}
use Rattle.theory.specs.declared.fault.WireFault.TheVariants.{Empty}
use Rattle.theory.specs.declared.message.Message.{Message}
use Rattle.theory.specs.Net.{Net, put_pair, total}
use Rattle.theory.specs.Wire.{WireState, send, take, empty}
use Rattle.theory.proofs.Nets.{total-pair, pair_within_total}
use Rattle.theory.proofs.Sums.{total_none}
use Rattle.theory.proofs.Wires.{send_some, take_some, take_none}
use Rattle.chains.specs.declared.Chains.{Chains}
use Rattle.chains.specs.Changes.{Pushed, Popped, Cleared}
use Rattle.chains.specs.Linkages.{Linkage, len_of, places, messages, net}
use Rattle.chains.specs.Tables.{linkage}
use Rattle.chains.specs.WireStates.{wire_state}
use Rattle.chains.specs.Propers.{net_in}
use Rattle.chains.proofs.Nets.{net_none, net_changed}
use Rattle.chains.proofs.Pushes.{length-messages}

abbrev made : ℕ → ℕ → Net → WireState
made boards capacity waiting = record { boards = boards; capacity = capacity; waiting = waiting }

-- a table whose places are all free
module _ (room : ℕ) (t : Linkage) (n : ℕ) (few : n ≤ 16) (clear : Cleared room t) where
  waits_none : net n (messages t) ≡ (λ _ _. [])
  waits_none = net_none n (messages t) few clear.none

  pub state_none : record { boards = n; capacity = places t; waiting = net n (messages t) } ≡ empty n room
  state_none = ap₂ (made n) clear.room waits_none

  pub counted_none : 0 + len_of t 256 ≡ places t
  counted_none = omega (arith, clear.free, clear.room)

  pub summed_none : 0 ≡ total n (net n (messages t))
  summed_none = sym (ap (total n) waits_none ∙ total_none n)

-- a pair below the number of boards, with its chain
module _ (w : Chains) (f t i : ℕ) (lf : f < w.boards) (lt : t < w.boards) (is : i ≡ f * 16 + t) where
  abbrev s : Linkage
  s = linkage w.table

  abbrev n : ℕ
  n = w.boards

  abbrev before : Net
  before = net n (messages s)

  here : before f t ≡ messages s i
  here = net_in n (messages s) f t lf lt ∙ ap (messages s) (sym is)

  pub waits : length (before f t) ≡ len_of s i
  waits = ap length here ∙ length-messages s i

  pub chain_within : len_of s i ≤ w.total
  chain_within = omega (arith, waits, pair_within_total n before f t lf lt, w.summed)

  -- what the net is once the chain has other messages
  changed : (u : Linkage) → ((j : ℕ) → (j ≡ i → ⊥) → (j ≡ 256 → ⊥) → messages u j ≡ messages s j) → net n (messages u) ≡ put_pair before f t (messages u i)
  changed u others =
      net_changed n (messages s) (messages u) f t w.few lf lt (λ j ne nf. others j (λ e. ne (e ∙ is)) nf)
      ∙ ap (λ h. put_pair before f t (messages u h)) (sym is)

  recount : (u : Linkage) → net n (messages u) ≡ put_pair before f t (messages u i) → total n (net n (messages u)) + len_of s i ≡ w.total + len_of u i
  recount u e =
      omega (arith, ap (total n) e, total-pair n before f t (messages u i) lf lt, waits, length-messages u i, w.summed)

  module _ (u : Linkage) (m : Message) (p : Pushed s u i m) where
    pub counted-pushed : w.total + 1 + len_of u 256 ≡ places u
    counted-pushed = omega (arith, w.counted, p.free, p.room)

    pub summed_pushed : w.total + 1 ≡ total n (net n (messages u))
    summed_pushed =
        let more : len_of u i ≡ len_of s i + 1 = omega (arith, length-messages u i, ap length p.last, length_push (messages s i) m, length-messages s i) in
        omega (arith, recount u (changed u p.others), more)

    pub sent : (len_of s 256 ≡ 0 → ⊥) → (record { boards = n; capacity = places u; waiting = net n (messages u) }, Ok tt) ≡ send f t m (wire_state w)
    sent free =
        ap₂ (λ c k. (made n c k, Ok tt)) p.room (changed u p.others ∙ ap (put_pair before f t) (p.last ∙ ap (λ ms. ms ++ m ∷ []) (sym here)))
        ∙ sym (send_some (wire_state w) f t lf lt m (λ e. free (omega (arith, w.summed, w.counted, e))))

  module _ (u : Linkage) (m : Message) (p : Popped s u i m) where
    less : len_of u i + 1 ≡ len_of s i
    less =
        let e : length (messages s i) ≡ length (messages u i) + 1 = ap length p.first ∙ omega arith in
        omega (arith, length-messages u i, e, length-messages s i)

    pub counted_popped : w.total - 1 + len_of u 256 ≡ places u
    counted_popped = omega (arith, w.counted, p.free, p.room, less, chain_within)

    pub summed_popped : w.total - 1 ≡ total n (net n (messages u))
    summed_popped = omega (arith, recount u (changed u p.others), less)

    pub taken : (record { boards = n; capacity = places u; waiting = net n (messages u) }, Ok m) ≡ take f t (wire_state w)
    taken =
        ap₂ (λ c k. (made n c k, Ok m)) p.room (changed u p.others)
        ∙ sym (take_some (wire_state w) f t lf lt m (messages u i) (here ∙ p.first))

  pub nothing_taken : len_of s i ≡ 0 → (wire_state w, Err Empty) ≡ take f t (wire_state w)
  nothing_taken none = sym (take_none (wire_state w) f t lf lt (nil_from_length (before f t) (waits ∙ none)))
