-- The steps of a wire, on a pair that it joins.
use Rattle.std.proofs.Common.{◌≡◌, ℕ, ◌<◌, ◌≤◌, List, [], ◌∷◌, ◌++◌, Ok, Err}
use Rattle.std.proofs.lemmas.Bool.{lt-leb, le-ltb, eq-eqb, ne_eqb}
use Rattle.theory.specs.declared.fault.WireFault.TheVariants.{Full, Empty}
use Rattle.theory.specs.declared.message.Message.{Message}
use Rattle.theory.specs.Wire.{WireState, load, with_pair, send, take, empty, open_for}

module _ (w : WireState) (f t : ℕ) (lf : f < w.boards) (lt : t < w.boards) where
  pub send_some : (m : Message) → (load w ≡ w.capacity → ⊥) → send f t m w ≡ (with_pair f t (w.waiting f t ++ m ∷ []) w, Ok tt)
  send_some m free = rw (lt-leb w.boards f lf, lt-leb w.boards t lt, ne_eqb (load w) w.capacity free)

  pub send_full : (m : Message) → load w ≡ w.capacity → send f t m w ≡ (w, Err Full)
  send_full m full = rw (lt-leb w.boards f lf, lt-leb w.boards t lt, eq-eqb (load w) w.capacity full)

  pub take_some : (m : Message) (ms : List Message) → w.waiting f t ≡ m ∷ ms → take f t w ≡ (with_pair f t ms w, Ok m)
  take_some m ms e = rw (lt-leb w.boards f lf, lt-leb w.boards t lt, e)

  pub take_none : w.waiting f t ≡ [] → take f t w ≡ (w, Err Empty)
  take_none e = rw (lt-leb w.boards f lf, lt-leb w.boards t lt, e)

pub open_few : (n : ℕ) (w : WireState) → n ≤ 16 → open_for n w ≡ (empty n w.capacity, Ok tt)
open_few n w few = rw (le-ltb 16 n few)
