-- Takes from one pair of a wire, and sends to it.
use Rattle.std.proofs.Common.{◌≡◌, ℕ, ◌<◌, List, [], ◌∷◌, ◌++◌, Ok, ap, ◌∙◌}
use Rattle.theory.specs.declared.message.Message.{Message}
use Rattle.theory.specs.Wire.{WireState, load, with_pair, send, take}
use Rattle.theory.proofs.Nets.{pair_same, pair-pair}
use Rattle.theory.proofs.Wires.{send_some, take_some}
use Rattle.wire.specs.Moves.{with_net}

module _ (f t : ℕ) (w : WireState) (lf : f < w.boards) (lt : t < w.boards) where
  pub take_is : (m : Message) (ms : List Message) → take f t (with_pair f t (m ∷ ms) w) ≡ (with_pair f t ms w, Ok m)
  take_is m ms =
      take_some (with_pair f t (m ∷ ms) w) f t lf lt m ms (pair_same w.waiting f t (m ∷ ms))
      ∙ ap (λ net. (with_net net w, Ok m)) (pair-pair w.waiting f t (m ∷ ms) ms)

  pub send_is : (m : Message) (ms : List Message) → (load (with_pair f t ms w) ≡ w.capacity → ⊥)
      → send f t m (with_pair f t ms w) ≡ (with_pair f t (ms ++ m ∷ []) w, Ok tt)
  send_is m ms free =
      send_some (with_pair f t ms w) f t lf lt m free
      ∙ ap (λ xs. (with_pair f t (xs ++ m ∷ []) (with_pair f t ms w), Ok tt)) (pair_same w.waiting f t ms)
      ∙ ap (λ net. (with_net net w, Ok tt)) (pair-pair w.waiting f t ms (ms ++ m ∷ []))
