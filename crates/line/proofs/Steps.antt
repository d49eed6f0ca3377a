-- The steps of a wire, on the letters of a line.
use Rattle.std.proofs.Common.{◌≡◌, ℕ, ◌<◌, true, List, [], ◌∷◌, ◌++◌, length, get_or, Some, None, Option, Ok, Err, Result, sym, ap, ◌∙◌, ap₂}
use Rattle.std.specs.List.{remove, position}
use Rattle.theory.specs.declared.fault.WireFault.{WireFault}
use Rattle.theory.specs.declared.fault.WireFault.TheVariants.{Full, Empty}
use Rattle.theory.specs.declared.message.Message.{Message}
use Rattle.theory.specs.declared.message.Pair.{Pair}
use Rattle.theory.specs.Wire.{WireState, send, take}
use Rattle.theory.proofs.Wires as wires
use Rattle.theory.proofs.Wires.{send_some, take_some}
use Rattle.line.specs.declared.letters.Letter.{Letter}
use Rattle.line.specs.Letters.{letter, for_pair, pick, line_of, joins}
use Rattle.line.specs.Propers.{total-picked}
use Rattle.line.proofs.Picks.{find_some, find_none, pick-send, pick-take, pick_removed, pick_none}

module _ (n capacity : ℕ) (ls : List Letter) (j : joins n ls ≡ true) where
  module _ (p : Pair) (lf : p.from < n) (lt : p.to < n) where
    pub send_full : (m : Message) → length ls ≡ capacity
        → ◌≡◌ {A = WireState × Result (Unit {0}) WireFault} (line_of n capacity ls, Err Full) (send p.from p.to m (line_of n capacity ls))
    send_full m full = sym (wires.send_full (line_of n capacity ls) p.from p.to lf lt m (total-picked n ls j ∙ full))

    pub send_more : (m : Message) (new : List Letter) (room : ℕ) → (length ls ≡ capacity → ⊥) → new ≡ ls ++ letter p m ∷ [] → room ≡ capacity
        → ◌≡◌ {A = WireState × Result (Unit {0}) WireFault} (line_of n room new, Ok tt) (send p.from p.to m (line_of n capacity ls))
    send_more m new room free e r =
        ap₂ (λ k l. (line_of n k l, Ok tt)) r e
        ∙ ap (λ w. (record { boards = n; capacity = capacity; waiting = w }, Ok tt)) (pick-send p m ls)
        ∙ sym (send_some (line_of n capacity ls) p.from p.to lf lt m (λ z. free (sym (total-picked n ls j) ∙ z)))

module _ (n capacity : ℕ) (ls : List Letter) (f t : ℕ) (lf : f < n) (lt : t < n) where
  pub take_none : ◌≡◌ {A = Option ℕ} None (position (for_pair f t) ls) → ◌≡◌ {A = WireState × Result Message WireFault} (line_of n capacity ls, Err Empty) (take f t (line_of n capacity ls))
  take_none e = sym (wires.take_none (line_of n capacity ls) f t lf lt (pick_none f t ls (find_none f t ls e)))

  pub take_one : (m : Message) (at room : ℕ) (new : List Letter) → Some at ≡ position (for_pair f t) ls → ((d : Letter) → m ≡ (get_or ls at d).message)
      → new ≡ remove ls at → room ≡ capacity
      → ◌≡◌ {A = WireState × Result Message WireFault} (line_of n room new, Ok m) (take f t (line_of n capacity ls))
  take_one m at room new found read closed r =
      let e = find_some f t at ls found in
      ap₂ (λ k l. (line_of n k l, Ok m)) r closed
      ∙ ap (λ w. (record { boards = n; capacity = capacity; waiting = w }, Ok m)) (pick_removed f t at ls e.0)
      ∙ sym (take_some (line_of n capacity ls) f t lf lt m (pick f t (remove ls at)) (pick-take f t at m ls e.0 e.1 read))
