-- Set: a slot becomes a value.
use Rattle.std.specs.Prelude.{ℕ, nat_le, nat_lt, slice_set}
use Rattle.theory.specs.declared.fault.PackFault.TheVariants.{NoBoard, NoSlot}
use Rattle.theory.specs.declared.memory.Cell.TheVariants.{Value}
use Rattle.theory.specs.Answer.{Answer, accepted, ready, unless_fault}
use Rattle.theory.specs.Refusals.{unless}
use Rattle.theory.specs.State.{State, with_slots, change}

abbrev pub set_slot : ℕ → ℕ → ℕ → State → State × Answer
set_slot b slot number s =
    unless (nat_le s.settings.boards b) NoBoard s
    (unless (nat_lt 7 slot) NoSlot s
    (unless_fault (ready (s.boards b)) s
    (accepted (change b (λ x. with_slots (slice_set x.slots slot (Value number)) x) s))))
