-- Any call, and any list of calls.
use Rattle.std.specs.Prelude.{ℕ, List, [], ◌∷◌, Ok, Err, Result}
use Rattle.theory.specs.declared.call.Call.{Call}
use Rattle.theory.specs.declared.call.Call.TheVariants.{Make, Set}
use Rattle.theory.specs.declared.fault.PackFault.{PackFault}
use Rattle.theory.specs.State.{State}
use Rattle.theory.specs.Answer.{Answer}
use Rattle.theory.specs.Make.{make}
use Rattle.theory.specs.SetSlot.{set_slot}

-- what any call answers: how many deliveries it made, or why it was refused
abbrev pub Response : Type 0
Response = Result ℕ PackFault

-- a call that makes no delivery
abbrev pub without_delivery : State × Answer → State × Response
without_delivery (s, Ok _) = (s, Ok 0)
without_delivery (s, Err e) = (s, Err e)

abbrev pub step : Call → State → State × Response
step (Make b slot size) s = without_delivery (make b slot size s)
step (Set b slot number) s = without_delivery (set_slot b slot number s)

-- what a list of calls makes of a pack, whatever they answer
unfoldable pub after : List Call → State → State
after [] s = s
after (c ∷ cs) s = after cs (step c s).0
