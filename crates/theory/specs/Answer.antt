-- How a step ends: the state, and the answer.
use Rattle.std.specs.Prelude.{Bool, true, false, cond, Ok, Err, Result}
use Rattle.theory.specs.declared.fault.PackFault.{PackFault}
use Rattle.theory.specs.declared.fault.PackFault.TheVariants.{Collecting, Waiting}
use Rattle.theory.specs.declared.memory.Mode.{Mode}
use Rattle.theory.specs.declared.memory.Mode.TheVariants.{Run, Mark, Done}
use Rattle.theory.specs.State.{State, Board}

abbrev pub Answer : Type 0
Answer = Result (Unit {0}) PackFault

abbrev pub accepted : State → State × Answer
accepted s = (s, Ok tt)

-- a refusal changes nothing
abbrev pub refused : PackFault → State → State × Answer
refused e s = (s, Err e)

-- whether a board is in a collection
abbrev pub collecting : Mode → Bool
collecting Run = false
collecting Mark = true
collecting Done = true

-- a fault where the test holds, and else what comes next
abbrev pub fault_if : Bool → PackFault → Answer → Answer
fault_if test e next = cond test (Err e) next

-- whether calls of a board are taken: not in a collection, and not while it waits
abbrev pub ready : Board → Answer
ready x = fault_if (collecting x.mode) Collecting (fault_if x.waits Waiting (Ok tt))

-- goes on where nothing was found
abbrev pub unless_fault : Answer → State → State × Answer → State × Answer
unless_fault (Ok _) s next = next
unless_fault (Err e) s next = refused e s
