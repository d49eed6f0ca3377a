-- All messages of one wire moved to another.
use Rattle.std.specs.Prelude.{ℕ, ◌-◌, ◌++◌, Ok, Result, nat_lt}
use Rattle.theory.specs.declared.fault.WireFault.{WireFault}
use Rattle.theory.specs.declared.fault.WireFault.TheVariants.{NoPair, Full}
use Rattle.theory.specs.Refusals.{unless}
use Rattle.theory.specs.Wire.{WireState, load, empty}

-- how many more it can hold
abbrev pub free : WireState → ℕ
free w = w.capacity - load w

-- each pair has what waited on the target, and behind it what waited on the source
abbrev pub joined : WireState → WireState → WireState
joined source target = record target { waiting = λ from to. target.waiting from to ++ source.waiting from to }

-- the source and the target afterwards, and the answer
abbrev pub transferred : WireState → WireState → (WireState × WireState) × Result (Unit {0}) WireFault
transferred source target =
    unless (nat_lt target.boards source.boards) NoPair (source, target)
    (unless (nat_lt (free target) (load source)) Full (source, target)
    ((empty source.boards source.capacity, joined source target), Ok tt))
