-- Every refusal of a line, with its number.
use Rattle.std.specs.Prelude.{ℕ, Ok, Err, Result}
use Rattle.theory.specs.Numbers as pack
use Rattle.listing.specs.declared.fault.Refusal.{Refusal}
use Rattle.listing.specs.declared.fault.Refusal.TheVariants.{Size, Names, Values, Code, Pack}
use Rattle.listing.specs.declared.fault.LineFault.{LineFault}

abbrev pub number : Refusal → ℕ
number Size = 1
number Names = 2
number Values = 3
number Code = 4
number (Pack e) = pack.number e

-- what a line prints: how many deliveries it made, or the number of its refusal
abbrev pub printed : Result ℕ Refusal → ℕ
printed (Ok n) = n
printed (Err e) = number e

abbrev pub at_line : ℕ → Refusal → LineFault
at_line line e = record { line = line; refusal = e }
