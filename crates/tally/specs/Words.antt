-- The number that a cell holds.
use Rattle.std.specs.Prelude.{ℕ}
use Rattle.theory.specs.declared.memory.Cell.{Cell}
use Rattle.theory.specs.declared.memory.Cell.TheVariants.{Value, Ref}

-- the number of a value, and else d
abbrev pub number_or : ℕ → Cell → ℕ
number_or d (Value n) = n
number_or d (Ref r) = d
