-- How far the `Fields` of a line have come.
use Rattle.std.specs.Prelude.{ℕ, List}
use Rattle.text.specs.declared.fields.Fields.{Fields}

-- the bytes of the line that are not passed over yet
abbrev pub rest : Fields → List ℕ
rest s = s.tail.now

-- the number of the line
abbrev pub at_line : Fields → ℕ
at_line s = s.line
