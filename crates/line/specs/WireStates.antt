-- A line as a wire, and the letters that were lent to it.
use Rattle.std.specs.Prelude.{List}
use Rattle.theory.specs.Wire.{WireState}
use Rattle.line.specs.declared.letters.Letter.{Letter}
use Rattle.line.specs.declared.Line.{Line}
use Rattle.line.specs.Kept.{kept, lent, room}
use Rattle.line.specs.Letters.{line_of}

abbrev pub wire_state : Line → WireState
wire_state l = line_of l.boards (room l.letters) (kept l.letters)

abbrev pub letters_of : Line → List Letter
letters_of l = lent l.letters
