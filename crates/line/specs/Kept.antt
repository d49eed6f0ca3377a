-- The letters that a lent slice keeps, and how many it has room for.
use Rattle.std.specs.Prelude.{ℕ, List, length, take}
use Rattle.line.specs.declared.letters.Letter.{Letter}
use Rattle.line.specs.declared.letters.Letters.{Letters}

-- all that were lent, in use or not
abbrev pub lent : Letters → List Letter
lent l = l.places.now

abbrev pub kept : Letters → List Letter
kept l = take l.used l.places.now

abbrev pub room : Letters → ℕ
room l = length (lent l)
