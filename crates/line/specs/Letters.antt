-- Letters in the order of sending, read pair by pair.
use Rattle.std.specs.Prelude.{ℕ, Bool, ◌&&◌, List, map, ◌==◌, nat_lt}
use Rattle.std.specs.List.{filter, list_all}
use Rattle.theory.specs.declared.message.Message.{Message}
use Rattle.theory.specs.declared.message.Pair.{Pair}
use Rattle.theory.specs.Net.{Net}
use Rattle.theory.specs.Wire.{WireState}
use Rattle.line.specs.declared.letters.Letter.{Letter}

abbrev pub letter : Pair → Message → Letter
letter p m = record { pair = p; message = m }

abbrev pub for_pair : ℕ → ℕ → Letter → Bool
for_pair f t l = l.pair.from == f && l.pair.to == t

-- the messages of a pair
abbrev pub pick : ℕ → ℕ → List Letter → List Message
pick f t ls = map (λ l. l.message) (filter (for_pair f t) ls)

-- what waits on each pair
abbrev pub picked : List Letter → Net
picked ls = λ f t. pick f t ls

-- the wire that these letters make, between so many boards
abbrev pub line_of : ℕ → ℕ → List Letter → WireState
line_of boards capacity ls = record { boards = boards; capacity = capacity; waiting = picked ls }

-- each letter goes between two of n boards
abbrev pub joins : ℕ → List Letter → Bool
joins n ls = list_all (λ l. nat_lt l.pair.from n && nat_lt l.pair.to n) ls
