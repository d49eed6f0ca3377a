-- How far a `Reader` has come, and what a line takes it on.
use Rattle.std.specs.Prelude.{◌≡◌, ℕ, ◌+◌, ◌<◌, List, [], ◌∷◌, ◌++◌, length}
use Rattle.text.specs.Lines.{lines}
use Rattle.text.specs.declared.reader.Line.{Line}
use Rattle.text.specs.declared.reader.Reader.{Reader}

-- the bytes that it has not read yet
abbrev pub left : Reader → List ℕ
left r = r.rest.now

-- how many lines it has given
abbrev pub given : Reader → ℕ
given r = r.line

-- the reader v gives the line l and is then w
pub record Gives (v w : Reader) (l : Line) : Type 0 where
  pub first : lines (left v) ≡ l.text.now ∷ lines (left w)
  pub parts : left v ≡ l.text.now ++ left w
  pub some : 0 < length l.text.now
  pub less : length (left w) < length (left v)
  pub number : l.number ≡ given v + 1
  pub count : given w ≡ given v + 1

-- the reader v has no line left, and is then w
pub record Ended (v w : Reader) : Type 0 where
  pub none : left v ≡ []
  pub no_lines : lines (left v) ≡ []
  pub same : w ≡ v
