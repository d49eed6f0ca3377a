-- What a `Writer` has written, and what a call adds to it.
use Rattle.std.specs.Prelude.{◌≡◌, ℕ, List, ◌++◌, length, take, drop}
use Rattle.std.specs.Borrow.{GName}
use Rattle.text.specs.declared.writer.Writer.{Writer}

abbrev pub written : Writer → List ℕ
written w = take w.len w.place.now

-- how many bytes the lent place holds in all
abbrev pub room : Writer → ℕ
room w = length w.place.now

-- what lies behind the first n bytes of the place
abbrev pub behind : ℕ → Writer → List ℕ
behind n w = drop n w.place.now

-- the place itself, as its owner knows it
abbrev pub lender : Writer → GName
lender w = w.place.ghost_name

-- from v to w just these bytes were added, as far as there was room
pub record Wrote (v w : Writer) (bytes : List ℕ) : Type 0 where
  pub lent : lender w ≡ lender v
  pub wide : room w ≡ room v
  pub text : written w ≡ take (room v) (written v ++ bytes)
  pub after : behind (length (written w)) w ≡ behind (length (written w)) v
