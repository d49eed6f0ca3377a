-- The messages of some pairs moved from one wire to another.
use Rattle.std.specs.Prelude.{◌≡◌, ℕ, ◌+◌, ◌≤◌, Bool, cond, ◌&&◌, [], ◌++◌, ◌==◌, nat_lt}
use Rattle.theory.specs.Net.{Net}
use Rattle.theory.specs.Wire.{WireState, load}

abbrev pub Pairs : Type 0
Pairs = ℕ → ℕ → Bool

-- one pair
abbrev pub one_pair : ℕ → ℕ → Pairs
one_pair from to f t = f == from && t == to

-- from one board to those below n
abbrev pub row : ℕ → ℕ → Pairs
row from n f t = f == from && nat_lt t n

-- what is left on the source
unfoldable pub taken : Pairs → Net → Net
taken some source f t = cond (some f t) [] (source f t)

-- what waits then on the target
unfoldable pub given : Pairs → Net → Net → Net
given some source target f t = cond (some f t) (target f t ++ source f t) (target f t)

abbrev pub with_net : Net → WireState → WireState
with_net net w = record w { waiting = net }

-- the target joins the boards of the source, and has room for all that waits there
pub record Ready (source target : WireState) : Type 0 where
  pub joins : source.boards ≤ target.boards
  pub room : load target + load source ≤ target.capacity

-- the messages of some pairs are moved, and none is lost
pub record Moved (some : Pairs) (source target source' target' : WireState) : Type 0 where
  pub left : source' ≡ with_net (taken some source.waiting) source
  pub came : target' ≡ with_net (given some source.waiting target.waiting) target
  pub loads : load target' + load source' ≡ load target + load source
