-- How far a transfer has come.
use Rattle.std.proofs.Common.{ℕ, ◌&&◌, ltb}
use Rattle.wire.specs.Moves.{Pairs}

-- from the boards below k to those below n
abbrev pub rows : ℕ → ℕ → Pairs
rows k n f t = ltb f k && ltb t n
