-- Parts of a flat list, rings, and the ends of a list.
use Rattle.std.specs.Prelude.{ℕ, zero, suc, ◌+◌, ◌*◌, List, [], ◌∷◌, ◌++◌, take, drop, replicate, Some, None, Option}
use Rattle.std.proofs.Math.Seq.{paste}
use Rattle.std.specs.List.{between}

-- the part of each board in a flat list, with `each` items to a board
unfoldable pub parts : {T : Type 0} → List T → ℕ → ℕ → List T
parts xs each b = between (b * each) (b * each + each) xs

-- `count` items from `from` on are x
unfoldable pub wiped : {T : Type 0} → List T → ℕ → ℕ → T → List T
wiped xs from count x = paste xs from (replicate count x) count

-- the items of a ring: `len` places from `first` on, going on from the start past the end
unfoldable pub ring : {T : Type 0} → List T → ℕ → ℕ → List T
ring xs first len = take len (drop first (xs ++ xs))

abbrev pub head : {T : Type 0} → List T → Option T
head [] = None
head (x ∷ xs) = Some x

abbrev pub tail : {T : Type 0} → List T → List T
tail [] = []
tail (x ∷ xs) = xs

-- the numbers below n, in order
unfoldable pub below : ℕ → List ℕ
below zero = []
below (suc n) = below n ++ (n ∷ [])
