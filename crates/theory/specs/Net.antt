-- What waits on a wire, for each ordered pair of boards.
use Rattle.std.specs.Prelude.{ℕ, zero, suc, ◌+◌, ◌-◌, ◌*◌, cond, ◌&&◌, List, length, ◌==◌}
use Rattle.theory.specs.declared.message.Message.{Message}

abbrev pub Net : Type 0
Net = ℕ → ℕ → List Message

-- the net with other messages for one pair
unfoldable pub put_pair : Net → ℕ → ℕ → List Message → Net
put_pair net from to ms f t = cond (f == from && t == to) ms (net f t)

-- f 0 + .. + f (n - 1)
unfoldable pub sum_to : ℕ → (ℕ → ℕ) → ℕ
sum_to zero f = 0
sum_to (suc n) f = sum_to n f + f n

-- how many messages wait on the pairs below n
abbrev pub total : ℕ → Net → ℕ
total n net = sum_to n (λ from. sum_to n (λ to. length (net from to)))

-- the room that a pack of n boards with credit k needs on its wire: k * n marking messages, one operation for
-- each board, and what a collection takes to be wanted, to start and to end
abbrev pub needed : ℕ → ℕ → ℕ
needed n k = n * (k + 1) + (n - 1) * (n + 3)
