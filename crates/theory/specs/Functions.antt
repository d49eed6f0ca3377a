-- Functions of a number, changed at one place or cut off.
use Rattle.std.specs.Prelude.{ℕ, cond, ◌==◌, nat_lt}

-- the function that is a at i, and else as before
unfoldable pub put : {A : Type 0} → (ℕ → A) → ℕ → A → ℕ → A
put f i a j = cond (j == i) a (f j)

-- the function that is d from n on
unfoldable pub masked : {A : Type 0} → ℕ → A → (ℕ → A) → ℕ → A
masked n d f j = cond (nat_lt j n) (f j) d
