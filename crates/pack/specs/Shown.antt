-- The state that a pack stands for, and what can be seen of it.
use Rattle.std.specs.Prelude.{ℕ, cond, List, Some, None, Option, nat_lt, slice_index_or}
use Rattle.std.specs.List.{slice_get}
use Rattle.theory.specs.SetUp.{Brought}
use Rattle.theory.specs.State.{State, Board}
use Rattle.theory.specs.Wire.{WireState}
use Rattle.boards.specs.Models.{model, brought}
use Rattle.pack.specs.declared.pack.Pack.{Pack}

-- how much memory the pack was brought
abbrev pub memory : {W T : Type 0} → Pack W T → Brought
memory p = brought p.core

module _ {W T : Type 0} (means : W → WireState) where
  abbrev pub state : Pack W T → State
  state p = model means p.core

-- an item of a board's list, of which there are `most`
abbrev pub item : {A : Type 0} → (Board → List A) → ℕ → A → ℕ → ℕ → State → Option A
item f most d b i s = cond (nat_lt b s.settings.boards) (cond (nat_lt i most) (Some (slice_index_or (f (s.boards b)) i d)) None) None

-- the number at i among a board's free entries, the first to be taken at 0
abbrev pub free_item : ℕ → ℕ → State → Option ℕ
free_item b i s = cond (nat_lt b s.settings.boards) (slice_get (s.boards b).free i) None
