-- The lines of a listing, to the byte.
use Rattle.std.specs.Prelude.{ℕ, ◌^◌, ◌<◌, List, [], ◌∷◌, ◌++◌, decimal, Result}
use Rattle.theory.specs.declared.state.Figures.{Figures}
use Rattle.listing.specs.declared.fault.Refusal.{Refusal}
use Rattle.listing.specs.Numbers.{printed}

-- the number of a line, a space, its answer
abbrev pub answer_line : ℕ → Result ℕ Refusal → List ℕ
answer_line line r = decimal line ++ (32 ∷ (decimal (printed r) ++ (10 ∷ [])))

-- the last line: the figures of the last collection
abbrev pub figures_line : Figures → List ℕ
figures_line f = decimal f.kept ++ (32 ∷ (decimal f.messages ++ (32 ∷ (decimal f.freed ++ (10 ∷ [])))))

-- figures of 64 bits
abbrev pub Words : Figures → Type 0
Words f = (f.kept < 2 ^ 64) × (f.messages < 2 ^ 64) × (f.freed < 2 ^ 64)
