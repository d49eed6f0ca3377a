-- What each line of a file says.
use Rattle.std.specs.Prelude.{ℕ, cond, List, Some, None, codes, Option, ◌==◌}
use Rattle.text.specs.Values.{value}
use Rattle.theory.specs.declared.call.Call.{Call}
use Rattle.theory.specs.declared.call.Call.TheVariants.{Make, Set}
use Rattle.theory.specs.declared.state.Settings.{Settings}
use Rattle.listing.specs.declared.row.Row.{Row}

-- the names line of the settings, and that of the calls
abbrev pub settings_names : List ℕ
settings_names = codes "boards cells entries credit\n"

abbrev pub call_names : List ℕ
call_names = codes "call board a b c\n"

-- a number that ends with the byte `end`, and then whatever is made of it and the rest of the line
abbrev pub then_read : {A : Type 0} → Option (ℕ × List ℕ) → (ℕ → List ℕ → Option A) → Option A
then_read None next = None
then_read (Some (n, rest)) next = next n rest

-- four numbers, with a space after each but the last and a newline after that
abbrev pub settings_of : List ℕ → Option Settings
settings_of line =
    then_read (value 32 line) (λ boards l.
    then_read (value 32 l) (λ cells l.
    then_read (value 32 l) (λ entries l.
    then_read (value 10 l) (λ credit l. Some (record { boards = boards; cells = cells; entries = entries; credit = credit })))))

-- five numbers, likewise
abbrev pub row_of : List ℕ → Option Row
row_of line =
    then_read (value 32 line) (λ code l.
    then_read (value 32 l) (λ board l.
    then_read (value 32 l) (λ a l.
    then_read (value 32 l) (λ b l.
    then_read (value 10 l) (λ c l. Some (record { code = code; board = board; a = a; b = b; c = c }))))))

-- the call of a code, with its arguments in order
abbrev pub call_of : Row → Option Call
call_of r =
    cond (r.code == 1) (Some (Make r.board r.a r.b))
    (cond (r.code == 5) (Some (Set r.board r.a r.b)) None)
