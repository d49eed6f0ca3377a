-- The listing of a file, to the byte.
use Rattle.std.specs.Prelude.{◌≡◌, ℕ, ◌+◌, ◌≤◌, Bool, false, cond, ◌||◌, List, [], ◌∷◌, ◌++◌, length, take, drop, Some, None, Ok, Err, codes, Option, Result, nat_lt}
use Rattle.text.specs.Lines.{lines}
use Rattle.text.specs.Same.{same_bytes}
use Rattle.theory.specs.declared.call.Call.{Call}
use Rattle.theory.specs.declared.state.Settings.{Settings}
use Rattle.theory.specs.Answer.{Answer}
use Rattle.theory.specs.Calls.{Response, step}
use Rattle.theory.specs.Lists.{tail}
use Rattle.theory.specs.SetUp.{Brought, set_up}
use Rattle.theory.specs.State.{State}
use Rattle.listing.specs.declared.fault.Refusal.{Refusal}
use Rattle.listing.specs.declared.fault.Refusal.TheVariants.{Names, Values, Code, Pack}
use Rattle.listing.specs.declared.row.Row.{Row}
use Rattle.listing.specs.Lines.{settings_names, call_names, settings_of, row_of, call_of}
use Rattle.listing.specs.Printed.{answer_line, figures_line}

-- what is printed, and the pack afterwards
abbrev pub Out : Type 0
Out = List ℕ × State

-- a line after which reading stops
abbrev pub stops : ℕ → Refusal → State → Out
stops line e s = (answer_line line (Err e), s)

-- a line after which reading goes on
abbrev pub goes_on : ℕ → Result ℕ Refusal → Out → Out
goes_on line r next = (answer_line line r ++ next.0, next.1)

-- a pack's own refusal, in a line's
abbrev pub in_line : Response → Result ℕ Refusal
in_line (Ok n) = Ok n
in_line (Err e) = Err (Pack e)

-- a call, where the code names one
abbrev pub performed : Option Call → State → State × Result ℕ Refusal
performed None s = (s, Err Code)
performed (Some c) s = ((step c s).0, in_line (step c s).1)

abbrev pub call_line : ℕ → Option Row → State → (State → Out) → Out
call_line line None s next = stops line Values s
call_line line (Some r) s next = goes_on line (performed (call_of r) s).1 (next (performed (call_of r) s).0)

-- every line of calls, counted from `line`
unfoldable pub call_lines : ℕ → List (List ℕ) → State → Out
call_lines line [] s = ([], s)
call_lines line (l ∷ ls) s = call_line line (row_of l) s (call_lines (line + 1) ls)

-- whether the first line is this one
abbrev pub begins : List ℕ → List (List ℕ) → Bool
begins names [] = false
begins names (l ∷ ls) = same_bytes l names

-- the settings in the first line
abbrev pub settings_in : List (List ℕ) → Option Settings
settings_in [] = None
settings_in (l ∷ ls) = settings_of l

-- line 3 is the names line of the calls
abbrev pub from_line_3 : List (List ℕ) → State → Out
from_line_3 ls s = cond (begins call_names ls) (call_lines 4 (tail ls) s) (stops 3 Names s)

abbrev pub after_set_up : List (List ℕ) → State × Answer → Out
after_set_up ls (s, Ok _) = goes_on 2 (Ok 0) (from_line_3 ls s)
after_set_up ls (s, Err e) = stops 2 (Pack e) s

-- line 2 has the settings
abbrev pub set_up_by : Brought → Option Settings → List (List ℕ) → State → Out
set_up_by brought None ls s = stops 2 Values s
set_up_by brought (Some t) ls s = after_set_up ls (set_up brought t s)

abbrev pub from_line_2 : Brought → List (List ℕ) → State → Out
from_line_2 brought ls s = set_up_by brought (settings_in ls) (tail ls) s

-- line 1 is the names line of the settings
abbrev pub from_line_1 : Brought → List (List ℕ) → State → Out
from_line_1 brought ls s = cond (begins settings_names ls) (from_line_2 brought (tail ls) s) (stops 1 Names s)

-- the answers between the first line and the last two
abbrev pub framed : Out → List ℕ
framed out = codes "line answer\n" ++ (out.0 ++ (codes "kept messages freed\n" ++ figures_line out.1.result))

-- the listing of a file, on a pack over so much memory, and the pack afterwards
unfoldable pub listing : Brought → List ℕ → State → List ℕ
listing brought input s = framed (from_line_1 brought (lines input) s)

unfoldable pub pack_after : Brought → List ℕ → State → State
pack_after brought input s = (from_line_1 brought (lines input) s).1

-- more bytes than a file may have, or fewer than a listing's place must have
abbrev pub too_large : ℕ → ℕ → Bool
too_large input place = nat_lt 60000 input || nat_lt place 65536

-- just this text stands in the first n bytes of the place, and the rest is as it was
pub record Listed (text before after : List ℕ) (n : ℕ) : Type 0 where
  pub within : n ≤ length after
  pub count : n ≡ length text
  pub front : take n after ≡ text
  pub behind : drop n after ≡ drop n before
