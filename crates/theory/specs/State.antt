-- A pack as a value: its settings, its boards, its wire, the lead's part and the last result.
use Rattle.std.specs.Prelude.{ℕ, Bool, false, List, [], None}
use Rattle.theory.specs.declared.memory.Cell.{Cell}
use Rattle.theory.specs.declared.memory.Entry.{Entry}
use Rattle.theory.specs.declared.memory.Mode.{Mode}
use Rattle.theory.specs.declared.memory.Mode.TheVariants.{Run}
use Rattle.theory.specs.declared.memory.Outcome.{Outcome}
use Rattle.theory.specs.declared.memory.Outcome.TheVariants.{Done}
use Rattle.theory.specs.declared.message.Held.{Held}
use Rattle.theory.specs.declared.state.Figures.{Figures}
use Rattle.theory.specs.declared.state.Lead.{Lead}
use Rattle.theory.specs.declared.state.Round.{Round}
use Rattle.theory.specs.declared.state.Settings.{Settings}
use Rattle.theory.specs.Functions.{put}
use Rattle.theory.specs.Wire.{WireState}

-- the credit that a board has, and the most that it could have
pub record Purse : Type 0 where
  pub have : ℕ
  pub most : ℕ

pub record Board : Type 0 where
  -- its memory
  pub slots : List Cell
  pub top : ℕ
  pub cells : List Cell
  pub entries : List Entry
  pub free : List ℕ
  -- its remote operations: those that it holds, whether it waits for one of its own, how the last ended
  pub held : List Held
  pub waits : Bool
  pub outcome : Outcome
  -- its part in a collection
  pub mode : Mode
  pub requested : Bool
  pub purse : Purse
  pub round : Round

pub record State : Type 0 where
  pub settings : Settings
  pub boards : ℕ → Board
  pub wire : WireState
  pub lead : Lead
  pub result : Figures

abbrev pub no_entry : Entry
no_entry = record { size = 0; place = 0; mark = None }

abbrev pub no_round : Round
no_round = record { sent = 0; answered = 0; started = false; shoves = 0; ends = 0; taken = 0 }

abbrev pub no_figures : Figures
no_figures = record { kept = 0; messages = 0; freed = 0 }

abbrev pub no_lead : Lead
no_lead = record { closing = None; wish = false }

-- the board of a number that names none
abbrev pub no_board : Board
no_board = record {
  slots = [];
  top = 0;
  cells = [];
  entries = [];
  free = [];
  held = [];
  waits = false;
  outcome = Done;
  mode = Run;
  requested = false;
  purse = record { have = 0; most = 0 };
  round = no_round;
}

abbrev pub with_slots : List Cell → Board → Board
with_slots v x = record x { slots = v }

abbrev pub with_top : ℕ → Board → Board
with_top v x = record x { top = v }

abbrev pub with_cells : List Cell → Board → Board
with_cells v x = record x { cells = v }

abbrev pub with_entries : List Entry → Board → Board
with_entries v x = record x { entries = v }

abbrev pub with_free : List ℕ → Board → Board
with_free v x = record x { free = v }

abbrev pub with_boards : (ℕ → Board) → State → State
with_boards v s = record s { boards = v }

-- the state with board b changed by f
abbrev pub change : ℕ → (Board → Board) → State → State
change b f s = with_boards (put s.boards b (f (s.boards b))) s
