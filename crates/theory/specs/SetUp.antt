-- Set-up: a pack with nothing in it, over the memory and the wire that were brought.
use Rattle.std.specs.Prelude.{ℕ, ◌*◌, replicate, Ok, nat_lt}
use Rattle.theory.specs.declared.fault.PackFault.TheVariants.{Setting, Memory, SmallWire, BusyWire}
use Rattle.theory.specs.declared.memory.Cell.TheVariants.{Value}
use Rattle.theory.specs.declared.state.Settings.{Settings}
use Rattle.theory.specs.Answer.{Answer, accepted, fault_if, unless_fault}
use Rattle.theory.specs.Functions.{masked}
use Rattle.theory.specs.Lists.{below}
use Rattle.theory.specs.Net.{needed}
use Rattle.theory.specs.State.{State, Board, no_board, no_entry, no_figures, no_lead}
use Rattle.theory.specs.Wire.{WireState, load}

-- how much memory was brought: cells, entries, free numbers and held operations
pub record Brought : Type 0 where
  pub cells : ℕ
  pub entries : ℕ
  pub free : ℕ
  pub held : ℕ

-- a board as set-up leaves it
abbrev pub fresh : Settings → Board
fresh t = record no_board {
  slots = replicate 8 (Value 0);
  cells = replicate t.cells (Value 0);
  entries = replicate t.entries no_entry;
  free = below t.entries;
  purse = record { have = t.credit; most = t.credit * t.boards };
}

-- a pack as set-up leaves it, over the wire that s has
abbrev pub started : Settings → State → State
started t s = record {
  settings = t;
  boards = masked t.boards no_board (λ _. fresh t);
  wire = s.wire;
  lead = no_lead;
  result = no_figures;
}

abbrev pub no_settings : Settings
no_settings = record { boards = 0; cells = 0; entries = 0; credit = 0 }

-- before set-up: no board at all
abbrev pub blank : WireState → State
blank wire = record {
  settings = no_settings;
  boards = λ _. no_board;
  wire = wire;
  lead = no_lead;
  result = no_figures;
}

-- 1 to 16 boards, 2 to 4096 cells, 1 to 512 entries and a credit of 1 to 64
abbrev pub ranges : Settings → Answer
ranges t =
    fault_if (nat_lt t.boards 1) Setting
    (fault_if (nat_lt 16 t.boards) Setting
    (fault_if (nat_lt t.cells 2) Setting
    (fault_if (nat_lt 4096 t.cells) Setting
    (fault_if (nat_lt t.entries 1) Setting
    (fault_if (nat_lt 512 t.entries) Setting
    (fault_if (nat_lt t.credit 1) Setting
    (fault_if (nat_lt 64 t.credit) Setting (Ok tt))))))))

-- memory for every board
abbrev pub memory_enough : Brought → Settings → Answer
memory_enough brought t =
    fault_if (nat_lt brought.cells (t.boards * t.cells)) Memory
    (fault_if (nat_lt brought.entries (t.boards * t.entries)) Memory
    (fault_if (nat_lt brought.free (t.boards * t.entries)) Memory
    (fault_if (nat_lt brought.held (t.boards * t.boards)) Memory (Ok tt))))

-- a wire that joins the boards, has the room that they need, and carries nothing yet
abbrev pub wire_enough : WireState → Settings → Answer
wire_enough w t =
    fault_if (nat_lt w.boards t.boards) SmallWire
    (fault_if (nat_lt w.capacity (needed t.boards t.credit)) SmallWire
    (fault_if (nat_lt 0 (load w)) BusyWire (Ok tt)))

abbrev pub set_up : Brought → Settings → State → State × Answer
set_up brought t s =
    unless_fault (ranges t) s
    (unless_fault (memory_enough brought t) s
    (unless_fault (wire_enough s.wire t) s
    (accepted (started t s))))
