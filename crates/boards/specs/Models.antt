-- The state that a core stands for.
use Rattle.std.specs.Prelude.{◌≡◌, ℕ, ◌*◌, ◌≤◌, false, List, [], length, replicate, slice_index_or}
use Rattle.std.proofs.Common.{zero-le}
use Rattle.queue.specs.QueuesOf.{queues, places_len}
use Rattle.theory.specs.declared.memory.Cell.{Cell}
use Rattle.theory.specs.declared.memory.Cell.TheVariants.{Value}
use Rattle.theory.specs.declared.memory.Entry.{Entry}
use Rattle.theory.specs.declared.memory.Mode.TheVariants.{Run}
use Rattle.theory.specs.declared.memory.Outcome.TheVariants.{Done}
use Rattle.theory.specs.declared.message.Held.{Held}
use Rattle.theory.specs.declared.state.Figures.{Figures}
use Rattle.theory.specs.declared.state.Lead.{Lead}
use Rattle.theory.specs.declared.state.Settings.{Settings}
use Rattle.theory.specs.Functions.{masked}
use Rattle.theory.specs.Lists.{parts}
use Rattle.theory.specs.SetUp.{Brought}
use Rattle.theory.specs.State.{State, Board, no_board, no_round, change}
use Rattle.theory.specs.Wire.{WireState}
use Rattle.boards.specs.declared.inner.Core.{Core}
use Rattle.boards.specs.declared.registers.Registers.{Registers}

-- what a read past the sixteen gives
abbrev pub no_registers : Registers
no_registers = record { slots = []; top = 0; waits = false; outcome = Done; mode = Run; requested = false; purse = record { have = 0; most = 0; within = zero-le }; round = no_round }

-- a board by its registers and its parts
abbrev pub look : Registers → List Cell → List Entry → List ℕ → List Held → Board
look r cs es fs hs = record {
  slots = r.slots;
  top = r.top;
  cells = cs;
  entries = es;
  free = fs;
  held = hs;
  waits = r.waits;
  outcome = r.outcome;
  mode = r.mode;
  requested = r.requested;
  purse = record { have = r.purse.have; most = r.purse.most };
  round = r.round;
}

-- the registers are those of the board
abbrev pub Shows : Registers → Board → Type 0
Shows r x = look r x.cells x.entries x.free x.held ≡ x

-- every board by the registers and the parts
abbrev pub looks : (ℕ → Registers) → (ℕ → List Cell) → (ℕ → List Entry) → (ℕ → List ℕ) → (ℕ → List Held) → ℕ → Board
looks r cs es fs hs b = look (r b) (cs b) (es b) (fs b) (hs b)

-- the boards below n
unfoldable pub shown : ℕ → (ℕ → Registers) → (ℕ → List Cell) → (ℕ → List Entry) → (ℕ → List ℕ) → (ℕ → List Held) → ℕ → Board
shown n r cs es fs hs = masked n no_board (looks r cs es fs hs)

module _ (t : Settings) (wire : WireState) (lead : Lead) (result : Figures) where
  abbrev pub seen : (ℕ → Registers) → (ℕ → List Cell) → (ℕ → List Entry) → (ℕ → List ℕ) → (ℕ → List Held) → State
  seen r cs es fs hs = record {
    settings = t;
    boards = shown t.boards r cs es fs hs;
    wire = wire;
    lead = lead;
    result = result;
  }

pub record Enough (b : Brought) (t : Settings) : Type 0 where
  pub cells : t.boards * t.cells ≤ b.cells
  pub entries : t.boards * t.entries ≤ b.entries
  pub free : t.boards * t.entries ≤ b.free
  pub held : t.boards * t.boards ≤ b.held

abbrev pub registers_of : List Registers → ℕ → Registers
registers_of l b = slice_index_or l b no_registers

-- a board with so much credit and nothing else
abbrev pub bare : ℕ → ℕ → Board
bare credit most = record no_board { slots = replicate 8 (Value 0); purse = record { have = credit; most = most } }

abbrev pub Bare : ℕ → ℕ → List Registers → ℕ → Type 0
Bare credit most l b = look (registers_of l b) [] [] [] [] ≡ bare credit most

module _ {W : Type 0} where
  abbrev pub brought : Core W → Brought
  brought c = record { cells = length c.cells.now; entries = length c.entries.now; free = places_len c.free; held = places_len c.held }

  abbrev pub cells_lent : Core W → List Cell
  cells_lent c = c.cells.now

  abbrev pub entries_lent : Core W → List Entry
  entries_lent c = c.entries.now

  abbrev pub cells_of : Core W → ℕ → List Cell
  cells_of c = parts c.cells.now c.settings.cells

  abbrev pub entries_of : Core W → ℕ → List Entry
  entries_of c = parts c.entries.now c.settings.entries

  abbrev pub free_of : Core W → ℕ → List ℕ
  free_of c = queues c.free

  abbrev pub held_of : Core W → ℕ → List Held
  held_of c = queues c.held

  module _ (means : W → WireState) where
    abbrev pub model : Core W → State
    model c =
        seen c.settings (means c.wire) c.lead c.result
        (registers_of c.registers) (cells_of c) (entries_of c) (free_of c) (held_of c)

    -- q is p with board b changed by f
    pub record Changed (p q : Core W) (b : ℕ) (f : Board → Board) : Type 0 where
      pub settings : q.settings ≡ p.settings
      pub memory : brought q ≡ brought p
      pub after : model q ≡ change b f (model p)
