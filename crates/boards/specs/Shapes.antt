-- What settings are in their ranges, and what memory has a part for each board.
use Rattle.std.specs.Prelude.{◌≡◌, ℕ, ◌*◌, ◌≤◌, List, length}
use Rattle.queue.specs.QueuesOf.{count_of, each_of}
use Rattle.queue.specs.declared.queues.Queues.{Queues}
use Rattle.theory.specs.declared.memory.Cell.{Cell}
use Rattle.theory.specs.declared.memory.Entry.{Entry}
use Rattle.theory.specs.declared.message.Held.{Held}
use Rattle.theory.specs.declared.state.Settings.{Settings}
use Rattle.boards.specs.declared.registers.Registers.{Registers}

-- settings that are not too large
abbrev pub Ranged : Settings → Type 0
Ranged t = (t.boards ≤ 16) × (t.cells ≤ 4096) × (t.entries ≤ 512) × (t.credit ≤ 64)

-- what a set-up that is no refusal has found
pub record InRange (t : Settings) : Type 0 where
  pub one : 1 ≤ t.boards
  pub ranged : Ranged t

-- the lent slices have a part for each board
abbrev pub Sized : Settings → List Registers → List Cell → List Entry → Type 0
Sized t registers cells entries = (length registers ≡ 16) × (t.boards * t.cells ≤ length cells) × (t.boards * t.entries ≤ length entries)

-- every board has a queue of its own, with a place for each entry, and one with a place for each board
abbrev pub Laid : Settings → Queues ℕ → Queues Held → Type 0
Laid t free held = (count_of free ≡ t.boards) × (each_of free ≡ t.entries) × (count_of held ≡ t.boards) × (each_of held ≡ t.boards)
