-- The board that a view of one stands for.
use Rattle.queue.specs.QueuesOf.{queues}
use Rattle.theory.specs.State.{Board}
use Rattle.boards.specs.declared.board.BoardView.{BoardView}
use Rattle.boards.specs.Models.{look}

abbrev pub viewed : BoardView → Board
viewed v = look v.registers v.cells.now v.entries.now (queues v.free.now v.number) (queues v.held.now v.number)
