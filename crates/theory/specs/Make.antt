-- Make: a new record from the first free entry and the cells from the top up.
use Rattle.std.specs.Prelude.{ℕ, ◌+◌, ◌-◌, Bool, Some, None, Option, nat_le, nat_lt, slice_set}
use Rattle.theory.specs.declared.fault.PackFault.TheVariants.{NoBoard, NoSlot, BadSize, NoEntry, NoRoom}
use Rattle.theory.specs.declared.memory.Cell.TheVariants.{Value, Ref}
use Rattle.theory.specs.declared.memory.Entry.{Entry}
use Rattle.theory.specs.Answer.{Answer, accepted, refused, ready, unless_fault}
use Rattle.theory.specs.Lists.{wiped, head, tail}
use Rattle.theory.specs.Refusals.{unless}
use Rattle.theory.specs.State.{State, Board, change}

-- whether so many free cells are too few for a record of this size
abbrev pub too_few : ℕ → ℕ → Bool
too_few cells size = nat_le cells size

-- the entry of a record that no collection has marked
abbrev pub unmarked : ℕ → ℕ → Entry
unmarked size place = record { size = size; place = place; mark = None }

-- board b with a new record of `size` cells, which entry e describes and the slot refers to
abbrev pub with_record : ℕ → ℕ → ℕ → ℕ → Board → Board
with_record b slot size e x = record x {
  slots = slice_set x.slots slot (Ref (record { board = b; entry = e }));
  top = x.top + size;
  cells = wiped x.cells x.top size (Value 0);
  entries = slice_set x.entries e (unmarked size x.top);
  free = tail x.free;
}

abbrev pub make_at : ℕ → ℕ → ℕ → Option ℕ → State → State × Answer
make_at b slot size None s = refused NoEntry s
make_at b slot size (Some e) s =
    unless (too_few (s.settings.cells - (s.boards b).top) size) NoRoom s
    (accepted (change b (with_record b slot size e) s))

abbrev pub make : ℕ → ℕ → ℕ → State → State × Answer
make b slot size s =
    unless (nat_le s.settings.boards b) NoBoard s
    (unless (nat_lt 7 slot) NoSlot s
    (unless (nat_lt size 1) BadSize s
    (unless (nat_lt 64 size) BadSize s
    (unless_fault (ready (s.boards b)) s
    (make_at b slot size (head (s.boards b).free) s)))))
