-- A wire as a value: how many boards it joins, how many messages it can hold, and those that wait. What a send and a
-- take make of it.
use Rattle.std.specs.Prelude.{◌≡◌, ℕ, ◌≤◌, List, [], ◌∷◌, ◌++◌, Ok, Err, Result, ◌==◌, nat_le, nat_lt}
use Rattle.theory.specs.declared.fault.PackFault.{PackFault}
use Rattle.theory.specs.declared.fault.PackFault.TheVariants.{Setting}
use Rattle.theory.specs.declared.fault.WireFault.{WireFault}
use Rattle.theory.specs.declared.fault.WireFault.TheVariants.{NoPair, Full, Empty}
use Rattle.theory.specs.declared.message.Message.{Message}
use Rattle.theory.specs.Net.{Net, put_pair, total}
use Rattle.theory.specs.Refusals.{unless}

pub record WireState : Type 0 where
  pub boards : ℕ
  pub capacity : ℕ
  pub waiting : Net

-- how many messages wait
abbrev pub load : WireState → ℕ
load w = total w.boards w.waiting

-- what holds of every wire: at most 16 boards, no more messages than it has room for, and none on a pair that it
-- does not join
pub record Proper (w : WireState) : Type 0 where
  pub few : w.boards ≤ 16
  pub fits : load w ≤ w.capacity
  pub no_sender : (from to : ℕ) → w.boards ≤ from → w.waiting from to ≡ []
  pub no_taker : (from to : ℕ) → w.boards ≤ to → w.waiting from to ≡ []

-- with other messages on one pair, and everything else as it was
abbrev pub with_pair : ℕ → ℕ → List Message → WireState → WireState
with_pair from to ms w = record w { waiting = put_pair w.waiting from to ms }

-- a message joins the end of its pair
abbrev pub send : ℕ → ℕ → Message → WireState → WireState × Result (Unit {0}) WireFault
send from to m w =
    unless (nat_le w.boards from) NoPair w
    (unless (nat_le w.boards to) NoPair w
    (unless (load w == w.capacity) Full w
    (with_pair from to (w.waiting from to ++ m ∷ []) w, Ok tt)))

abbrev pub take_first : ℕ → ℕ → List Message → WireState → WireState × Result Message WireFault
take_first from to [] w = (w, Err Empty)
take_first from to (m ∷ ms) w = (with_pair from to ms w, Ok m)

-- the first message of a pair leaves it
abbrev pub take : ℕ → ℕ → WireState → WireState × Result Message WireFault
take from to w =
    unless (nat_le w.boards from) NoPair w
    (unless (nat_le w.boards to) NoPair w
    (take_first from to (w.waiting from to) w))

-- nothing waits
abbrev pub empty : ℕ → ℕ → WireState
empty boards capacity = record { boards = boards; capacity = capacity; waiting = λ _ _. [] }

-- a wire is opened for at most 16 boards, with nothing on it
abbrev pub open_for : ℕ → WireState → WireState × Result (Unit {0}) PackFault
open_for boards w = unless (nat_lt 16 boards) Setting w (empty boards w.capacity, Ok tt)
