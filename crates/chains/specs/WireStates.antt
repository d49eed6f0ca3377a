-- What the chains mean as a wire.
use Rattle.theory.specs.Wire.{WireState}
use Rattle.chains.specs.declared.Chains.{Chains}
use Rattle.chains.specs.Linkages.{messages, net, places}
use Rattle.chains.specs.Tables.{linkage}

abbrev pub wire_state : Chains → WireState
wire_state c = record { boards = c.boards; capacity = places (linkage c.table); waiting = net c.boards (messages (linkage c.table)) }
