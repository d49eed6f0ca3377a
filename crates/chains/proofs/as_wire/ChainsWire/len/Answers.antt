use Rattle.std.proofs.Common.{◌≡◌, true, false, refl, sym, ◌∙◌}
use Rattle.chains.specs.Linkages.{messages}
use Rattle.chains.specs.Tables.{linkage}
use Rattle.chains.proofs.Nets.{length-net_outside}
use Rattle.chains.proofs.Wires.{waits}
use Rattle.chains.proofs.as_wire.ChainsWire.len.Goals as goal

pub returns-then-not-is_below : goal.returns-then-not-is_below
returns-then-not-is_below c =
    let w = c.args.self.now in
    sym (length-net_outside w.boards (messages (linkage w.table)) c.args.pair.from c.args.pair.to (λ below. let no : false ≡ true = c.if-not-is_below.ensures.1 below in (cc)))

pub returns : goal.returns
returns c =
    let below = c.if-not-is_below.ensures.0 refl in
    c.len.ensures ∙ sym (waits c.args.self.now c.args.pair.from c.args.pair.to c.chain_of.result below.0 below.1 c.chain_of.ensures)
