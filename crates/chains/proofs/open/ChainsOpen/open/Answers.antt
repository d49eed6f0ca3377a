use Rattle.std.proofs.Common.{Ok, sym, ap, ◌∙◌}
use Rattle.chains.specs.Linkages.{places}
use Rattle.chains.specs.Tables.{linkage}
use Rattle.chains.specs.WireStates.{wire_state}
use Rattle.chains.proofs.Wires.{counted_none, summed_none, state_none}
use Rattle.theory.proofs.Wires.{open_few}
use Rattle.chains.proofs.open.ChainsOpen.open.Goals as goal

pub invariant_of-self : goal.invariant_of-self
invariant_of-self c =
    let t = linkage c.clear.new.self in
    let few = c.if-boards-gt16.false in
    let e = c.clear.ensures in
    record { few = few; counted = counted_none _ t c.args.boards few e; summed = summed_none _ t c.args.boards few e }

pub returns-clause-does_its_step : goal.returns-clause-does_its_step
returns-clause-does_its_step c =
    let w = c.args.self.now in
    let few = c.if-boards-gt16.false in
    ap (λ k. (k, Ok tt)) (state_none (places (linkage w.table)) (linkage c.clear.new.self) c.args.boards few c.clear.ensures)
    ∙ sym (open_few c.args.boards (wire_state w) few)
