use Rattle.std.proofs.Common.{zero-le}
use Rattle.chains.specs.Tables.{linkage}
use Rattle.chains.proofs.Wires.{counted_none, summed_none, state_none}
use Rattle.chains.proofs.Chains.over.Goals as goal

pub invariant_of-result : goal.invariant_of-result
invariant_of-result c =
    let t = linkage c.over.result in
    let e = c.over.ensures in
    record { few = zero-le; counted = counted_none _ t 0 zero-le e; summed = summed_none _ t 0 zero-le e }

pub returns : goal.returns
returns c = state_none _ (linkage c.over.result) 0 zero-le c.over.ensures
