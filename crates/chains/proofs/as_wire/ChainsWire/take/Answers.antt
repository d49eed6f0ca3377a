use Rattle.std.proofs.Common.{sym, refl, ◌∙◌, arith}
use Rattle.chains.specs.Tables.{linkage}
use Rattle.chains.proofs.Wires.{chain_within, counted_popped, summed_popped, taken, nothing_taken}
use Rattle.chains.proofs.as_wire.ChainsWire.take.Goals as goal

pub returns-then-len-eq0-clause-does_its_step : goal.returns-then-len-eq0-clause-does_its_step
returns-then-len-eq0-clause-does_its_step c =
    let below = c.if-not-is_below.ensures.0 refl in
    nothing_taken c.args.self.now c.args.pair.from c.args.pair.to c.chain_of-chain.result below.0 below.1 c.chain_of-chain.ensures
    (sym c.len.ensures ∙ c.if-len-eq0.true)

pub pop-message-requires-clause-room : goal.pop-message-requires-clause-room
pop-message-requires-clause-room c =
    let w = c.args.self.now in
    let below = c.if-not-is_below.ensures.0 refl in
    omega (arith, w.counted, c.len.ensures, c.if-len-eq0.false, chain_within w c.args.pair.from c.args.pair.to c.chain_of-chain.result below.0 below.1 c.chain_of-chain.ensures)

pub overflow_sub-self : goal.overflow_sub-self
overflow_sub-self c =
    let w = c.args.self.now in
    let below = c.if-not-is_below.ensures.0 refl in
    omega (arith, c.len.ensures, c.if-len-eq0.false, chain_within w c.args.pair.from c.args.pair.to c.chain_of-chain.result below.0 below.1 c.chain_of-chain.ensures)

pub invariant_of-self : goal.invariant_of-self
invariant_of-self c =
    let w = c.args.self.now in
    let f = c.args.pair.from in
    let t = c.args.pair.to in
    let i = c.chain_of-chain.result in
    let below = c.if-not-is_below.ensures.0 refl in
    let is = c.chain_of-chain.ensures in
    let p = c.pop-message.ensures in
    let u = linkage c.pop-message.new.self in
    record {
      few = w.few;
      counted = counted_popped w f t i below.0 below.1 is u c.pop-message.result p;
      summed = summed_popped w f t i below.0 below.1 is u c.pop-message.result p;
    }

pub returns-clause-does_its_step : goal.returns-clause-does_its_step
returns-clause-does_its_step c =
    let below = c.if-not-is_below.ensures.0 refl in
    taken c.args.self.now c.args.pair.from c.args.pair.to c.chain_of-chain.result below.0 below.1 c.chain_of-chain.ensures
    (linkage c.pop-message.new.self) c.pop-message.result c.pop-message.ensures
