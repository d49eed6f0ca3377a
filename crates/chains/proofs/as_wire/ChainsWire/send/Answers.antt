use Rattle.std.proofs.Common.{refl, ◌∙◌, arith}
use Rattle.chains.specs.Tables.{linkage}
use Rattle.chains.proofs.Wires.{chain_within, counted-pushed, summed_pushed, sent}
use Rattle.chains.proofs.as_wire.ChainsWire.send.Goals as goal

pub push-requires-clause-room : goal.push-requires-clause-room
push-requires-clause-room c =
    let w = c.args.self.now in
    let below = c.if-not-is_below.ensures.0 refl in
    omega (arith, w.counted, c.free.ensures, c.if-free-eq0.false, chain_within w c.args.pair.from c.args.pair.to c.chain_of.result below.0 below.1 c.chain_of.ensures)

pub invariant_of-self : goal.invariant_of-self
invariant_of-self c =
    let w = c.args.self.now in
    let f = c.args.pair.from in
    let t = c.args.pair.to in
    let i = c.chain_of.result in
    let below = c.if-not-is_below.ensures.0 refl in
    let is = c.chain_of.ensures in
    let p = c.push.ensures in
    let u = linkage c.push.new.self in
    record {
      few = w.few;
      counted = counted-pushed w f t i below.0 below.1 is u c.args.message p;
      summed = summed_pushed w f t i below.0 below.1 is u c.args.message p;
    }

pub returns-clause-does_its_step : goal.returns-clause-does_its_step
returns-clause-does_its_step c =
    let w = c.args.self.now in
    let below = c.if-not-is_below.ensures.0 refl in
    sent w c.args.pair.from c.args.pair.to c.chain_of.result below.0 below.1 c.chain_of.ensures
    (linkage c.push.new.self) c.args.message c.push.ensures (λ e. c.if-free-eq0.false (c.free.ensures ∙ e))
