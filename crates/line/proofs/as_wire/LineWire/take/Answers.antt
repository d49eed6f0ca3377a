use Rattle.std.proofs.Common.{refl, ap, ◌∙◌}
use Rattle.line.specs.Kept.{kept, room}
use Rattle.line.specs.Letters.{joins}
use Rattle.line.proofs.Joins.{joins_removed}
use Rattle.line.proofs.Steps.{take_none, take_one}
use Rattle.line.proofs.as_wire.LineWire.take.Goals as goal

pub returns-in_default-clause-does_its_step : goal.returns-in_default-clause-does_its_step
returns-in_default-clause-does_its_step c =
    let s = c.args.self.now in
    let below = c.if-not-is_below.ensures.0 refl in
    take_none s.boards (room s.letters) (kept s.letters) c.args.pair.from c.args.pair.to below.0 below.1 c.in_default.ensures

pub invariant_of-self : goal.invariant_of-self
invariant_of-self c =
    let s = c.args.self.now in
    record { few = s.few; joined = ap (joins s.boards) c.remove.ensures.closed ∙ joins_removed s.boards (kept s.letters) c.in-Some.at s.joined }

pub returns-clause-does_its_step : goal.returns-clause-does_its_step
returns-clause-does_its_step c =
    let s = c.args.self.now in
    let l = c.remove.new.self in
    let done = c.remove.ensures in
    let below = c.if-not-is_below.ensures.0 refl in
    take_one s.boards (room s.letters) (kept s.letters) c.args.pair.from c.args.pair.to below.0 below.1 c.remove.result c.in-Some.at
    (room l) (kept l) c.in-Some.ensures done.message done.closed done.room
