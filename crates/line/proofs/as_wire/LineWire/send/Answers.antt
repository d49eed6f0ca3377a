use Rattle.std.proofs.Common.{sym, refl, ap, ◌∙◌}
use Rattle.line.specs.Kept.{kept, room}
use Rattle.line.specs.Letters.{joins}
use Rattle.line.proofs.Joins.{joins_push}
use Rattle.line.proofs.Steps.{send_full, send_more}
use Rattle.line.proofs.as_wire.LineWire.send.Goals as goal

pub returns-then-len-room-clause-does_its_step : goal.returns-then-len-room-clause-does_its_step
returns-then-len-room-clause-does_its_step c =
    let s = c.args.self.now in
    let below = c.if-not-is_below.ensures.0 refl in
    send_full s.boards (room s.letters) (kept s.letters) s.joined c.args.pair below.0 below.1 c.args.message
    (sym c.len.ensures ∙ c.if-len-room.true ∙ c.room.ensures)

pub invariant_of-self : goal.invariant_of-self
invariant_of-self c =
    let s = c.args.self.now in
    let below = c.if-not-is_below.ensures.0 refl in
    record {
      few = s.few;
      joined = ap (joins s.boards) c.push.ensures.behind ∙ joins_push s.boards (kept s.letters) c.args.pair c.args.message below.0 below.1 s.joined;
    }

pub returns-clause-does_its_step : goal.returns-clause-does_its_step
returns-clause-does_its_step c =
    let s = c.args.self.now in
    let l = c.push.new.self in
    let below = c.if-not-is_below.ensures.0 refl in
    send_more s.boards (room s.letters) (kept s.letters) s.joined c.args.pair below.0 below.1 c.args.message (kept l) (room l)
    (λ e. c.if-len-room.false (c.len.ensures ∙ e ∙ sym c.room.ensures)) c.push.ensures.behind c.push.ensures.room
