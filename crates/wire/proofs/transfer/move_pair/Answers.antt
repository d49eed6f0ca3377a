use Rattle.std.proofs.Common.{◌<◌, ◌≤◌, length, arith}
use Rattle.wire.proofs.Moves.{left_none, came_none, take_done, send_done, pair_moved, not_refused, same_answer}
use Rattle.wire.proofs.transfer.move_pair.Goals as goal

pub loop-init : goal.loop-init
loop-init g c =
    let s = g.A.Wire.means c.args.source.now in
    let t = g.B.Wire.means c.args.target.now in
    (left_none s c.args.pair.from c.args.pair.to, came_none s t c.args.pair.from c.args.pair.to)

pub returns-in_err-message : goal.returns-in_err-message
returns-in_err-message g c =
    let s = g.A.Wire.means c.args.source.now in
    let t = g.B.Wire.means c.args.target.now in
    let l : c.loop.counter < length (s.waiting c.args.pair.from c.args.pair.to) = omega (arith, c.len-waiting.ensures, c.loop-test.true) in
    let took = take_done s t c.requires.ready c.args.pair.from c.args.pair.to c.requires.sender c.requires.taker c.loop.counter l _ _ c.take.result c.loop.invariant.0 c.take.ensures.does_its_step in
    absurd (not_refused c.take.result _ _ took.1 c.in_err-message.was)

pub returns-in_err-send : goal.returns-in_err-send
returns-in_err-send g c =
    let s = g.A.Wire.means c.args.source.now in
    let t = g.B.Wire.means c.args.target.now in
    let l : c.loop.counter < length (s.waiting c.args.pair.from c.args.pair.to) = omega (arith, c.len-waiting.ensures, c.loop-test.true) in
    let took = take_done s t c.requires.ready c.args.pair.from c.args.pair.to c.requires.sender c.requires.taker c.loop.counter l _ _ c.take.result c.loop.invariant.0 c.take.ensures.does_its_step in
    let m = same_answer c.take.result c.in_ok-message.message _ c.in_ok-message.was took.1 in
    let sent = send_done s t c.requires.ready c.args.pair.from c.args.pair.to c.requires.sender c.requires.taker c.loop.counter l c.in_ok-message.message _ _ c.send.result m c.loop.invariant.1 c.send.ensures.does_its_step in
    absurd (not_refused c.send.result _ _ sent.1 c.in_err-send.was)

pub loop-preserved : goal.loop-preserved
loop-preserved g c =
    let s = g.A.Wire.means c.args.source.now in
    let t = g.B.Wire.means c.args.target.now in
    let l : c.loop.counter < length (s.waiting c.args.pair.from c.args.pair.to) = omega (arith, c.len-waiting.ensures, c.loop-test.true) in
    let took = take_done s t c.requires.ready c.args.pair.from c.args.pair.to c.requires.sender c.requires.taker c.loop.counter l _ _ c.take.result c.loop.invariant.0 c.take.ensures.does_its_step in
    let m = same_answer c.take.result c.in_ok-message.message _ c.in_ok-message.was took.1 in
    let sent = send_done s t c.requires.ready c.args.pair.from c.args.pair.to c.requires.sender c.requires.taker c.loop.counter l c.in_ok-message.message _ _ c.send.result m c.loop.invariant.1 c.send.ensures.does_its_step in
    (took.0, sent.0)

pub returns-clause-moved : goal.returns-clause-moved
returns-clause-moved g c =
    let s = g.A.Wire.means c.args.source.now in
    let t = g.B.Wire.means c.args.target.now in
    let l : length (s.waiting c.args.pair.from c.args.pair.to) ≤ c.loop.counter = omega (arith, c.len-waiting.ensures, c.loop-test.false) in
    rw (c.loop.invariant.0, c.loop.invariant.1) (pair_moved s t c.requires.ready c.args.pair.from c.args.pair.to c.requires.sender c.requires.taker c.loop.counter l)
