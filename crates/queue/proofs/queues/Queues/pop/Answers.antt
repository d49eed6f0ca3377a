use Rattle.std.proofs.Common.{◌+◌, ◌<◌, length, get_or, Some, sym, refl, ap, ◌∙◌, arith, rules}
use Rattle.theory.specs.Functions.{put}
use Rattle.theory.specs.Lists.{head, tail}
use Rattle.queue.specs.QueuesOf.{queues, count_of}
use Rattle.queue.proofs.QueuesOf.{ring-room, queue_first, queues_changed}
use Rattle.queue.proofs.queues.Queues.pop.Goals as goal

pub offset_bounds-self-start : goal.offset_bounds-self-start
offset_bounds-self-start g c =
    let q = c.args.self.now in
    let l : c.args.b < count_of q = omega (arith, c.if-b-count.false, c.count.ensures.is) in
    let room = ring-room q c.args.b l c.index-self-b.result in
    let h : c.start-start.result + c.in_ok-at.at < length q.places.now = omega (arith, c.start-start.ensures.within, room, c.in_ok-at.ensures.within) in
    search rules

pub returns-clause-answer : goal.returns-clause-answer
returns-clause-answer g c =
    let q = c.args.self.now in
    let l : c.args.b < count_of q = omega (arith, c.if-b-count.false, c.count.ensures.is) in
    let x = c.index-self-start.result in
    let e = c.index-self-start.is ∙ ap (λ k. get_or q.places.now (k + c.in_ok-at.at) x) c.start-start.ensures.is in
    ap Some (sym c.index-self-start.is) ∙ sym (ap head (queue_first q c.args.b l c.index-self-b.result c.pop.new.self c.in_ok-at.at x c.in_ok-at.ensures e))

pub returns-clause-after : goal.returns-clause-after
returns-clause-after g c =
    let q = c.args.self.now in
    let b = c.args.b in
    let l : b < count_of q = omega (arith, c.if-b-count.false, c.count.ensures.is) in
    let d = c.index-self-b.result in
    let x = c.index-self-start.result in
    let e = c.index-self-start.is ∙ ap (λ k. get_or q.places.now (k + c.in_ok-at.at) x) c.start-start.ensures.is in
    queues_changed q b l d c.pop.new.self q.places.now refl (λ j ne. refl)
    ∙ ap (put (queues q) b) (sym (ap tail (queue_first q b l d c.pop.new.self c.in_ok-at.at x c.in_ok-at.ensures e)))
