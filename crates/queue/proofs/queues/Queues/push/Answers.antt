use Rattle.std.proofs.Common.{◌≡◌, ◌+◌, ◌-◌, ◌<◌, Bool, true, false, Err, sym, refl, ap, ◌∙◌, arith}
use borrow.Rule.Slice.Mut.{set_vals}
use borrow.Rule.Slice.PartMut.{put_mid, put_same}
use Rattle.std.proofs.lemmas.Bool.{ltb-false}
use Rattle.queue.specs.Pushes.{push_answer}
use Rattle.queue.specs.QueuesOf.{queues, count_of}
use Rattle.queue.specs.declared.Full.{Full}
use Rattle.queue.proofs.QueuesOf.{has_room_lent, queues-pushed}
use Rattle.queue.proofs.queues.Queues.push.Goals as goal

no_room : (t : Bool) (full : Full) → push_answer t ≡ Err full → t ≡ false
no_room true full e = absurd (cc)
no_room false full e = refl

pub returns-clause-after : goal.returns-clause-after
returns-clause-after g c =
    let p = c.push_into in
    let l : c.args.b < count_of c.args.self.now = omega (arith, c.if-b-count.false, c.count.ensures.is) in
    queues-pushed c.args.self.now c.args.b l c.index-self-b.result c.start-from.result c.start-from.ensures.is c.args.x p.new.self p.new.places (omega arith) p.ensures.after

pub returns-in_err-push_into-clause-after : goal.returns-in_err-push_into-clause-after
returns-in_err-push_into-clause-after g c =
    let q = c.args.self.now in
    let p = c.push_into in
    let l : c.args.b < count_of q = omega (arith, c.if-b-count.false, c.count.ensures.is) in
    let from = c.start-from.result in
    let k = from + q.layout.each - from in
    let room = has_room_lent q c.args.b l c.index-self-b.result from c.start-from.ensures.is in
    let none = no_room _ _ (sym p.ensures.answer ∙ c.in_err-push_into.was) in
    let same = p.ensures.refused (ltb-false _ _ none) in
    rw (sym room ∙ none)
    (ap (λ ys. queues (record { layout = q.layout; places = set_vals (put_mid from k q.places.now ys) q.places })) same.1
    ∙ ap (λ ys. queues (record { layout = q.layout; places = set_vals ys q.places })) (put_same from k q.places.now))
