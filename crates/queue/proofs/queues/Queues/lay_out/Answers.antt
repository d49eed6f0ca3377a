use Rattle.std.proofs.Common.{◌*◌, ◌≤◌, length, replicate, ap, ◌∙◌, le_refl, arith}
use Rattle.std.proofs.lemmas.List.{get_or-replicate}
use Rattle.std.proofs.lemmas.Bool.{and_from, le-leb}
use Rattle.queue.specs.Rings.{no_ring}
use Rattle.queue.proofs.QueuesOf.{counted_all, queues_none}
use Rattle.queue.proofs.queues.Queues.lay_out.Goals as goal

pub returns-clause-after : goal.returns-clause-after
returns-clause-after g c =
    let r = c.new.result in
    let xs = c.args.self.now.places.now in
    let few : c.args.count ≤ 16 = omega arith in
    let fits : c.args.count * c.args.each ≤ length xs = omega arith in
    let all = counted_all (length xs) c.args.count (length xs) (le_refl (length xs)) in
    rw (and_from _ _ (le-leb _ _ few) (le-leb _ _ fits), all)
    (queues_none (replicate 16 r) c.args.count c.args.each xs
    (λ k l. ap (λ s. s.len) (get_or-replicate 16 k r no_ring (omega arith)) ∙ c.new.ensures.len))
