use Rattle.std.proofs.Common.{refl, ◌∙◌, arith}
use Rattle.queue.specs.QueuesOf.{queues, count_of, each_of}
use Rattle.boards.proofs.Numbered.{numbered_none, numbered_more}
use Rattle.boards.proofs.numbering.number_one.Goals as goal

pub loop-number-init : goal.loop-number-init
loop-number-init c = (numbered_none (queues c.args.free.now) c.args.b c.requires.empty, refl, refl, refl)

pub loop-number-preserved : goal.loop-number-preserved
loop-number-preserved c =
    let inv = c.loop-number.invariant in
    let q = c.loop-number.free in (
      c.push.ensures.after
          ∙ numbered_more (queues c.args.free.now) (queues q) (count_of q) (each_of q) c.args.b c.loop-number.number (omega (arith, inv.1, c.requires.queue)) (omega (arith, inv.2, c.requires.room)) inv.0,
      c.push.ensures.count ∙ inv.1,
      c.push.ensures.each ∙ inv.2,
      c.push.ensures.places ∙ inv.3,
    )
