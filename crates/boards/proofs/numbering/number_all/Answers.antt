use Rattle.std.proofs.Common.{◌≡◌, true, cond, [], sym, refl, ap, ◌∙◌, arith}
use Rattle.std.proofs.lemmas.Bool.{and_from, le-leb}
use Rattle.queue.specs.Layouts.{layout_fits}
use Rattle.queue.specs.QueuesOf.{queues, count_of, each_of, places_len}
use Rattle.theory.specs.Functions.{put}
use Rattle.theory.specs.Lists.{below}
use Rattle.theory.proofs.Functions.{masked_none, masked_out}
use Rattle.boards.proofs.Numbered.{queues_more}
use Rattle.boards.proofs.numbering.number_all.Goals as goal

pub loop-b-init : goal.loop-b-init
loop-b-init c =
    let q = c.args.free.now in
    let fits : layout_fits c.args.count c.args.each (places_len q) ≡ true = and_from _ _ (le-leb _ _ c.requires.few) (le-leb _ _ c.requires.room) in (
      c.lay_out.ensures.after ∙ ap (λ t. cond t (λ _. []) (queues q)) fits ∙ sym (masked_none [] (λ _. below c.args.each)),
      c.lay_out.ensures.count ∙ ap (λ t. cond t c.args.count (count_of q)) fits,
      c.lay_out.ensures.each ∙ ap (λ t. cond t c.args.each (each_of q)) fits,
      refl,
    )

pub number_one-requires-clause-empty : goal.number_one-requires-clause-empty
number_one-requires-clause-empty c =
    let b = c.loop-b.b in
    ap (λ f. f b) c.loop-b.invariant.0 ∙ masked_out b [] (λ _. below c.args.each) b (omega arith)

pub loop-b-preserved : goal.loop-b-preserved
loop-b-preserved c =
    let inv = c.loop-b.invariant in
    let b = c.loop-b.b in (
      c.number_one.ensures.after ∙ ap (λ f. put f b (below c.args.each)) inv.0 ∙ queues_more (below c.args.each) b,
      c.number_one.ensures.count ∙ inv.1,
      c.number_one.ensures.each ∙ inv.2,
      c.number_one.ensures.places ∙ inv.3,
    )
