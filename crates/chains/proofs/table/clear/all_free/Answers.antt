use Rattle.std.proofs.Common.{length, replicate, sym, refl, ap, arith}
use Rattle.chains.proofs.Clears.{is_no_chain, linked, cleared}
use Rattle.chains.proofs.table.clear.all_free.Goals as goal

pub returns-clause-linked : goal.returns-clause-linked
returns-clause-linked c =
    linked _ (replicate 257 c.default-chains.result) c.saturating_sub.result (length c.args.links.now) (ap (replicate 257) (is_no_chain c.default-chains.result c.default-chains.ensures))
    (sym c.link_in_order.ensures.places) c.saturating_sub.ensures (λ k l. c.link_in_order.ensures.in_order k (omega arith)) refl

pub returns-clause-cleared : goal.returns-clause-cleared
returns-clause-cleared c =
    cleared _ (replicate 257 c.default-chains.result) c.saturating_sub.result (length c.args.links.now) (ap (replicate 257) (is_no_chain c.default-chains.result c.default-chains.ensures))
    (sym c.link_in_order.ensures.places) c.saturating_sub.ensures (λ k l. c.link_in_order.ensures.in_order k (omega arith)) refl
