use Rattle.std.proofs.Common.{sym, ap, ◌∙◌}
use Rattle.text.proofs.Equal.{pointwise-same}
use Rattle.theory.specs.Lists.{tail}
use Rattle.listing.specs.Listing.{begins}
use Rattle.listing.proofs.expect.expect_names.Goals as goal

pub returns-in-Some : goal.returns-in-Some
returns-in-Some c =
    let gives = c.in-Some.ensures in
    let same = sym (pointwise-same c.in-Some.line.text.now c.args.names.now) ∙ sym c.eq.ensures ∙ c.if-eq.true in
    (ap (begins c.args.names.now) gives.first ∙ same, sym (ap tail gives.first), gives.count)

pub returns-in_default : goal.returns-in_default
returns-in_default c =
    let same = sym (pointwise-same c.in-Some.line.text.now c.args.names.now) ∙ sym c.eq.ensures ∙ c.if-eq.false in
    (ap (begins c.args.names.now) c.in-Some.ensures.first ∙ same, c.at-fault.ensures)
