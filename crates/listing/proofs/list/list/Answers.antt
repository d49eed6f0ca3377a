use Rattle.std.proofs.Common.{◌≡◌, ◌≤◌, length, take, sym, ap, ◌∙◌, subst, arith}
use Rattle.std.proofs.lemmas.List.{take_all, length-take-le}
use Rattle.std.proofs.lemmas.Bool.Decides.{nat_tests}
use Rattle.theory.specs.State.{State}
use Rattle.pack.specs.Shown.{state, memory}
use Rattle.listing.specs.Listing.{listing}
use Rattle.listing.specs.Printed.{Words}
use Rattle.listing.proofs.Fits.{listing_fits}
use Rattle.listing.proofs.list.list.Goals as goal

pub returns : goal.returns
returns g c =
    let w = g.W.Wire in
    let s = state w.means c.args.pack.now in
    let text = listing (memory c.args.pack.now) c.args.input.now s in
    let f = c.fill.ensures in
    let words = subst (λ (z : State). Words z.result) f.pack f.words in
    let fits : length text ≤ 65536 = listing_fits (memory c.args.pack.now) c.args.input.now s (omega arith) words in
    let front : take c.fill.result c.fill.new.place ≡ text = f.front ∙ take_all (length c.args.place.now) text (omega arith) in (
      grind (arith, nat_tests),
      record { within = f.within; count = sym (length-take-le c.fill.result c.fill.new.place f.within) ∙ ap length front; front = front; behind = f.behind },
      f.pack,
    )
