use Rattle.std.proofs.Common.{◌≡◌, fold, ◌∙◌, rules}
use Rattle.tally.proofs.Orders.{folded_perm}
use Rattle.tally.proofs.total.Goals as goal

pub returns-clause-order : goal.returns-clause-order
returns-clause-order g c = λ others p.
    let t = g.T.Tally in
    let e : c.fold.result ≡ fold t.joined t.START c.args.words.now = search rules in
    e ∙ folded_perm t.joined g.met.T.Tally.assoc g.met.T.Tally.comm t.START p
