use Rattle.std.proofs.Common.{sym, ap, ◌∙◌}
use Rattle.theory.specs.Lists.{head}
use Rattle.queue.proofs.Rings.{items_popped}
use Rattle.queue.proofs.queue.Queue.pop.Goals as goal

pub returns-clause-answer : goal.returns-clause-answer
returns-clause-answer g c =
    let f = c.fitted-rest in
    let e = items_popped c.args.self.now.places.now f.result f.ensures.room c.pop.new.self c.in_ok-at.at c.index-self-at.result c.in_ok-at.ensures in
    sym (ap head (f.ensures.items ∙ e))
