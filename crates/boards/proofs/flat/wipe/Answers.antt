use Rattle.std.proofs.Common.{ap, sym, ◌∙◌, replicate, arith, rules, length-take, length-drop}
use Rattle.std.proofs.lemmas.Slice.{put_mid-paste}
use Rattle.std.proofs.lemmas.List.{length-replicate}
use Rattle.theory.specs.Lists.{wiped}
use Rattle.boards.proofs.flat.wipe.Goals as goal

pub returns : goal.returns
unfolding wiped
returns c =
    let a = c.args in
    put_mid-paste a.from _ a.part.now c.fill.new.self (replicate a.count a.x) a.count
    (c.fill.ensures.after (search rules) ∙ ap (λ n. replicate n a.x) (simp (length-take, length-drop) (omega arith))) (omega arith) (sym (length-replicate a.count a.x))
