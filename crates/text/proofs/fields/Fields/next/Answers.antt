use Rattle.std.proofs.Common.{take, drop, Some, sym, refl, ap, ◌∙◌}
use Rattle.text.proofs.Ended.{field_cut, field_uncut}
use Rattle.text.proofs.fields.Fields.next.Goals as goal

pub returns-in_err-rest-clause-cases : goal.returns-in_err-rest-clause-cases
returns-in_err-rest-clause-cases c =
    let f = c.field_len.ensures in
    let h = c.in_err-rest.ensures.cases in
    rw c.from_residual.ensures (field_uncut c.args.end c.args.self.now.tail.now c.field_len.result f.within f.inside (rw c.split_at.ensures.back at h) f.ended, refl)

pub returns-clause-cases : goal.returns-clause-cases
returns-clause-cases c =
    let f = c.field_len.ensures in
    let s = c.split_at.ensures in
    let h = c.in_ok-rest.ensures.cases in
    let e = field_cut c.args.end c.args.self.now.tail.now c.field_len.result f.within f.inside (rw s.back at h.0) f.ended in
    (e ∙ ap (λ r. Some (take c.field_len.result c.args.self.now.tail.now, r)) (sym (h.1 ∙ ap (drop 1) s.back)) ∙ ap (λ t. Some (t, c.in_ok-rest.rest.now)) (sym s.front), refl)
