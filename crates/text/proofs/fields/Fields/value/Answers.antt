use Rattle.std.proofs.Common.{sym, refl, ◌∙◌}
use Rattle.text.proofs.Valued.{value_no_field, value_no_number, value_is}
use Rattle.text.proofs.fields.Fields.value.Goals as goal

pub returns-in_err-next-clause-cases : goal.returns-in_err-next-clause-cases
returns-in_err-next-clause-cases c =
    rw c.from_residual.ensures (value_no_field c.args.end c.args.self.now.tail.now c.in_err-next.ensures.cases.0, refl)

pub returns-in_err-number-clause-cases : goal.returns-in_err-number-clause-cases
returns-in_err-number-clause-cases c =
    let e = c.in_ok-next.ensures.cases in
    rw c.from_residual-in_err-number.ensures (value_no_number c.args.end c.args.self.now.tail.now _ _ e.0 (sym c.number.ensures ∙ c.in_err-number.was), refl)

pub returns-clause-cases : goal.returns-clause-cases
returns-clause-cases c =
    let e = c.in_ok-next.ensures.cases in
    value_is c.args.end c.args.self.now.tail.now _ _ c.in_ok-number.number e.0 (sym c.number.ensures ∙ c.in_ok-number.was)
