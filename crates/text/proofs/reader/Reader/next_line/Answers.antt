use Rattle.std.proofs.Common.{[], ◌≡◌, ◌++◌, eqb, sym, refl, ap, ◌∙◌, arith, rules, length, length-append}
use Rattle.std.proofs.lemmas.List.{nil_from_length}
use Rattle.std.proofs.lemmas.Fn.{always_returns_same}
use borrow.Author.Tests.{tests}
use Rattle.text.specs.Lines.{lines}
use Rattle.text.specs.Left.{left}
use Rattle.text.proofs.Cuts.{lines_nil, line_cut, cut_rest}
use Rattle.text.proofs.reader.Reader.next_line.Goals as goal

pub returns-in_err-text : goal.returns-in_err-text
returns-in_err-text c =
    let all = c.split_inclusive.ensures.rest in
    let none : left c.args.self.now ≡ [] = sym all ∙ nil_from_length _ c.in_err-text.ensures.steps.0 in
    rw c.from_residual.ensures (record { none = none; no_lines = ap lines none ∙ lines_nil; same = refl })

pub returns : goal.returns
returns c =
    let all = c.split_inclusive.ensures.rest in
    let x = c.in_ok-text.text.now in
    let ys = c.next.new.self.rest.now in
    let h = c.in_ok-text.ensures.steps in
    let parts : left c.args.self.now ≡ x ++ ys = sym all ∙ h.0 in
    let first = line_cut c.split_inclusive.result.rest.now x ys h.1.0 h.0 h.1.1 (h.1.2 (λ b. eqb b 10) (always_returns_same _ _ _ (λ a r g k. search (rules, tests)))).1 h.2 in
    let rest = cut_rest (left c.args.self.now) x ys parts in
    record {
      first = rw rest (ap lines (sym all) ∙ first);
      parts = rw rest parts;
      some = omega arith;
      less = rw rest (omega (arith, length-append x ys, ap length parts));
      number = refl;
      count = refl;
    }
