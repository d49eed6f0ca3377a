use Rattle.std.proofs.Common.{◌≡◌, ◌+◌, ◌++◌, Err, sym, refl, ap, ◌∙◌}
use Rattle.text.specs.Left.{left, given}
use Rattle.text.specs.Lines.{lines}
use Rattle.pack.specs.Shown.{state}
use Rattle.listing.specs.declared.fault.LineFault.{LineFault}
use Rattle.listing.specs.declared.fault.Refusal.TheVariants.{Values}
use Rattle.listing.specs.Listing.{Out, call_lines}
use Rattle.listing.specs.Printed.{answer_line}
use Rattle.listing.proofs.Steps.{calls_none, calls_stop, calls_more, toward_start, toward_more, toward_alike}
use Rattle.listing.proofs.script.calls.Goals as goal

pub loop-line-init : goal.loop-line-init
loop-line-init g c = (toward_start _ _, refl)

pub returns-in_default-of : goal.returns-in_default-of
returns-in_default-of g c =
    let w = g.W.Wire in
    let inv = c.loop-line.invariant in
    let h = c.in-Some.ensures in
    let r = c.loop-line.reader in
    let e = calls_stop (given r + 1) (lines (left r)) (lines (left c.next_line.new.self)) c.in-Some.line.text.now
    (state w.means c.loop-line.pack) h.first (sym c.in_default-of.is ∙ c.of.ensures) in
    record {
      text = toward_alike inv.0
          (ap (λ (o : Out). o.0) e ∙ ap (λ n. answer_line n (Err Values)) (sym h.number) ∙ ap (λ (f : LineFault). answer_line f.line (Err f.refusal)) (sym c.at.ensures));
      pack = sym (ap (λ (o : Out). o.1) e) ∙ inv.1;
    }

pub loop-line-preserved : goal.loop-line-preserved
loop-line-preserved g c =
    let w = g.W.Wire in
    let inv = c.loop-line.invariant in
    let h = c.in-Some.ensures in
    let r = c.loop-line.reader in
    let rest = lines (left c.next_line.new.self) in
    let a = c.perform-answer.result in
    let t = state w.means c.perform-answer.new.pack in
    let e = calls_more (given r + 1) (lines (left r)) rest c.in-Some.line.text.now c.in-Some-of.row
    (state w.means c.loop-line.pack) t a h.first (sym c.in-Some-of.is ∙ c.of.ensures) c.perform-answer.ensures in
    let next : call_lines (given c.next_line.new.self + 1) rest t ≡ call_lines (given r + 1 + 1) rest t = ap (λ n. call_lines (n + 1) rest t) h.count in (
      toward_more inv.0
          (ap (λ (o : Out). o.0) e ∙ ap (λ n. answer_line n a ++ (call_lines (given r + 1 + 1) rest t).0) (sym h.number)
          ∙ ap (λ (o : Out). answer_line c.in-Some.line.number a ++ o.0) (sym next))
          c.answer_line.ensures,
      ap (λ (o : Out). o.1) next ∙ sym (ap (λ (o : Out). o.1) e) ∙ inv.1,
    )

pub returns : goal.returns
returns g c =
    let w = g.W.Wire in
    let inv = c.loop-line.invariant in
    let r = c.loop-line.reader in
    let e = calls_none (given r + 1) (lines (left r)) (state w.means c.loop-line.pack) c.in_default.ensures.no_lines in
    record {
      text = toward_alike inv.0 (ap (λ (o : Out). o.0) e);
      pack = sym (ap (λ (o : Out). o.1) e) ∙ inv.1;
    }
