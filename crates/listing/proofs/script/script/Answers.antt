use Rattle.std.proofs.Common.{◌≡◌, ◌+◌, Err, sym, ap, ◌∙◌, arith}
use Rattle.std.proofs.lemmas.Result.{err_from_is_err_and}
use Rattle.text.specs.Left.{left, given}
use Rattle.text.specs.Lines.{lines}
use Rattle.theory.specs.Lists.{tail}
use Rattle.pack.specs.Shown.{state, memory}
use Rattle.listing.specs.declared.fault.Refusal.TheVariants.{Names, Values, Pack}
use Rattle.listing.specs.Listing.{Out, begins, settings_in, from_line_1, from_line_3, call_lines}
use Rattle.listing.specs.Lines.{call_names}
use Rattle.listing.proofs.Steps.{stopped, on_line_err, on_line_ok, wrong_names, wrong_settings, refused_settings, settings_done, right_call_names, toward_start, toward_more, toward_then}
use Rattle.listing.proofs.script.script.Goals as goal

pub returns-in_err-expect_names-clause-text : goal.returns-in_err-expect_names-clause-text
returns-in_err-expect_names-clause-text g c =
    let w = g.W.Wire in
    let s = state w.means c.args.pack.now in
    let ls = lines (left c.args.reader.now) in
    let brought = memory c.args.pack.now in
    let h = c.in_err-expect_names.ensures in
    let e = wrong_names brought ls s h.0 in
    let r = err_from_is_err_and c.from_residual.result c.from_residual.ensures.1 in
    stopped (from_line_1 brought ls s) 1 Names s c.in_err-expect_names.field-0.0 c.from_residual.result (toward_start _ _) e h.1 (r.1 ∙ ap Err r.2)

pub returns-in_err-settings-clause-text : goal.returns-in_err-settings-clause-text
returns-in_err-settings-clause-text g c =
    let w = g.W.Wire in
    let s = state w.means c.args.pack.now in
    let ls = lines (left c.args.reader.now) in
    let brought = memory c.args.pack.now in
    let one = c.in_ok-expect_names.ensures in
    let h = c.in_err-settings.ensures in
    let e = wrong_settings brought ls s one.0 (ap settings_in (sym one.1) ∙ h.0) in
    let r = err_from_is_err_and c.from_residual-in_err-settings.result c.from_residual-in_err-settings.ensures.1 in
    stopped (from_line_1 brought ls s) 2 Values s c.in_err-settings.field-0.0 c.from_residual-in_err-settings.result (toward_start _ _) e h.1 (r.1 ∙ ap Err r.2)

pub returns-in_err-on_line-clause-text : goal.returns-in_err-on_line-clause-text
returns-in_err-on_line-clause-text g c =
    let w = g.W.Wire in
    let s = state w.means c.args.pack.now in
    let t = state w.means c.set_up.new.self in
    let ls = lines (left c.args.reader.now) in
    let brought = memory c.args.pack.now in
    let one = c.in_ok-expect_names.ensures in
    let two = c.in_ok-settings.ensures in
    let f = c.in_err-on_line.field-0.0 in
    let h = on_line_err 2 f c.set_up.result c.in_err-on_line.ensures in
    let e = refused_settings brought ls s one.0 c.in_ok-settings.settings t h.0 (ap settings_in (sym one.1) ∙ two.0)
    (ap (λ r. (t, r)) (sym h.1.0) ∙ c.set_up.ensures.does_its_step) in
    let r = err_from_is_err_and c.from_residual-in_err-on_line.result c.from_residual-in_err-on_line.ensures.1 in
    stopped (from_line_1 brought ls s) 2 (Pack h.0) t f c.from_residual-in_err-on_line.result (toward_start _ _) e h.1.1 (r.1 ∙ ap Err r.2)

pub returns-clause-text : goal.returns-clause-text
returns-clause-text g c =
    let w = g.W.Wire in
    let s = state w.means c.args.pack.now in
    let t = state w.means c.set_up.new.self in
    let ls = lines (left c.args.reader.now) in
    let brought = memory c.args.pack.now in
    let one = c.in_ok-expect_names.ensures in
    let two = c.in_ok-settings.ensures in
    let three = c.in_ok-expect_names-2.ensures in
    let ok = on_line_ok 2 c.in_ok-on_line.field-0 c.set_up.result c.in_ok-on_line.ensures in
    let e = settings_done brought ls s one.0 c.in_ok-settings.settings t c.in_ok-on_line.field-0 (ap settings_in (sym one.1) ∙ two.0)
    (ap (λ r. (t, r)) (sym ok) ∙ c.set_up.ensures.does_its_step) in
    let past = two.1 ∙ ap tail one.1 in
    let k = right_call_names (tail (tail ls)) t (ap (begins call_names) (sym past) ∙ three.0) in
    let last = c.expect_names-2.new.reader in
    let four : given last + 1 ≡ 4 = omega (arith, c.requires, one.2, two.2, three.2) in
    let same : from_line_3 (tail (tail ls)) t ≡ call_lines (given last + 1) (lines (left last)) t =
    k ∙ ap (λ z. call_lines 4 z t) (sym (three.1 ∙ ap tail past)) ∙ ap (λ n. call_lines n (lines (left last)) t) (sym four) in
    toward_then (toward_more (toward_start c.args.writer.now (from_line_1 brought ls s).0) (ap (λ (o : Out). o.0) e) c.answer_line.ensures)
    (ap (λ (o : Out). o.0) same) c.calls.ensures.text
