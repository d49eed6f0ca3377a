use Rattle.std.proofs.Common.{◌≡◌, true, cond, [], length, ap, ◌∙◌, rules, subst, ◌*◌}
use Rattle.std.proofs.Math.Nat.{min-eq_left}
use Rattle.std.proofs.lemmas.Bool.{and_from, le-leb}
use Rattle.queue.specs.Layouts.{layout_fits}
use Rattle.queue.specs.QueuesOf.{queues, places_len}
use Rattle.theory.proofs.Defaults.{figures_are_none, lead_is_none}
use Rattle.boards.specs.Models.{model, Bare}
use Rattle.boards.proofs.Started.{own_credit, shown-fresh, seen-started}
use Rattle.boards.proofs.inner.Core.start.Goals as goal

pub returns-clause-after : goal.returns-clause-after
returns-clause-after g c =
    let p = c.args.self.now in
    let t = c.args.ranged.settings in
    let range = c.args.ranged.in_range in
    let fits : layout_fits t.boards t.boards (places_len p.held) ≡ true = and_from _ _ (le-leb _ _ range.ranged.0) (le-leb _ _ c.requires.held) in
    seen-started t _ _ _ _ _ _ _ (lead_is_none c.default-self.result c.default-self.ensures) (figures_are_none c.default-self-2.result c.default-self-2.ensures) (model g.W.Wire.means p)
    (shown-fresh t c.fresh_registers-self.result c.fill.new.self c.fill-2.new.self (queues c.number_all.new.free) (queues c.lay_out.new.self)
    (length p.cells.now) (length p.entries.now) range.ranged.0 c.requires.cells c.requires.entries (λ b l. subst (λ k. Bare k (t.credit * t.boards) c.fresh_registers-self.result b) (min-eq_left (own_credit t.credit t.boards range.one)) (c.fresh_registers-self.ensures.each b l))
    (c.fill.ensures.after (search rules)) (c.fill-2.ensures.after (search rules)) c.number_all.ensures.after (c.lay_out.ensures.after ∙ ap (λ z. cond z (λ _. []) (queues p.held)) fits))
