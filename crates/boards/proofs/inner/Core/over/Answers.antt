use Rattle.theory.proofs.Defaults.{figures_are_none, lead_is_none, settings_are_none}
use Rattle.boards.proofs.Started.{seen-blank}
use Rattle.boards.proofs.inner.Core.over.Goals as goal

pub returns-clause-state : goal.returns-clause-state
returns-clause-state g c =
    seen-blank _ _ _ _ _ _ _ _ (lead_is_none c.default-2.result c.default-2.ensures) (figures_are_none c.default-3.result c.default-3.ensures) (g.W.Wire.means c.args.wire) (settings_are_none c.default.result c.default.ensures)
