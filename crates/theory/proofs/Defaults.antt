-- What the defaults of the shared values are, field by field.
use Rattle.std.proofs.Common.{◌≡◌, false, None, rules}
use Rattle.theory.specs.declared.state.Figures.{Figures}
use Rattle.theory.specs.declared.state.Lead.{Lead}
use Rattle.theory.specs.declared.state.Settings.{Settings}
use Rattle.theory.specs.SetUp.{no_settings}
use Rattle.theory.specs.State.{no_figures, no_lead}

pub figures_are_none : (f : Figures) → (f.kept ≡ 0) × ((f.messages ≡ 0) × (f.freed ≡ 0)) → f ≡ no_figures
figures_are_none f h = search rules

pub lead_is_none : (l : Lead) → (l.closing ≡ None) × (l.wish ≡ false) → l ≡ no_lead
lead_is_none l h = search rules

pub settings_are_none : (t : Settings) → (t.boards ≡ 0) × ((t.cells ≡ 0) × ((t.entries ≡ 0) × (t.credit ≡ 0))) → t ≡ no_settings
settings_are_none t h = search rules
