-- What checking settings gives: them, or the fault that the rules find in them.
use Rattle.std.specs.Prelude.{◌≡◌, Ok, Err, Result, MatchResult}
use Rattle.theory.specs.declared.fault.PackFault.{PackFault}
use Rattle.theory.specs.declared.state.Settings.{Settings}
use Rattle.theory.specs.SetUp.{ranges}
use Rattle.boards.specs.declared.ranged.RangedSettings.{RangedSettings}

abbrev pub Checks : Settings → Result RangedSettings PackFault → Type 0
Checks t result = MatchResult result (λ r. (ranges t ≡ Ok tt) × (r.settings ≡ t)) (λ e. ranges t ≡ Err e)
