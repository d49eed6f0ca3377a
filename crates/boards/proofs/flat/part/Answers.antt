use Rattle.std.proofs.Common.{refl}
use Rattle.theory.specs.Lists.{parts}
use Rattle.boards.proofs.flat.part.Goals as goal

pub returns : goal.returns
unfolding parts
returns g c = refl
