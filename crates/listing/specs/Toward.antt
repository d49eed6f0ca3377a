-- A text that is partly written.
use Rattle.std.specs.Prelude.{◌≡◌, ℕ, List, [], ◌++◌, Ok, Err, Result}
use Rattle.text.specs.declared.writer.Writer.{Writer}
use Rattle.text.specs.Written.{Wrote}
use Rattle.listing.specs.declared.fault.LineFault.{LineFault}
use Rattle.listing.specs.Printed.{answer_line}

-- from v to w all of a text was written but for this rest
pub record Toward (v w : Writer) (rest whole : List ℕ) : Type 0 where
  pub done : List ℕ
  pub wrote : Wrote v w done
  pub parts : whole ≡ done ++ rest

-- what is left to print after reading stopped
abbrev pub ending : {U : Type 0} → Result U LineFault → List ℕ
ending (Ok _) = []
ending (Err e) = answer_line e.line (Err e.refusal)
