use Rattle.text.proofs.Numerals.{Read}
use Rattle.text.proofs.fields.parse.Given as goal

abbrev pub invariant-loop-b : goal.invariant-loop-b
invariant-loop-b l = Read l.digits l.b-index l.n
