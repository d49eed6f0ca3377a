use Rattle.text.proofs.Writes.{◌then◌}
use Rattle.listing.proofs.print.answer_line.Goals as goal

pub returns : goal.returns
returns c = rw c.number_of.ensures at (c.number.ensures then (c.byte.ensures then (c.number-2.ensures then c.byte-2.ensures)))
