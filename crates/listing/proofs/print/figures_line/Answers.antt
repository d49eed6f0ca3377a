use Rattle.text.proofs.Writes.{◌then◌}
use Rattle.listing.proofs.print.figures_line.Goals as goal

pub returns-clause-text : goal.returns-clause-text
returns-clause-text c = c.number.ensures then (c.byte.ensures then (c.number-2.ensures then (c.byte-2.ensures then (c.number-3.ensures then c.byte-3.ensures))))
