use Rattle.line.specs.Propers.{proper_line}
use Rattle.line.proofs.as_wire.LineWire.boards.Goals as goal

pub returns-clause-proper : goal.returns-clause-proper
returns-clause-proper c = proper_line c.args.self.now
