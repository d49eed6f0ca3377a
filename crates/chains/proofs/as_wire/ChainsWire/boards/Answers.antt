use Rattle.chains.specs.Propers.{proper_chains}
use Rattle.chains.proofs.as_wire.ChainsWire.boards.Goals as goal

pub returns-clause-proper : goal.returns-clause-proper
returns-clause-proper c = proper_chains c.args.self.now
