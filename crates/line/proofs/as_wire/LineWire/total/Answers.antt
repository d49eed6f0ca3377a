use Rattle.std.proofs.Common.{sym, ◌∙◌}
use Rattle.line.specs.Kept.{kept}
use Rattle.line.specs.Propers.{total-picked}
use Rattle.line.proofs.as_wire.LineWire.total.Goals as goal

pub returns : goal.returns
returns c = let s = c.args.self.now in c.len.ensures ∙ sym (total-picked s.boards (kept s.letters) s.joined)
