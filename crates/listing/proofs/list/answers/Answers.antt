use Rattle.std.proofs.Common.{sym}
use Rattle.std.proofs.lemmas.List.{append-nil}
use Rattle.listing.proofs.Steps.{toward_more, toward_end}
use Rattle.listing.proofs.list.answers.Goals as goal

pub returns-in-Err-clause-text : goal.returns-in-Err-clause-text
returns-in-Err-clause-text g c = toward_end (toward_more c.in-Err.ensures.text (sym (append-nil _)) c.answer_line.ensures)
