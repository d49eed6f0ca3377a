use Rattle.std.proofs.Common.{get_or, sym, ap, ◌∙◌, arith}
use Rattle.std.proofs.lemmas.List.{get_or_default}
use Rattle.boards.specs.Models.{look, no_registers, cells_of, entries_of, free_of, held_of}
use Rattle.boards.proofs.Cores.{board_is}
use Rattle.boards.proofs.inner.Core.board.Goals as goal

pub returns : goal.returns
returns g c =
    let p = c.args.self.now in
    let b = c.args.b in
    let l = c.if-b-self.false in
    let r = get_or p.registers b c.index-self-b.result in (
      l,
      ap (λ z. look r z c.part-2.result.now (free_of p b) (held_of p b)) c.part.ensures
          ∙ ap (λ z. look r (cells_of p b) z (free_of p b) (held_of p b)) c.part-2.ensures
          ∙ ap (λ z. look z (cells_of p b) (entries_of p b) (free_of p b) (held_of p b)) (get_or_default p.registers b c.index-self-b.result no_registers (omega (arith, p.sized.0, p.ranged.0)))
          ∙ sym (board_is g.W.Wire.means p b l),
    )
