use Rattle.std.proofs.Common.{◌≡◌, length, refl, ap, ◌∙◌}
use Rattle.theory.specs.declared.memory.Cell.TheVariants.{Value}
use Rattle.theory.specs.Functions.{put}
use Rattle.theory.specs.Lists.{parts, wiped}
use Rattle.theory.proofs.Parts.{length-parts, length-put, parts-put}
use Rattle.boards.specs.Models.{registers_of, cells_of, entries_of, free_of, held_of}
use Rattle.boards.proofs.Boards.{cells_changed}
use Rattle.boards.proofs.Cores.{cells_end}
use Rattle.boards.proofs.Sizes.{same_sizes}
use Rattle.boards.proofs.inner.Core.wipe.Goals as goal

pub returns : goal.returns
unfolding parts
returns g c =
    let p = c.args.self.now in
    let b = c.args.b in
    let xs = p.cells.now in
    let each = p.settings.cells in
    let end = cells_end g.W.Wire.means p b c.requires.board in
    let n : length c.wipe.new.part ≡ each = c.wipe.auto.part ∙ length-parts xs each b end in
    record {
      settings = refl {a = p.settings};
      memory = same_sizes _ _ _ _ _ _ _ _ (length-put xs c.wipe.new.part each b end n) refl refl refl;
      after = cells_changed p.settings (g.W.Wire.means p.wire) p.lead p.result b c.requires.board
          (registers_of p.registers) (cells_of p) (entries_of p) (free_of p) (held_of p)
          _ (λ l. wiped l c.args.from c.args.count (Value 0)) (parts-put xs c.wipe.new.part each b end n ∙ ap (put (parts xs each) b) c.wipe.ensures);
    }
