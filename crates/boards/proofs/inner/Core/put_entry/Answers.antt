use Rattle.std.proofs.Common.{◌≡◌, length, set, refl, ap, ◌∙◌, length-set}
use Rattle.theory.specs.Functions.{put}
use Rattle.theory.specs.Lists.{parts}
use Rattle.theory.proofs.Parts.{length-parts, length-put, parts-put}
use Rattle.boards.specs.Models.{registers_of, cells_of, entries_of, free_of, held_of}
use Rattle.boards.proofs.Boards.{entries_changed}
use Rattle.boards.proofs.Cores.{entries_end}
use Rattle.boards.proofs.Sizes.{same_sizes}
use Rattle.boards.proofs.inner.Core.put_entry.Goals as goal

pub returns : goal.returns
unfolding parts
returns g c =
    let p = c.args.self.now in
    let b = c.args.b in
    let xs = p.entries.now in
    let each = p.settings.entries in
    let end = entries_end g.W.Wire.means p b c.requires in
    let n : length c.store.new.part ≡ each = ap length c.store.ensures ∙ length-set _ c.args.entry c.args.v ∙ length-parts xs each b end in
    record {
      settings = refl {a = p.settings};
      memory = same_sizes _ _ _ _ _ _ _ _ refl (length-put xs c.store.new.part each b end n) refl refl;
      after = entries_changed p.settings (g.W.Wire.means p.wire) p.lead p.result b c.requires
          (registers_of p.registers) (cells_of p) (entries_of p) (free_of p) (held_of p)
          _ (λ l. set l c.args.entry c.args.v) (parts-put xs c.store.new.part each b end n ∙ ap (put (parts xs each) b) c.store.ensures);
    }
