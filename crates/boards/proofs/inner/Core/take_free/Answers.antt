use Rattle.std.proofs.Common.{refl}
use Rattle.queue.specs.QueuesOf.{queues}
use Rattle.theory.specs.Lists.{tail}
use Rattle.boards.specs.Models.{registers_of, cells_of, entries_of, free_of, held_of}
use Rattle.boards.proofs.Boards.{free_changed}
use Rattle.boards.proofs.Sizes.{same_sizes}
use Rattle.boards.proofs.inner.Core.take_free.Goals as goal

pub returns : goal.returns
returns g c =
    let p = c.args.self.now in
    record {
      settings = refl {a = p.settings};
      memory = same_sizes _ _ _ _ _ _ _ _ refl refl c.pop.ensures.places refl;
      after = free_changed p.settings (g.W.Wire.means p.wire) p.lead p.result c.args.b c.requires
          (registers_of p.registers) (cells_of p) (entries_of p) (free_of p) (held_of p)
          (queues c.pop.new.self) tail c.pop.ensures.after;
    }
