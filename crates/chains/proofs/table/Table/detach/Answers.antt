use Rattle.std.proofs.Common.{◌<◌, length, rules}
use Rattle.chains.specs.Linkages.{chain_of}
use Rattle.chains.specs.Tables.{linkage}
use Rattle.chains.proofs.Detaches.{first_within, linked_shortened, detached_shortened}
use Rattle.chains.proofs.table.Table.detach.Goals as goal

pub offset_bounds-self-place : goal.offset_bounds-self-place
offset_bounds-self-place c =
    let t = c.args.self.now in
    let h : (chain_of (linkage t) c.args.i).first < length t.links.now = first_within (linkage t) c.args.i t.linked c.requires.some in
    search rules

pub bounds-self-place : goal.bounds-self-place
bounds-self-place c = let t = c.args.self.now in first_within (linkage t) c.args.i t.linked c.requires.some

pub invariant_of-self : goal.invariant_of-self
invariant_of-self c =
    let t = c.args.self.now in
    record { linked = linked_shortened (linkage t) c.args.i t.linked c.requires.chain c.requires.some }

pub returns : goal.returns
returns c = let t = c.args.self.now in detached_shortened (linkage t) c.args.i t.linked c.requires.chain c.requires.some
