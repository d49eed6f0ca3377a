use Rattle.std.proofs.Common.{◌<◌, length, rules}
use Rattle.chains.specs.Linkages.{chain_of}
use Rattle.chains.specs.Tables.{linkage}
use Rattle.chains.proofs.Attaches.{linked_with_message, linked_begun, attached_begun, linked_extended, attached_extended, last_within, last_within_filled}
use Rattle.chains.proofs.table.Table.attach.Goals as goal

pub invariant_of-self : goal.invariant_of-self
invariant_of-self c =
    let t = c.args.self.now in
    record { linked = linked_begun (linkage t) c.args.i c.args.place c.args.message t.linked c.requires.chain c.requires.loose c.if-chain-eq0.true }

pub returns-then-chain-eq0 : goal.returns-then-chain-eq0
returns-then-chain-eq0 c =
    let t = c.args.self.now in
    attached_begun (linkage t) c.args.i c.args.place c.args.message t.linked c.requires.chain c.requires.loose c.if-chain-eq0.true

pub invariant_of-self-else-chain-eq0 : goal.invariant_of-self-else-chain-eq0
invariant_of-self-else-chain-eq0 c =
    let t = c.args.self.now in
    record { linked = linked_with_message (linkage t) c.args.i c.args.place c.args.message t.linked c.requires.chain c.requires.loose }

pub offset_bounds-self-chain : goal.offset_bounds-self-chain
offset_bounds-self-chain c =
    let t = c.args.self.now in
    let h : (chain_of (linkage t) c.args.i).last < length t.links.now = last_within (linkage t) c.args.i t.linked c.if-chain-eq0.false in
    search rules

pub bounds-self-chain : goal.bounds-self-chain
bounds-self-chain c =
    let t = c.args.self.now in
    last_within_filled (linkage t) c.args.i c.args.place c.args.message t.linked c.if-chain-eq0.false

pub invariant_of-self-2 : goal.invariant_of-self-2
invariant_of-self-2 c =
    let t = c.args.self.now in
    record { linked = linked_extended (linkage t) c.args.i c.args.place c.args.message t.linked c.requires.chain c.requires.loose c.if-chain-eq0.false }

pub returns : goal.returns
returns c =
    let t = c.args.self.now in
    attached_extended (linkage t) c.args.i c.args.place c.args.message t.linked c.requires.chain c.requires.loose c.if-chain-eq0.false
