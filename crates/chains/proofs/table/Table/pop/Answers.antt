use Rattle.std.proofs.Common.{◌≢◌, refl, arith}
use Rattle.chains.specs.Tables.{linkage}
use Rattle.chains.proofs.Pushes.{popped, len_same, room_detached}
use Rattle.chains.proofs.table.Table.pop.Goals as goal

pub attach-requires-clause-room : goal.attach-requires-clause-room
attach-requires-clause-room c =
    let s = linkage c.args.self.now in
    let u = linkage c.detach-place.new.self in
    let d = c.detach-place.ensures in
    let ne : 256 ≢ c.args.chain = omega arith in
    omega (arith, c.requires.room, len_same s u 256 (d.others 256 ne), room_detached s u c.args.chain c.detach-place.result d)

pub returns : goal.returns
returns c =
    let ne : c.args.chain ≢ 256 = omega arith in
    popped (linkage c.args.self.now) (linkage c.detach-place.new.self) (linkage c.attach.new.self) c.args.chain c.detach-place.result _ ne
    c.detach-place.ensures refl c.attach.ensures
