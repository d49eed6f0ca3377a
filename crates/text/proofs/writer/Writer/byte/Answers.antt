use Rattle.std.proofs.Common.{◌≡◌, ◌+◌, length, take, set, refl, arith, length-set}
use Rattle.std.proofs.lemmas.List.{drop-set-lt, length-take-le}
use Rattle.text.proofs.Fitted.{put_fits, put_full}
use Rattle.text.proofs.writer.Writer.byte.Goals as goal

pub returns-then-self : goal.returns-then-self
returns-then-self c =
    let w = c.args.self.now in
    let xs = w.place.now in
    let ys = set xs w.len c.args.b in
    let l : length (take (w.len + 1) ys) ≡ w.len + 1 = length-take-le (w.len + 1) ys (simp length-set (omega arith)) in
    record {
      lent = refl;
      wide = length-set xs w.len c.args.b;
      text = put_fits xs w.len c.args.b (omega arith);
      after = drop-set-lt _ xs w.len c.args.b (omega arith);
    }

pub returns-else-self : goal.returns-else-self
returns-else-self c =
    let w = c.args.self.now in
    record { lent = refl; wide = refl; text = put_full w.place.now w.len c.args.b w.ok (omega arith); after = refl }
