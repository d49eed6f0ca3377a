use Rattle.std.proofs.Common.{◌≡◌, ◌+◌, ◌-◌, take, refl, arith, rules}
use Rattle.text.proofs.Fitted.{length-put_in, take-put_in, drop-put_in}
use Rattle.text.proofs.writer.Writer.text.Goals as goal

pub returns : goal.returns
returns c =
    let w = c.args.self.now in
    let k = c.min-n.result in
    let n : w.len + k - w.len ≡ k = omega arith in
    let copied = c.copy_from_slice.ensures.after in
    let put : c.copy_from_slice.new.self ≡ take k c.args.bytes.now = search rules in
    record {
      lent = refl;
      wide = length-put_in w.place.now c.args.bytes.now c.copy_from_slice.new.self w.len k _ w.ok c.min-n.ensures n put;
      text = take-put_in w.place.now c.args.bytes.now c.copy_from_slice.new.self w.len k _ w.ok c.min-n.ensures n put;
      after = drop-put_in w.place.now c.args.bytes.now c.copy_from_slice.new.self w.len k _ w.ok c.min-n.ensures n put;
    }
