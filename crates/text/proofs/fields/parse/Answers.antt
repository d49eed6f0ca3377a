use Rattle.std.proofs.Common.{◌^◌, ◌<◌, length, sym, ◌∙◌, arith}
use Rattle.std.proofs.lemmas.Bool.Decides.{nat_tests}
use Rattle.text.proofs.Numerals.{read_none, read_more, read_small, numeral_empty, numeral_long, numeral_other, numeral_read}
use Rattle.text.proofs.fields.parse.Goals as goal
use Rattle.text.proofs.fields.parse.Goals.{then-is_empty-via-then-is_empty, then-is_empty-via-else-is_empty+then-digits-gt-MOST_DIGITS}

pub returns-then-is_empty : goal.returns-then-is_empty
returns-then-is_empty c =
    let xs = c.args.digits.now in
    sym (elim c.then-is_empty.branch [
      | then-is_empty-via-then-is_empty w ↦ numeral_empty xs (let e = c.is_empty.ensures in let t = w.if-is_empty.true in grind (arith, nat_tests))
      | then-is_empty-via-else-is_empty+then-digits-gt-MOST_DIGITS w ↦ numeral_long xs w.if-digits-gt-MOST_DIGITS.true
    ])

pub loop-b-init : goal.loop-b-init
loop-b-init c = read_none c.args.digits.now

pub returns-then-not-is_ascii_digit : goal.returns-then-not-is_ascii_digit
returns-then-not-is_ascii_digit c =
    sym (numeral_other c.args.digits.now c.loop-b.b-index c.loop-b-test.true (sym c.is_ascii_digit.ensures.value ∙ c.if-not-is_ascii_digit.true))

pub overflow_mul-n : goal.overflow_mul-n
overflow_mul-n c =
    let small : c.loop-b.n < 10 ^ 10 = read_small c.args.digits.now c.loop-b.b-index c.loop-b.n c.if-digits-gt-MOST_DIGITS.false c.loop-b.invariant in
    omega arith

pub overflow_add-n : goal.overflow_add-n
overflow_add-n c =
    let small : c.loop-b.n < 10 ^ 10 = read_small c.args.digits.now c.loop-b.b-index c.loop-b.n c.if-digits-gt-MOST_DIGITS.false c.loop-b.invariant in
    omega arith

pub loop-b-preserved : goal.loop-b-preserved
loop-b-preserved c =
    rw c.from.ensures (read_more c.args.digits.now c.loop-b.b-index c.loop-b.n c.loop-b-test.true (sym c.is_ascii_digit.ensures.value ∙ c.if-not-is_ascii_digit.false) c.loop-b.invariant)

pub returns : goal.returns
returns c =
    let xs = c.args.digits.now in
    let some : 0 < length xs = let e = c.is_empty.ensures in let t = c.if-is_empty.false in grind (arith, nat_tests) in
    c.ok.ensures.value ∙ numeral_read xs c.loop-b.b-index c.loop-b.n c.try_from.result c.loop-b-test.false c.loop-b.invariant some c.if-digits-gt-MOST_DIGITS.false c.try_from.ensures
