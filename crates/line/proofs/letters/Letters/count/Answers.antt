use Rattle.std.proofs.Common.{◌≡◌, ℕ, ◌+◌, ◌%◌, ◌^◌, ◌<◌, Bool, cond, List, [], ◌∷◌, length, fold, rules, sym, ap, ◌∙◌, ⊎_elim, arith}
use Rattle.std.proofs.lemmas.List.{length-map}
use Rattle.std.proofs.lemmas.Bool.{cases_Bool}
use Rattle.std.proofs.lemmas.Iterator.{YieldsList-from_slice}
use Rattle.std.proofs.lemmas.Iterator.Consumers.{fold_from_yields_List}
use borrow.Author.Tests.{tests}
use Rattle.std.specs.List.{filter}
use Rattle.line.specs.declared.letters.Letter.{Letter}
use Rattle.line.specs.Kept.{kept}
use Rattle.line.specs.Letters.{for_pair}
use Rattle.line.proofs.letters.Letters.count.Goals as goal

-- one letter more
abbrev next : (Letter → Bool) → ℕ → Letter → ℕ
next test n l = cond (test l) ((n + 1) % 2 ^ 64) n

-- what the fold adds up, where no sum is too large for a number
counted : (test : Letter → Bool) (ls : List Letter) (n : ℕ) → n + length ls < 2 ^ 64 → fold (next test) n ls ≡ n + length (filter test ls)
counted test [] n h = omega arith
counted test (l ∷ ls) n h =
    ⊎_elim
    (λ e.
    let one : next test n l ≡ n + 1 = ap (λ b. cond b ((n + 1) % 2 ^ 64) n) e ∙ omega arith in
    ap (λ k. fold (next test) k ls) one ∙ counted test ls (n + 1) (omega arith) ∙ omega (arith, ap (λ b. length (cond b (l ∷ filter test ls) (filter test ls))) e))
    (λ e.
    ap (λ b. fold (next test) (cond b ((n + 1) % 2 ^ 64) n) ls) e ∙ counted test ls n (omega arith)
    ∙ ap (λ b. n + length (cond b (l ∷ filter test ls) (filter test ls))) (sym e))
    (cases_Bool (test l))

pub returns : goal.returns
returns c =
    let test = for_pair c.args.pair.from c.args.pair.to in
    let ls = kept c.args.self.now in
    let e = fold_from_yields_List _ (next test) 0 c.fold.result c.fold.ensures.ran (YieldsList-from_slice ls cc) (λ a x b q k. search (rules, tests)) in
    omega (arith, e, counted test ls 0 (omega (arith, c.iter.ensures.len, c.iter.ensures.bound)), length-map (filter test ls) (λ l. l.message))
