-- Letters that all go between boards of the line.
use Rattle.std.proofs.Common.{◌≡◌, ℕ, zero, suc, ◌<◌, true, ◌&&◌, ltb, List, [], ◌∷◌, ◌++◌, refl, ◌∙◌}
use Rattle.std.specs.List.{remove}
use Rattle.std.proofs.lemmas.Bool.{lt-ltb, and_from}
use Rattle.std.proofs.lemmas.List.Folds.{list_all-append}
use Rattle.theory.specs.declared.message.Message.{Message}
use Rattle.theory.specs.declared.message.Pair.{Pair}
use Rattle.line.specs.declared.letters.Letter.{Letter}
use Rattle.line.specs.Letters.{letter, joins}
use Rattle.line.specs.Propers.{joins-parts}

joins_front : (n : ℕ) (l : Letter) (ls : List Letter) → l.pair.from < n → l.pair.to < n → joins n ls ≡ true → joins n (l ∷ ls) ≡ true
joins_front n l ls f t j =
    and_from (ltb l.pair.from n && ltb l.pair.to n) (joins n ls) (and_from (ltb l.pair.from n) (ltb l.pair.to n) (lt-ltb l.pair.from n f) (lt-ltb l.pair.to n t)) j

pub joins_push : (n : ℕ) (ls : List Letter) (p : Pair) (m : Message) → p.from < n → p.to < n → joins n ls ≡ true → joins n (ls ++ letter p m ∷ []) ≡ true
joins_push n ls p m lf lt j =
    list_all-append (λ l. ltb l.pair.from n && ltb l.pair.to n) ls (letter p m ∷ [])
    ∙ and_from (joins n ls) (joins n (letter p m ∷ [])) j (joins_front n (letter p m) [] lf lt refl)

pub joins_removed : (n : ℕ) (ls : List Letter) (i : ℕ) → joins n ls ≡ true → joins n (remove ls i) ≡ true
joins_removed n [] zero j = j
joins_removed n [] (suc i) j = j
joins_removed n (l ∷ ls) zero j = (joins-parts n l ls j).2
joins_removed n (l ∷ ls) (suc i) j =
    let p = joins-parts n l ls j in
    joins_front n l (remove ls i) p.0 p.1 (joins_removed n ls i p.2)
