-- The first line of a text.
use Rattle.std.proofs.Common.{◌≡◌, ℕ, zero, suc, ◌+◌, ◌-◌, ◌<◌, cond, eqb, min, List, [], ◌∷◌, ◌++◌, length, take, drop, refl, ap, ◌∙◌, arith}
use Rattle.std.specs.List.{IsFirstMatchOrLen}
use Rattle.std.proofs.lemmas.List.{drop_at, take_rest}
use Rattle.text.specs.Lines.{lines, onto}

pub lines_nil : lines [] ≡ []
unfolding lines
lines_nil = refl

-- a text cut behind its first newline, or else at its end
pub line_cut : (xs x ys : List ℕ) (i : ℕ) → xs ≡ x ++ ys → length x ≡ min (i + 1) (length xs) → IsFirstMatchOrLen (λ b. eqb b 10) xs i → 0 < length xs → lines xs ≡ x ∷ lines ys
unfolding lines onto
line_cut [] x ys i e n f h = absurd (omega arith)
line_cut (b ∷ bs) [] ys i e n f h = absurd (omega arith)
line_cut (b ∷ bs) (a ∷ c ∷ cs) ys zero e n f h = absurd (omega arith)
line_cut (b ∷ bs) (a ∷ []) ys zero e n f h =
    let new = ap (λ t. cond t ((b ∷ []) ∷ lines bs) (onto b (lines bs))) (f.1 h b) in
    let p : b ≡ a = cc in
    let q : bs ≡ ys = cc in
    new ∙ ap (λ z. (z ∷ []) ∷ lines bs) p ∙ ap (λ z. (a ∷ []) ∷ lines z) q
line_cut (b ∷ []) (a ∷ c ∷ cs) ys (suc i) e n f h = absurd (omega arith)
line_cut (b ∷ []) (a ∷ []) ys (suc i) e n f h =
    let p : b ≡ a = cc in
    let q : [] ≡ ys = cc in
    ap (λ t. cond t ((b ∷ []) ∷ []) (onto b [])) (f.0 0 b (omega arith) (omega arith)) ∙ ap (λ z. (z ∷ []) ∷ []) p ∙ ap (λ z. (a ∷ []) ∷ lines z) q
line_cut (b ∷ d ∷ ds) (a ∷ es) ys (suc i) e n f h =
    let p : b ≡ a = cc in
    let q : d ∷ ds ≡ es ++ ys = cc in
    let on = line_cut (d ∷ ds) es ys i q (omega arith) (λ k z l m. f.0 (suc k) z (omega arith) (omega arith), λ l. f.1 (omega arith)) (omega arith) in
    ap (λ t. cond t ((b ∷ []) ∷ lines (d ∷ ds)) (onto b (lines (d ∷ ds)))) (f.0 0 b (omega arith) (omega arith)) ∙ ap (onto b) on ∙ ap (λ z. (z ∷ es) ∷ lines ys) p

-- what is left behind the cut
pub cut_rest : {X : Type 0} (xs x ys : List X) → xs ≡ x ++ ys → take (length xs - length x) (drop (length x) xs) ≡ ys
cut_rest xs x ys e = take_rest xs (length x) ∙ ap (drop (length x)) e ∙ drop_at x ys (length x) refl
