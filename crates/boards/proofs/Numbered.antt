-- Queues that get the numbers from 0 on, one by one.
use Rattle.std.proofs.Common.{◌≡◌, ℕ, ◌+◌, ◌<◌, true, cond, ◌⊎◌, List, [], ◌∷◌, ◌++◌, length, sym, ap, ◌∙◌, inl, inr, arith}
use Rattle.std.proofs.lemmas.Bool.{and_from, lt-ltb, cases_order}
use Rattle.queue.specs.Pushes.{has_room_at, pushed_at}
use Rattle.theory.specs.Functions.{masked, put}
use Rattle.theory.specs.Lists.{below}
use Rattle.theory.proofs.Functions.{put_same, put-put, put_is, put_own, masked_in, masked_out}
use Rattle.theory.proofs.Parts.{length-below, below_more}

-- an empty queue has no number yet
pub numbered_none : (f : ℕ → List ℕ) (b : ℕ) → f b ≡ [] → f ≡ put f b (below 0)
unfolding below
numbered_none f b e = put_own f b [] e

-- one number more
pub numbered_more : (f g : ℕ → List ℕ) (count each b i : ℕ) → b < count → i < each → g ≡ put f b (below i) → pushed_at count each b i g ≡ put f b (below (i + 1))
numbered_more f g count each b i lb li e =
    let here : g b ≡ below i = ap (λ h. h b) e ∙ put_same f b (below i) in
    let n : length (g b) ≡ i = ap length here ∙ length-below i in
    let room : has_room_at count each b g ≡ true = and_from _ _ (lt-ltb b count lb) (lt-ltb (length (g b)) each (omega arith)) in
    ap (λ t. cond t (put g b (g b ++ i ∷ [])) g) room
    ∙ ap (λ h. put g b (h ++ i ∷ [])) here
    ∙ ap (λ h. put h b (below i ++ i ∷ [])) e
    ∙ put-put f b (below i) (below i ++ i ∷ [])
    ∙ ap (put f b) (sym (below_more i))

-- one queue more
pub queues_more : (x : List ℕ) (b : ℕ) → put (masked b [] (λ _. x)) b x ≡ masked (b + 1) [] (λ _. x)
queues_more x b = sym (put_is (masked b [] (λ _. x)) (masked (b + 1) [] (λ _. x)) b x (λ j ne. go j ne (cases_order j b)) (masked_in (b + 1) [] (λ _. x) b (omega arith)))
  where
    go : (j : ℕ) → (j ≡ b → ⊥) → (j ≡ b) ⊎ ((j < b) ⊎ (b < j)) → masked (b + 1) [] (λ _. x) j ≡ masked b [] (λ _. x) j
    go j ne (inl e) = absurd (ne e)
    go j ne (inr (inl l)) = masked_in (b + 1) [] (λ _. x) j (omega arith) ∙ sym (masked_in b [] (λ _. x) j l)
    go j ne (inr (inr l)) = masked_out (b + 1) [] (λ _. x) j (omega arith) ∙ sym (masked_out b [] (λ _. x) j (omega arith))
