-- The chains of pairs as a net.
use Rattle.std.proofs.Common.{◌≡◌, ℕ, ◌+◌, ◌*◌, ◌<◌, ◌≤◌, ◌⊎◌, List, [], length, ap, sym, ◌∙◌, inl, inr, arith}
use mathlib.Core.Path.{fun_ext}
use Rattle.std.proofs.lemmas.Bool.{cases_lt}
use Rattle.theory.specs.declared.message.Message.{Message}
use Rattle.theory.specs.Net.{put_pair}
use Rattle.theory.proofs.Nets.{pair_is}
use Rattle.chains.specs.Linkages.{net}
use Rattle.chains.specs.Propers.{net_in, net_no_sender, net_no_taker}

-- a pair that is not joined
pub length-net_outside : (n : ℕ) (chains : ℕ → List Message) (f t : ℕ) → ((f < n) × (t < n) → ⊥) → length (net n chains f t) ≡ 0
length-net_outside n chains f t out = go (cases_lt f n) (cases_lt t n)
  where
    go : (f < n) ⊎ (n ≤ f) → (t < n) ⊎ (n ≤ t) → length (net n chains f t) ≡ 0
    go (inl lf) (inl lt) = absurd (out (lf, lt))
    go (inl lf) (inr ht) = ap length (net_no_taker n chains f t ht)
    go (inr hf) _ = ap length (net_no_sender n chains f t hf)

-- two pairs have two chains
pub pair_apart : (f t i j : ℕ) → t < 16 → j < 16 → i * 16 + j ≡ f * 16 + t → (i ≡ f) × (j ≡ t)
pair_apart f t i j lt lj e = (omega arith, omega arith)

-- chains that are empty but for that of the free places
pub net_none : (n : ℕ) (chains : ℕ → List Message) → n ≤ 16 → ((i : ℕ) → (i ≡ 256 → ⊥) → chains i ≡ []) → net n chains ≡ (λ _ _. [])
net_none n chains few none = fun_ext (λ f. fun_ext (λ t. go f t (cases_lt f n) (cases_lt t n)))
  where
    go : (f t : ℕ) → (f < n) ⊎ (n ≤ f) → (t < n) ⊎ (n ≤ t) → net n chains f t ≡ []
    go f t (inl lf) (inl lt) = net_in n chains f t lf lt ∙ none (f * 16 + t) (λ e. omega arith)
    go f t (inl lf) (inr ht) = net_no_taker n chains f t ht
    go f t (inr hf) _ = net_no_sender n chains f t hf

-- chains that differ at one pair
pub net_changed : (n : ℕ) (chains new : ℕ → List Message) (f t : ℕ) → n ≤ 16 → f < n → t < n
    → ((j : ℕ) → (j ≡ f * 16 + t → ⊥) → (j ≡ 256 → ⊥) → new j ≡ chains j) → net n new ≡ put_pair (net n chains) f t (new (f * 16 + t))
net_changed n chains new f t few lf lt same =
    pair_is (net n chains) (net n new) f t (new (f * 16 + t)) (λ i j ne. go i j ne (cases_lt i n) (cases_lt j n)) (net_in n new f t lf lt)
  where
    go : (i j : ℕ) → (i ≡ f → j ≡ t → ⊥) → (i < n) ⊎ (n ≤ i) → (j < n) ⊎ (n ≤ j) → net n new i j ≡ net n chains i j
    go i j ne (inl li) (inl lj) =
        net_in n new i j li lj
        ∙ same (i * 16 + j) (λ e. let p = pair_apart f t i j (omega arith) (omega arith) e in ne p.0 p.1) (λ e. omega arith)
        ∙ sym (net_in n chains i j li lj)
    go i j ne (inl li) (inr hj) = net_no_taker n new i j hj ∙ sym (net_no_taker n chains i j hj)
    go i j ne (inr hi) _ = net_no_sender n new i j hi ∙ sym (net_no_sender n chains i j hi)
