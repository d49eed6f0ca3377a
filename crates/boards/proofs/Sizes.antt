-- How much memory was brought, number by number.
use Rattle.std.proofs.Common.{◌≡◌, ℕ, ap, ◌∙◌}
use Rattle.theory.specs.SetUp.{Brought}

abbrev sizes : ℕ → ℕ → ℕ → ℕ → Brought
sizes cells entries free held = record { cells = cells; entries = entries; free = free; held = held }

pub same_sizes : (a b c d w x y z : ℕ) → w ≡ a → x ≡ b → y ≡ c → z ≡ d → sizes w x y z ≡ sizes a b c d
same_sizes a b c d w x y z p q r s = ap (λ k. sizes k x y z) p ∙ ap (λ k. sizes a k y z) q ∙ ap (λ k. sizes a b k z) r ∙ ap (sizes a b c) s
