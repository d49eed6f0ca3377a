-- That all chains are a proper wire, which is the law of the trait. The proof of a law may name nothing of `proofs`,
-- so its lemmas stand here; none of them has to be read to judge what is proved.
use Rattle.std.proofs.Common.{◌≡◌, ℕ, ◌+◌, ◌*◌, ◌<◌, ◌≤◌, ltb, List, [], arith}
use Rattle.std.proofs.lemmas.Bool.{lt-ltb, le-ltb, and_from, and_left, and_right}
use Rattle.theory.specs.declared.message.Message.{Message}
use Rattle.theory.specs.Wire.{Proper}
use Rattle.chains.specs.declared.Chains.{Chains}
use Rattle.chains.specs.Linkages.{messages, net}
use Rattle.chains.specs.Tables.{linkage}
use Rattle.chains.specs.WireStates.{wire_state}

module _ (n : ℕ) (chains : ℕ → List Message) (from to : ℕ) where
  pub net_in : from < n → to < n → net n chains from to ≡ chains (from * 16 + to)
  unfolding net
  net_in f t = rw (and_from (ltb from n) (ltb to n) (lt-ltb from n f) (lt-ltb to n t))

  pub net_no_sender : n ≤ from → net n chains from to ≡ []
  unfolding net
  net_no_sender h = rw (and_left (ltb from n) (ltb to n) (le-ltb from n h))

  pub net_no_taker : n ≤ to → net n chains from to ≡ []
  unfolding net
  net_no_taker h = rw (and_right (ltb from n) (ltb to n) (le-ltb to n h))

pub proper_chains : (w : Chains) → Proper (wire_state w)
proper_chains w = record {
  few = w.few;
  fits = omega (arith, w.summed, w.counted);
  no_sender = net_no_sender w.boards (messages (linkage w.table));
  no_taker = net_no_taker w.boards (messages (linkage w.table));
}
