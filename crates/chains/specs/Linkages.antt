-- Places and the chains that they are in. Chain from * 16 + to is that of a pair of boards, chain 256 has the free places.
use Rattle.std.specs.Prelude.{◌≡◌, ℕ, ◌+◌, ◌*◌, ◌<◌, cond, ◌&&◌, List, [], length, nat_lt, slice_index_or}
use Rattle.theory.specs.declared.memory.Cell.TheVariants.{Value}
use Rattle.theory.specs.declared.message.Message.{Message}
use Rattle.theory.specs.declared.message.Message.TheVariants.{Operation}
use Rattle.theory.specs.declared.message.Operation.TheVariants.{Put}
use Rattle.theory.specs.Net.{Net, total}
use Rattle.chains.specs.declared.Link.{Link}
use Rattle.chains.specs.declared.table.Chain.{Chain}
use Rattle.chains.specs.Spots.{spot, listed}

pub record Linkage : Type 0 where
  pub links : List Link
  pub chains : List Chain

abbrev pub linkage_of : List Link → List Chain → Linkage
linkage_of links chains = record { links = links; chains = chains }

abbrev pub no_chain : Chain
no_chain = record { first = 0; last = 0; len = 0 }

-- what the language has for a read past the table
abbrev pub no_link : Link
no_link = record { message = Operation (Put (record { board = 0; entry = 0 }) 0 (Value 0)); next = 0 }

abbrev pub next_in : List Link → ℕ → ℕ
next_in links p = (slice_index_or links p no_link).next

abbrev pub message_in : List Link → ℕ → Message
message_in links p = (slice_index_or links p no_link).message

abbrev pub chain_of : Linkage → ℕ → Chain
chain_of t i = slice_index_or t.chains i no_chain

abbrev pub len_of : Linkage → ℕ → ℕ
len_of t i = (chain_of t i).len

-- the place at k of chain i
abbrev pub place_of : Linkage → ℕ → ℕ → ℕ
place_of t i k = spot (next_in t.links) (chain_of t i).first k

abbrev pub places : Linkage → ℕ
places t = length t.links

-- two spots in chains that have the same place
pub record Meeting (t : Linkage) : Type 0 where
  pub i : ℕ
  pub j : ℕ
  pub k : ℕ
  pub l : ℕ
  pub in_i : k < len_of t i
  pub in_j : l < len_of t j
  pub meet : place_of t i k ≡ place_of t j l

-- no place is twice in a chain, or in two
abbrev pub Apart : Linkage → Type 0
Apart t = (m : Meeting t) → (m.i ≡ m.j) × (m.k ≡ m.l)

-- every place in a chain is one of the table's
abbrev pub Within : Linkage → Type 0
Within t = (i k : ℕ) → k < len_of t i → place_of t i k < places t

-- each chain knows its last place
abbrev pub Ends : Linkage → Type 0
Ends t = (i k : ℕ) → len_of t i ≡ k + 1 → (chain_of t i).last ≡ place_of t i k

-- what holds of every table
pub record Linked (t : Linkage) : Type 0 where
  pub chained : length t.chains ≡ 257
  pub apart : Apart t
  pub within : Within t
  pub ends : Ends t

-- the messages of each chain, in order
abbrev pub messages : Linkage → ℕ → List Message
messages t i = listed (λ k. message_in t.links (place_of t i k)) (len_of t i)

-- what waits on the pairs of n boards
unfoldable pub net : ℕ → (ℕ → List Message) → Net
net n chains from to = cond (nat_lt from n && nat_lt to n) (chains (from * 16 + to)) []

-- the places in use and the free ones are all
abbrev pub Counted : Linkage → ℕ → Type 0
Counted t used = used + len_of t 256 ≡ places t

-- those in use are what waits on the pairs of n boards
abbrev pub Summed : Linkage → ℕ → ℕ → Type 0
Summed t n used = used ≡ total n (net n (messages t))
