-- A message that joins a chain or leaves it, with a place from the free ones or to them.
use Rattle.std.proofs.Common.{◌≡◌, ℕ, ◌+◌, [], ◌∷◌, ◌++◌, length, sym, ap, ◌∙◌, ap₂, arith}
use Rattle.std.proofs.lemmas.List.{length_push}
use Rattle.theory.specs.declared.message.Message.{Message}
use Rattle.chains.specs.Changes.{Detached, Attached, Pushed, Popped}
use Rattle.chains.specs.Linkages.{Linkage, len_of, place_of, places, message_in, messages}
use Rattle.chains.proofs.Spots.{length-listed}

-- a chain has as many messages as places
pub length-messages : (t : Linkage) (i : ℕ) → length (messages t i) ≡ len_of t i
length-messages t i = length-listed (λ k. message_in t.links (place_of t i k)) (len_of t i)

pub len_same : (s t : Linkage) (i : ℕ) → messages t i ≡ messages s i → len_of t i ≡ len_of s i
len_same s t i e = sym (length-messages t i) ∙ ap length e ∙ length-messages s i

module _ (s t : Linkage) (i p : ℕ) (d : Detached s t i p) where
  pub len_less : len_of t i + 1 ≡ len_of s i
  len_less =
      let e : length (messages s i) ≡ length (messages t i) + 1 = ap length d.first ∙ omega arith in
      omega (arith, length-messages s i, length-messages t i, e)

  pub room_detached : places t ≡ places s
  room_detached = ap length d.links

len_more : (s t : Linkage) (i : ℕ) (m : Message) → Attached s t i m → len_of t i ≡ len_of s i + 1
len_more s t i m a = omega (arith, length-messages s i, length-messages t i, ap length a.last, length_push (messages s i) m)

module _ (s u t : Linkage) (i p : ℕ) (m : Message) (ne : i ≡ 256 → ⊥) where
  pub pushed : Detached s u 256 p → Attached u t i m → Pushed s t i m
  pushed d a = record {
    room = a.room ∙ room_detached s u 256 p d;
    free = omega (arith, len_less s u 256 p d, len_same u t 256 (a.others 256 (λ e. ne (sym e))));
    last = a.last ∙ ap (λ ms. ms ++ m ∷ []) (d.others i ne);
    others = λ j ni nf. a.others j ni ∙ d.others j nf;
  }

  pub popped : Detached s u i p → m ≡ message_in u.links p → Attached u t 256 m → Popped s t i m
  popped d e a = record {
    room = a.room ∙ room_detached s u i p d;
    free = omega (arith, len_more u t 256 m a, len_same s u 256 (d.others 256 (λ y. ne (sym y))));
    first = d.first ∙ ap₂ ◌∷◌ (ap (λ ls. message_in ls p) (sym d.links) ∙ sym e) (sym (a.others i ne));
    others = λ j ni nf. a.others j nf ∙ d.others j ni;
  }
