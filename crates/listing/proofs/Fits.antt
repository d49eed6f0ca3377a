-- The listing of a file of at most 60,000 bytes fits in 65,536: a call's answer is no longer than its line.
use Rattle.std.proofs.Common.{◌≡◌, ℕ, suc, ◌+◌, ◌^◌, ◌<◌, ◌≤◌, eqb, List, [], ◌∷◌, length, Some, None, Ok, Err, Option, Result, refl, ap, ◌∙◌, decimal, arith, length-append}
use Rattle.std.proofs.lemmas.Bool.{cond_both}
use Rattle.std.proofs.lemmas.Fmt.{length-decimal-le}
use Rattle.text.specs.Lines.{lines, onto}
use Rattle.text.specs.Values.{value}
use Rattle.text.proofs.Valued.{value-length}
use Rattle.theory.specs.declared.call.Call.{Call}
use Rattle.theory.specs.declared.call.Call.TheVariants.{Make, Set}
use Rattle.theory.specs.declared.fault.PackFault.{PackFault}
use Rattle.theory.specs.declared.state.Figures.{Figures}
use Rattle.theory.specs.declared.state.Settings.{Settings}
use Rattle.theory.specs.Answer.{Answer}
use Rattle.theory.specs.Calls.{without_delivery}
use Rattle.theory.specs.Lists.{tail}
use Rattle.theory.specs.Make.{make}
use Rattle.theory.specs.Numbers as pack
use Rattle.theory.specs.SetSlot.{set_slot}
use Rattle.theory.specs.SetUp.{Brought, set_up}
use Rattle.theory.specs.State.{State}
use Rattle.listing.specs.declared.fault.Refusal.{Refusal}
use Rattle.listing.specs.declared.fault.Refusal.TheVariants.{Size, Names, Values, Code, Pack}
use Rattle.listing.specs.declared.row.Row.{Row}
use Rattle.listing.specs.Lines.{settings_names, call_names, then_read, row_of, call_of}
use Rattle.listing.specs.Listing.{Out, in_line, performed, call_line, call_lines, begins, settings_in, stops, goes_on, from_line_3, after_set_up, set_up_by, from_line_2, from_line_1, framed, listing, pack_after}
use Rattle.listing.specs.Numbers.{number, printed}
use Rattle.listing.specs.Printed.{Words, answer_line, figures_line}

-- how many bytes some lines have
abbrev pub total-length : List (List ℕ) → ℕ
total-length [] = 0
total-length (l ∷ ls) = length l + total-length ls

total-onto : (b : ℕ) (ls : List (List ℕ)) → total-length (onto b ls) ≡ suc (total-length ls)
unfolding onto
total-onto b [] = refl
total-onto b (l ∷ ls) = omega arith

-- the lines of a text have its bytes
pub total-lines : (xs : List ℕ) → total-length (lines xs) ≡ length xs
unfolding lines
total-lines [] = refl
total-lines (b ∷ bs) =
    cond_both (eqb b 10) ((b ∷ []) ∷ lines bs) (onto b (lines bs)) (λ ls. total-length ls ≡ suc (length bs))
    (λ _. omega (arith, total-lines bs))
    (λ _. total-onto b (lines bs) ∙ ap suc (total-lines bs))

count_onto : (b n : ℕ) (ls : List (List ℕ)) → length ls ≤ n → length (onto b ls) ≤ suc n
unfolding onto
count_onto b n [] h = omega arith
count_onto b n (l ∷ ls) h = omega arith

-- each line has a byte
pub count_lines : (xs : List ℕ) → length (lines xs) ≤ length xs
unfolding lines
count_lines [] = omega arith
count_lines (b ∷ bs) =
    cond_both (eqb b 10) ((b ∷ []) ∷ lines bs) (onto b (lines bs)) (λ ls. length ls ≤ suc (length bs))
    (λ _. omega (arith, count_lines bs))
    (λ _. count_onto b (length bs) (lines bs) (count_lines bs))

tail_shorter : (ls : List (List ℕ)) → (length (tail ls) ≤ length ls) × (total-length (tail ls) ≤ total-length ls)
tail_shorter [] = (omega arith, omega arith)
tail_shorter (l ∷ ls) = (omega arith, omega arith)

-- a number that is read takes two bytes at least, beside those of what is read after it
module _ {A : Type 0} (end least : ℕ) (l : List ℕ) (next : ℕ → List ℕ → Option A) (x : A) (after : (n : ℕ) (rest : List ℕ) → next n rest ≡ Some x → least ≤ length rest) where
  read_by : (o : Option (ℕ × List ℕ)) → value end l ≡ o → then_read o next ≡ Some x → least + 2 ≤ length l
  read_by None v e = absurd (let z : ◌≡◌ {A = ℕ} 0 1 = cc in omega arith)
  read_by (Some (n, rest)) v e = omega (arith, value-length end l n rest v, after n rest e)

  read_long : then_read (value end l) next ≡ Some x → least + 2 ≤ length l
  read_long e = read_by (value end l) refl e

-- five numbers
pub row_long : (l : List ℕ) (r : Row) → row_of l ≡ Some r → 10 ≤ length l
row_long l r e =
    read_long 32 8 l _ r (λ _ l₁.
    read_long 32 6 l₁ _ r (λ _ l₂.
    read_long 32 4 l₂ _ r (λ _ l₃.
    read_long 32 2 l₃ _ r (λ _ l₄.
    read_long 10 0 l₄ _ r (λ _ l₅ _. omega arith))))) e

-- every refusal has a number of two digits at most
pub pack_number_short : (e : PackFault) → pack.number e < 100
pack_number_short e = grind arith

pub number_short : (e : Refusal) → number e < 100
number_short (Pack e) = pack_number_short e
number_short Size = omega arith
number_short Names = omega arith
number_short Values = omega arith
number_short Code = omega arith

without_delivery_short : (r : State × Answer) → printed (in_line (without_delivery r).1) < 100
without_delivery_short (s, Ok _) = omega arith
without_delivery_short (s, Err e) = pack_number_short e

-- what a call line prints
pub answer_short : (c : Option Call) (s : State) → printed (performed c s).1 < 100
answer_short None s = omega arith
answer_short (Some (Make b slot size)) s = without_delivery_short (make b slot size s)
answer_short (Some (Set b slot n)) s = without_delivery_short (set_slot b slot n s)

-- two numbers, a space and a newline
pub answer_line_short : (line : ℕ) (r : Result ℕ Refusal) → line < 100000 → printed r < 100 → length (answer_line line r) ≤ 9
answer_line_short line r l h =
    simp length-append (omega (arith, length-decimal-le 5 line (omega arith) l (omega arith), length-decimal-le 2 (printed r) (omega arith) h (omega arith)))

stops_short : (line : ℕ) (e : Refusal) (s : State) → line < 100000 → length (stops line e s).0 ≤ 9
stops_short line e s l = answer_line_short line (Err e) l (number_short e)

goes_on-length : (line : ℕ) (r : Result ℕ Refusal) (next : Out) → length (goes_on line r next).0 ≡ length (answer_line line r) + length next.0
goes_on-length line r next = length-append (answer_line line r) next.0

-- a call's answer is no longer than the line that asks for it
pub answer_fits : (line : ℕ) (l : List ℕ) (r : Row) (s : State) → line < 100000 → row_of l ≡ Some r → length (answer_line line (performed (call_of r) s).1) ≤ length l
answer_fits line l r s h e =
    omega (arith, row_long l r e, answer_line_short line (performed (call_of r) s).1 h (answer_short (call_of r) s))

-- the answer, and then what the next lines give
call_fits : (line total : ℕ) (l : List ℕ) (s : State) (next : State → Out) → line < 100000 → ((t : State) → length (next t).0 ≤ total + 9) → (o : Option Row) → row_of l ≡ o → length (call_line line o s next).0 ≤ length l + total + 9
call_fits line total l s next h fits None e = omega (arith, stops_short line Values s h)
call_fits line total l s next h fits (Some r) e =
    let c = performed (call_of r) s in
    omega (arith, goes_on-length line c.1 (next c.0), answer_fits line l r s h e, fits c.0)

-- a line that is no call adds 9 bytes at most, and ends the listing
pub calls_fit : (line : ℕ) (ls : List (List ℕ)) (s : State) → line + length ls < 100000 → length (call_lines line ls s).0 ≤ total-length ls + 9
unfolding call_lines
calls_fit line [] s h = omega arith
calls_fit line (l ∷ ls) s h =
    call_fits line (total-length ls) l s (call_lines (line + 1) ls) (omega arith) (λ t. calls_fit (line + 1) ls t (omega arith)) (row_of l) refl

from_3_fits : (ls : List (List ℕ)) (s : State) → length ls < 99996 → length (from_line_3 ls s).0 ≤ total-length ls + 9
from_3_fits ls s h =
    let t = tail_shorter ls in
    cond_both (begins call_names ls) (call_lines 4 (tail ls) s) (stops 3 Names s) (λ o. length o.0 ≤ total-length ls + 9)
    (λ _. omega (arith, calls_fit 4 (tail ls) s (omega arith)))
    (λ _. omega (arith, stops_short 3 Names s (omega arith)))

after_set_up_fits : (ls : List (List ℕ)) (r : State × Answer) → length ls < 99996 → length (after_set_up ls r).0 ≤ total-length ls + 18
after_set_up_fits ls (s, Ok _) h =
    omega (arith, goes_on-length 2 (Ok 0) (from_line_3 ls s), answer_line_short 2 (Ok 0) (omega arith) (omega arith), from_3_fits ls s h)
after_set_up_fits ls (s, Err e) h = omega (arith, stops_short 2 (Pack e) s (omega arith))

set_up_fits : (brought : Brought) (o : Option Settings) (ls : List (List ℕ)) (s : State) → length ls < 99996 → length (set_up_by brought o ls s).0 ≤ total-length ls + 18
set_up_fits brought None ls s h = omega (arith, stops_short 2 Values s (omega arith))
set_up_fits brought (Some t) ls s h = after_set_up_fits ls (set_up brought t s) h

from_2_fits : (brought : Brought) (ls : List (List ℕ)) (s : State) → length ls < 99996 → length (from_line_2 brought ls s).0 ≤ total-length ls + 18
from_2_fits brought ls s h =
    let t = tail_shorter ls in
    omega (arith, set_up_fits brought (settings_in ls) (tail ls) s (omega arith))

pub from_1_fits : (brought : Brought) (ls : List (List ℕ)) (s : State) → length ls < 99996 → length (from_line_1 brought ls s).0 ≤ total-length ls + 18
from_1_fits brought ls s h =
    let t = tail_shorter ls in
    cond_both (begins settings_names ls) (from_line_2 brought (tail ls) s) (stops 1 Names s) (λ o. length o.0 ≤ total-length ls + 18)
    (λ _. omega (arith, from_2_fits brought (tail ls) s (omega arith)))
    (λ _. omega (arith, stops_short 1 Names s (omega arith)))

-- three numbers of 64 bits, with two spaces and a newline
pub figures_line_short : (f : Figures) → f.kept < 2 ^ 64 → f.messages < 2 ^ 64 → f.freed < 2 ^ 64 → length (figures_line f) ≤ 63
figures_line_short f k m d =
    let short : (n : ℕ) → n < 2 ^ 64 → length (decimal n) ≤ 20 = λ n h. length-decimal-le 20 n (omega arith) (omega arith) h in
    simp length-append (omega (arith, short f.kept k, short f.messages m, short f.freed d))

-- the first line and the last two
framed-length : (out : Out) → length (framed out) ≡ length out.0 + length (figures_line out.1.result) + 32
framed-length out = simp length-append (omega arith)

pub listing_fits : (brought : Brought) (input : List ℕ) (s : State) → length input ≤ 60000 → Words (pack_after brought input s).result → length (listing brought input s) ≤ 65536
unfolding listing pack_after
listing_fits brought input s h words =
    let out = from_line_1 brought (lines input) s in
    let count = count_lines input in
    omega (arith, framed-length out, total-lines input, from_1_fits brought (lines input) s (omega arith), figures_line_short out.1.result words.0 words.1 words.2)
