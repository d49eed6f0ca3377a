-- The lines of calls one by one, and a text that is partly written.
use Rattle.std.proofs.Common.{◌≡◌, ℕ, ◌+◌, true, false, cond, List, [], ◌∷◌, ◌++◌, Some, None, Ok, Err, Result, sym, refl, ap, ◌∙◌, arith}
use Rattle.std.proofs.lemmas.List.{append_assoc, append-nil}
use Rattle.std.specs.Result.{result_map_both}
use Rattle.text.specs.declared.writer.Writer.{Writer}
use Rattle.text.specs.Written.{Wrote}
use Rattle.text.proofs.Writes.{◌then◌, wrote_nothing}
use Rattle.theory.specs.declared.fault.PackFault.{PackFault}
use Rattle.theory.specs.declared.state.Settings.{Settings}
use Rattle.theory.specs.Lists.{tail}
use Rattle.theory.specs.SetUp.{Brought, set_up}
use Rattle.theory.specs.State.{State}
use Rattle.listing.specs.declared.fault.LineFault.{LineFault}
use Rattle.listing.specs.declared.fault.Refusal.{Refusal}
use Rattle.listing.specs.declared.fault.Refusal.TheVariants.{Names, Values, Pack}
use Rattle.listing.specs.declared.row.Row.{Row}
use Rattle.listing.specs.Lines.{settings_names, call_names, row_of, call_of}
use Rattle.listing.specs.Listing.{Out, stops, goes_on, performed, call_line, call_lines, begins, settings_in, after_set_up, set_up_by, from_line_1, from_line_2, from_line_3}
use Rattle.listing.specs.Numbers.{at_line}
use Rattle.listing.specs.Toward.{Toward, ending}

pub calls_none : (line : ℕ) (ls : List (List ℕ)) (s : State) → ls ≡ [] → call_lines line ls s ≡ ([], s)
unfolding call_lines
calls_none line ls s e = ap (λ z. call_lines line z s) e

pub calls_stop : (line : ℕ) (ls rest : List (List ℕ)) (l : List ℕ) (s : State) → ls ≡ l ∷ rest → None ≡ row_of l → call_lines line ls s ≡ stops line Values s
unfolding call_lines
calls_stop line ls rest l s e n = ap (λ z. call_lines line z s) e ∙ ap (λ o. call_line line o s (call_lines (line + 1) rest)) (sym n)

pub calls_more : (line : ℕ) (ls rest : List (List ℕ)) (l : List ℕ) (r : Row) (s t : State) (a : Result ℕ Refusal) → ls ≡ l ∷ rest → Some r ≡ row_of l → (t, a) ≡ performed (call_of r) s
    → call_lines line ls s ≡ goes_on line a (call_lines (line + 1) rest t)
unfolding call_lines
calls_more line ls rest l r s t a e n p =
    ap (λ z. call_lines line z s) e ∙ ap (λ o. call_line line o s (call_lines (line + 1) rest)) (sym n)
    ∙ ap (λ (z : State × Result ℕ Refusal). goes_on line z.1 (call_lines (line + 1) rest z.0)) (sym p)

pub toward_start : (v : Writer) (whole : List ℕ) → Toward v v whole whole
toward_start v whole = record { done = []; wrote = wrote_nothing v; parts = refl }

pub toward_more : {v w x : Writer} {rest whole bytes next : List ℕ} → Toward v w rest whole → rest ≡ bytes ++ next → Wrote w x bytes → Toward v x next whole
toward_more {rest = rest} {bytes = bytes} {next = next} t e b =
    record { done = t.done ++ bytes; wrote = t.wrote then b; parts = t.parts ∙ ap (λ z. t.done ++ z) e ∙ sym (append_assoc t.done bytes next) }

pub toward_alike : {v w : Writer} {rest whole next : List ℕ} → Toward v w rest whole → rest ≡ next → Toward v w next whole
toward_alike t e = record { done = t.done; wrote = t.wrote; parts = t.parts ∙ ap (λ z. t.done ++ z) e }

pub toward_end : {v w : Writer} {whole : List ℕ} → Toward v w [] whole → Wrote v w whole
toward_end {v} {w} {whole} t = rw (t.parts ∙ append-nil t.done) t.wrote

-- reading stops with this fault
pub stopped : {U : Type 0} {v w : Writer} {whole : List ℕ} (out : Out) (line : ℕ) (e : Refusal) (s : State) (f : LineFault) (r : Result U LineFault)
    → Toward v w out.0 whole → out ≡ stops line e s → f ≡ at_line line e → r ≡ Err f → Toward v w (ending r) whole
stopped {U = U} out line e s f r t h k q = toward_alike t (ap (λ (o : Out). o.0) h ∙ sym (ap (ending {U = U}) q ∙ ap (λ z. ending {U = U} (Err z)) k))

-- what a pack answered, on a line
pub on_line_err : {U : Type 0} (line : ℕ) (f : LineFault) (r : Result U PackFault) → Err f ≡ result_map_both (λ x. x) (λ e. at_line line (Pack e)) r
    → (e : PackFault) × ((r ≡ Err e) × (f ≡ at_line line (Pack e)))
on_line_err line f (Ok x) h = let z : ◌≡◌ {A = ℕ} 0 1 = cc in absurd (omega arith)
on_line_err line f (Err e) h = (e, (refl, cc))

pub on_line_ok : {U : Type 0} (line : ℕ) (x : U) (r : Result U PackFault) → Ok x ≡ result_map_both (λ y. y) (λ e. at_line line (Pack e)) r → r ≡ Ok x
on_line_ok line x (Ok y) h = let e : y ≡ x = cc in ap Ok e
on_line_ok line x (Err e) h = let z : ◌≡◌ {A = ℕ} 0 1 = cc in absurd (omega arith)

-- the first three lines, each as far as the one before was right
module _ (brought : Brought) (ls : List (List ℕ)) (s : State) where
  pub wrong_names : begins settings_names ls ≡ false → from_line_1 brought ls s ≡ stops 1 Names s
  wrong_names h = ap (λ t. cond t (from_line_2 brought (tail ls) s) (stops 1 Names s)) h

  module _ (h : begins settings_names ls ≡ true) where
    right : from_line_1 brought ls s ≡ from_line_2 brought (tail ls) s
    right = ap (λ t. cond t (from_line_2 brought (tail ls) s) (stops 1 Names s)) h

    pub wrong_settings : settings_in (tail ls) ≡ None → from_line_1 brought ls s ≡ stops 2 Values s
    wrong_settings k = right ∙ ap (λ o. set_up_by brought o (tail (tail ls)) s) k

    pub refused_settings : (t : Settings) (after : State) (e : PackFault) → settings_in (tail ls) ≡ Some t → (after, Err e) ≡ set_up brought t s → from_line_1 brought ls s ≡ stops 2 (Pack e) after
    refused_settings t after e k u = right ∙ ap (λ o. set_up_by brought o (tail (tail ls)) s) k ∙ ap (after_set_up (tail (tail ls))) (sym u)

    pub settings_done : (t : Settings) (after : State) (x : Unit {0}) → settings_in (tail ls) ≡ Some t → (after, Ok x) ≡ set_up brought t s
        → from_line_1 brought ls s ≡ goes_on 2 (Ok 0) (from_line_3 (tail (tail ls)) after)
    settings_done t after x k u = right ∙ ap (λ o. set_up_by brought o (tail (tail ls)) s) k ∙ ap (after_set_up (tail (tail ls))) (sym u)

pub right_call_names : (ls : List (List ℕ)) (s : State) → begins call_names ls ≡ true → from_line_3 ls s ≡ call_lines 4 (tail ls) s
right_call_names ls s h = ap (λ t. cond t (call_lines 4 (tail ls) s) (stops 3 Names s)) h

pub toward_then : {u v w : Writer} {rest whole next again : List ℕ} → Toward u v rest whole → rest ≡ again → Toward v w next again → Toward u w next whole
toward_then {next = next} s e t = record {
  done = s.done ++ t.done;
  wrote = s.wrote then t.wrote;
  parts = s.parts ∙ ap (λ z. s.done ++ z) (e ∙ t.parts) ∙ sym (append_assoc s.done t.done next);
}
