-- The fields of a line, and the numbers in them.
use Rattle.std.specs.Prelude.{ℕ, ◌+◌, ◌-◌, ◌*◌, Bool, true, cond, ◌&&◌, ◌||◌, List, [], ◌∷◌, length, Some, None, Option, ◌==◌, nat_le, nat_lt}

-- a space or a newline ends a field
abbrev pub ends : ℕ → Bool
ends b = b == 32 || b == 10

unfoldable pub longer : ℕ → Option (List ℕ × List ℕ) → Option (List ℕ × List ℕ)
longer b None = None
longer b (Some cut) = Some (b ∷ cut.0, cut.1)

-- the field that ends with the byte `end`, and what follows that byte
unfoldable pub field : ℕ → List ℕ → Option (List ℕ × List ℕ)
field end [] = None
field end (b ∷ bs) = cond (ends b) (cond (b == end) (Some ([], bs)) None) (longer b (field end bs))

abbrev pub digit : ℕ → Bool
digit b = nat_le 48 b && nat_le b 57

unfoldable pub all_digits : List ℕ → Bool
all_digits [] = true
all_digits (b ∷ bs) = digit b && all_digits bs

-- the digits read after the number n
unfoldable pub digits_after : ℕ → List ℕ → ℕ
digits_after n [] = n
digits_after n (b ∷ bs) = digits_after (n * 10 + (b - 48)) bs

-- one to ten decimal digits, and a value of 32 bits
unfoldable pub is_numeral : List ℕ → Bool
is_numeral bs = (nat_lt 0 (length bs) && nat_le (length bs) 10) && (all_digits bs && nat_le (digits_after 0 bs) 4294967295)

-- the number that a text writes
unfoldable pub numeral : List ℕ → Option ℕ
numeral bs = cond (is_numeral bs) (Some (digits_after 0 bs)) None

unfoldable pub beside : Option ℕ → List ℕ → Option (ℕ × List ℕ)
beside None bs = None
beside (Some n) bs = Some (n, bs)

unfoldable pub in_field : Option (List ℕ × List ℕ) → Option (ℕ × List ℕ)
in_field None = None
in_field (Some cut) = beside (numeral cut.0) cut.1

-- a field that is a number, and what follows it
unfoldable pub value : ℕ → List ℕ → Option (ℕ × List ℕ)
value end bs = in_field (field end bs)
