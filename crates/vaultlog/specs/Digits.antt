-- Decimal digits and the numbers that they write.
use Rattle.std.specs.Prelude.{ℕ, zero, suc, ◌+◌, ◌-◌, ◌*◌, ◌<◌, ◌≤◌, List, length, slice_index_or}

abbrev pub IsDigit : ℕ → Type 0
IsDigit b = (48 ≤ b) × (b ≤ 57)

-- two digits, tens first
abbrev pub two_of : ℕ → ℕ → ℕ
two_of a b = (a - 48) * 10 + (b - 48)

abbrev pub four_of : ℕ → ℕ → ℕ → ℕ → ℕ
four_of a b c d = two_of a b * 100 + two_of c d

abbrev pub AllDigits : List ℕ → Type 0
AllDigits ds = (k : ℕ) → k < length ds → IsDigit (slice_index_or ds k 48)

-- the number of the first n digits; past the end there are zeros
abbrev pub first_of : List ℕ → ℕ → ℕ
first_of ds zero = 0
first_of ds (suc n) = first_of ds n * 10 + (slice_index_or ds n 48 - 48)
