-- The proleptic Gregorian calendar of ISO 8601, over every integer year: which years are leap years, how long the months are, and the number of a day, counted from 1970-01-01, which is day 0.
use Rattle.std.specs.Prelude.{ℕ, ◌+◌, ◌-◌, ◌≤◌, Bool, cond, List, [], ◌∷◌, take, ℤ, pos, ◌+ℤ◌, ◌-ℤ◌, ◌*ℤ◌, neg_ℤ, ◌≤ℤ◌, sum, ◌==◌, slice_index, unsigned_abs}
use Rattle.std.proofs.Math.IntN.{pred_ℤ}
use Rattle.std.specs.Int.{int_div_euclid, int_rem_euclid}

-- y is a whole multiple of k
abbrev pub multiple : ℕ → ℤ → Bool
multiple k y = unsigned_abs (int_rem_euclid y (pos k)) == 0

-- a leap year is a multiple of 4; a centennial year is one only as a multiple of 400
unfoldable pub leap : ℤ → Bool
leap y = cond (multiple 100 y) (multiple 400 y) (multiple 4 y)

-- the months' lengths in days, January first
abbrev pub month_lengths : Bool → List ℕ
month_lengths is_leap = 31 ∷ cond is_leap 29 28 ∷ 31 ∷ 30 ∷ 31 ∷ 30 ∷ 31 ∷ 31 ∷ 30 ∷ 31 ∷ 30 ∷ 31 ∷ []

unfoldable pub month_length : Bool → ℕ → ℕ
month_length is_leap m = slice_index (month_lengths is_leap) (m - 1)

-- how many days of the year come before the month m
unfoldable pub days_before : Bool → ℕ → ℕ
days_before is_leap m = sum (take (m - 1) (month_lengths is_leap))

abbrev pub year_length : Bool → ℕ
year_length is_leap = cond is_leap 366 365

-- the whole part of y / k, rounded down
abbrev pub floor_div : ℤ → ℕ → ℤ
floor_div y k = int_div_euclid y (pos k)

-- the days of the years 1 to n: 365 in each, and one more in each leap year among them
unfoldable pub days_in_years : ℤ → ℤ
days_in_years n = pos 365 *ℤ n +ℤ floor_div n 4 -ℤ floor_div n 100 +ℤ floor_div n 400

-- the number of 1 January of the year y: 719,162 days lie between 0001-01-01 and 1970-01-01
unfoldable pub year_start : ℤ → ℤ
year_start y = days_in_years (pred_ℤ y) -ℤ pos 719162

-- a date that the calendar has
pub record IsDate (y : ℤ) (m d : ℕ) : Type 0 where
  pub first_month : 1 ≤ m
  pub last_month : m ≤ 12
  pub first_day : 1 ≤ d
  pub last_day : d ≤ month_length (leap y) m

-- the number of the day d of the month m of the year y
unfoldable pub day_number : ℤ → ℕ → ℕ → ℤ
day_number y m d = year_start y +ℤ pos (days_before (leap y) m + (d - 1))

-- the days of the years 1 to 9999
abbrev pub InSpan : ℤ → Type 0
InSpan n = (neg_ℤ (pos 719162) ≤ℤ n) × (n ≤ℤ pos 2932896)

abbrev pub InYears : ℤ → Type 0
InYears y = (pos 1 ≤ℤ y) × (y ≤ℤ pos 9999)
