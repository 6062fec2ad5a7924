-- Dates some months later or earlier, over every integer year.
use Rattle.std.specs.Prelude.{◌≡◌, ℕ, ◌-◌, ◌≤◌, min, ℤ, pos, ◌+ℤ◌, ◌*ℤ◌, ◌≤ℤ◌, ◌<ℤ◌}
use Rattle.arith.specs.Gregorian.{leap, month_length}

-- months counted through the years: January of the year 0 is 0
unfoldable pub month_index : ℤ → ℕ → ℤ
month_index y m = pos 12 *ℤ y +ℤ pos (m - 1)

-- a month of the years 1 to 9999, counted so
abbrev pub IndexInYears : ℤ → Type 0
IndexInYears k = (pos 12 ≤ℤ k) × (k <ℤ pos 120000)

-- y'-m'-d' is y-m-d moved by so many months: the day stays, or is the month's last day where that comes before it
pub record Shifted (y : ℤ) (m d : ℕ) (months : ℤ) (y' : ℤ) (m' d' : ℕ) : Type 0 where
  pub first_month : 1 ≤ m'
  pub last_month : m' ≤ 12
  pub index : month_index y' m' ≡ month_index y m +ℤ months
  pub day : d' ≡ min d (month_length (leap y') m')
