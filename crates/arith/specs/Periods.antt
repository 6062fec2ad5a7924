-- The first days of months, quarters and years.
use Rattle.std.specs.Prelude.{◌≡◌, ℕ, ◌-◌, ◌%◌, ◌≤◌, ℤ}
use Rattle.arith.specs.Gregorian.{day_number}

-- the day n is the first of a month with which a period of so many months begins: 1 for each month; 3 for January, April, July and October; 12 for January
pub record IsFirstDay (months : ℕ) (n : ℤ) : Type 0 where
  pub year : ℤ
  pub month : ℕ
  pub first_month : 1 ≤ month
  pub last_month : month ≤ 12
  pub begins : (month - 1) % months ≡ 0
  pub number : n ≡ day_number year month 1

-- the first month of the period of so many months that holds the month m
abbrev pub first_month_of : ℕ → ℕ → ℕ
first_month_of months m = m - (m - 1) % months
