-- Years that begin on 1 March, so that a leap day is a year's last: the working form of the algorithms.
use Rattle.std.specs.Prelude.{ℕ, ◌+◌, ◌-◌, ◌*◌, ◌/◌, cond, nat_lt}

-- the days from 0000-03-01 to 1 March of the year y
unfoldable pub march : ℕ → ℕ
march y = 365 * y + y / 4 - y / 100 + y / 400

-- the days before the month i of such a year, numbered from 0
abbrev pub march_days : ℕ → ℕ
march_days i = (153 * i + 2) / 5

-- the number in such a year of the month m, from 0
abbrev pub march_month : ℕ → ℕ
march_month m = cond (nat_lt m 3) (m + 9) (m - 3)

-- the year beginning in March that holds the month m of the year y
abbrev pub march_year : ℕ → ℕ → ℕ
march_year y m = cond (nat_lt m 3) (y - 1) y

-- the days from 0000-03-01 to a date
unfoldable pub since_march : ℕ → ℕ → ℕ → ℕ
since_march y m d = march (march_year y m) + march_days (march_month m) + (d - 1)
