-- What the numbers of dates keep to, over every integer year: the next date, the order of dates, and one date for each number.
use Rattle.std.specs.Prelude.{◌≡◌, ℕ, ◌+◌, ◌<◌, ◌⊎◌, ℤ, pos, ◌<ℤ◌}
use Rattle.std.proofs.Math.IntN.{suc_ℤ}
use Rattle.arith.specs.Gregorian.{leap, month_length, IsDate, day_number}

-- the date after a date: the next day of the month, the next month's first day, or the next year's
pub data Follows (y : ℤ) (m d : ℕ) : ℤ → ℕ → ℕ → Type 0 where
  next_day : d < month_length (leap y) m → Follows y m d y m (d + 1)
  next_month : d ≡ month_length (leap y) m → m < 12 → Follows y m d y (m + 1) 1
  next_year : d ≡ month_length (leap y) m → m ≡ 12 → Follows y m d (suc_ℤ y) 1 1

-- a date is earlier than another: by the year, then by the month, then by the day
abbrev pub Earlier : ℤ → ℕ → ℕ → ℤ → ℕ → ℕ → Type 0
Earlier y m d y' m' d' = (y <ℤ y') ⊎ ((y ≡ y') × ((m < m') ⊎ ((m ≡ m') × (d < d'))))

-- y-m-d is the only date with the number n
pub record OnlyDate (n y : ℤ) (m d : ℕ) : Type 0 where
  pub exists : IsDate y m d
  pub number : day_number y m d ≡ n
  pub only : (y' : ℤ) (m' d' : ℕ) → IsDate y' m' d' → day_number y' m' d' ≡ n → (y' ≡ y) × (m' ≡ m) × (d' ≡ d)

-- n is the number of the date y-m-d and of no other; the date after it has the next number, every later date a greater one, and 1970-01-01 has the number 0
pub record Numbered (y : ℤ) (m d : ℕ) (n : ℤ) : Type 0 where
  pub only_date : OnlyDate n y m d
  pub next : (y' : ℤ) (m' d' : ℕ) → Follows y m d y' m' d' → IsDate y' m' d' × (day_number y' m' d' ≡ suc_ℤ n)
  pub order : (y' : ℤ) (m' d' : ℕ) → IsDate y' m' d' → Earlier y m d y' m' d' → n <ℤ day_number y' m' d'
  pub epoch : day_number (pos 1970) 1 1 ≡ pos 0
