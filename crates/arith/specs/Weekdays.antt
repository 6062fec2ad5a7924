-- The days of the week, and Mondays.
use Rattle.std.specs.Prelude.{◌≡◌, ℕ, ◌+◌, ◌%◌, ℤ, pos, ◌+ℤ◌, unsigned_abs}
use Rattle.std.proofs.Math.IntN.{suc_ℤ}
use Rattle.std.specs.Int.{int_rem_euclid}

-- the day of the week, 0 for Monday: day 0 is a Thursday, and each day is followed by the next of the week
unfoldable pub weekday : ℤ → ℕ
weekday n = unsigned_abs (int_rem_euclid (n +ℤ pos 3) (pos 7))

abbrev pub EpochIsThursday : Type 0
EpochIsThursday = weekday (pos 0) ≡ 3

abbrev pub WeekdaysTurn : Type 0
WeekdaysTurn = (n : ℤ) → weekday (suc_ℤ n) ≡ (weekday n + 1) % 7

abbrev pub IsMonday : ℤ → Type 0
IsMonday n = weekday n ≡ 0
