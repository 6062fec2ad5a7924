-- The day of a date by parts of any size.
use Rattle.std.specs.Prelude.{◌≡◌, ℤ, pos, Ok, Err, Result, unsigned_abs}
use Rattle.arith.specs.Gregorian.{InSpan, InYears, IsDate}
use Rattle.arith.specs.Laws.{Numbered}
use Rattle.calendar.specs.Faults.{outside_calendar}
use Rattle.calendar.specs.declared.fault.Fault.{Fault}

-- a month and a day that are not below zero
abbrev pub Counted : ℤ → ℤ → Type 0
Counted m d = (m ≡ pos (unsigned_abs m)) × (d ≡ pos (unsigned_abs d))

-- the number of the date, or a refusal exactly where the calendar has no such date
abbrev pub DayOf : ℤ → ℤ → ℤ → Result ℤ Fault → Type 0
DayOf y m d (Ok n) = Counted m d × InYears y × InSpan n × Numbered y (unsigned_abs m) (unsigned_abs d) n
DayOf y m d (Err f) = (Counted m d × InYears y × IsDate y (unsigned_abs m) (unsigned_abs d) → ⊥) × (f ≡ outside_calendar)
