-- The number of a date's day, and the instant of a date-time.
use Rattle.std.specs.Prelude.{ℤ, pos, ◌+ℤ◌, ◌*ℤ◌}
use Rattle.arith.specs.Gregorian.{day_number}
use Rattle.calendar.specs.declared.date.Date.{Date}
use Rattle.calendar.specs.declared.date_time.DateTime.{DateTime}

abbrev pub number_of : Date → ℤ
number_of t = day_number (pos t.year) t.month t.day

-- nanoseconds since the first instant of day 0: whole days, and the time of day
abbrev pub instant_of : DateTime → ℤ
instant_of t = number_of t.date *ℤ pos 86400000000000 +ℤ pos t.nanos
