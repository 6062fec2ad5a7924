-- Every value of `Date` is a date that the calendar has.
use Rattle.std.proofs.Common.{pos}
use Rattle.arith.specs.Gregorian.{IsDate}
use Rattle.calendar.specs.declared.date.Date.{Date}

pub is_date : (t : Date) → IsDate (pos t.year) t.month t.day
is_date t = record { first_month = t.first_month; last_month = t.last_month; first_day = t.first_day; last_day = t.last_day }
