-- On which day of the week a day falls.
use Rattle.std.specs.Prelude.{◌≡◌, ℤ}
use Rattle.arith.specs.Weekdays.{weekday, EpochIsThursday, WeekdaysTurn}
use Rattle.calendar.specs.Spans.{weekday_number}
use Rattle.calendar.specs.declared.weekday.Weekday.{Weekday}

-- the day n falls on w: day 0 is a Thursday, and each day is followed by the next of the week
pub record OnWeekday (n : ℤ) (w : Weekday) : Type 0 where
  pub number : weekday_number w ≡ weekday n
  pub laws : EpochIsThursday × WeekdaysTurn
