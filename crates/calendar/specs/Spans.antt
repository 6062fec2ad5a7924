-- The first days of periods, and the days of the week by their numbers.
use Rattle.std.specs.Prelude.{ℕ, ℤ}
use Rattle.arith.specs.Periods.{IsFirstDay}
use Rattle.arith.specs.Weekdays.{IsMonday}
use Rattle.calendar.specs.declared.period.Period.{Period}
use Rattle.calendar.specs.declared.period.Period.TheVariants.{Week, Month, Quarter, Year}
use Rattle.calendar.specs.declared.weekday.Weekday.{Weekday}
use Rattle.calendar.specs.declared.weekday.Weekday.TheVariants.{Monday, Tuesday, Wednesday, Thursday, Friday, Saturday, Sunday}

abbrev pub FirstDayOf : Period → ℤ → Type 0
FirstDayOf Week = IsMonday
FirstDayOf Month = IsFirstDay 1
FirstDayOf Quarter = IsFirstDay 3
FirstDayOf Year = IsFirstDay 12

abbrev pub weekday_number : Weekday → ℕ
weekday_number Monday = 0
weekday_number Tuesday = 1
weekday_number Wednesday = 2
weekday_number Thursday = 3
weekday_number Friday = 4
weekday_number Saturday = 5
weekday_number Sunday = 6
