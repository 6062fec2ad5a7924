-- The first day of the date's period is the greatest such day not after it.
use borrow.Author.Differences.{ints}
use Rattle.std.proofs.Common.{◌≡◌, pos, arith, w64, to_z, of_z}
use Rattle.arith.proofs.Months.{some_day}
use Rattle.arith.proofs.Periods.{first_month_of_lem, greatest_first_day}
use Rattle.arith.specs.Gregorian.{leap, day_number}
use Rattle.arith.specs.Periods.{first_month_of}
use Rattle.calendar.proofs.Dates.{is_date}
use Rattle.calendar.proofs.date.Date.months_start.Goals as goal

pub invariant_of-first-clause-last_day : goal.invariant_of-first-clause-last_day
invariant_of-first-clause-last_day c =
    let t = c.args.self in
    let m = first_month_of_lem c.args.months t.month c.requires t.first_month in
    some_day (leap (pos t.year)) _ m.0 (omega (arith, m.1))

pub returns : goal.returns
returns c =
    let t = c.args.self in
    let e : to_z w64 (of_z w64 c.day.result.number) ≡ day_number (pos t.year) (first_month_of c.args.months t.month) 1 = omega (arith, ints, c.day.ensures.number) in
    rw e (greatest_first_day c.args.months c.requires (pos t.year) t.month t.day (is_date t))
