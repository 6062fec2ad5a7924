-- The date that was found is the only one with the number that was asked for.
use borrow.Author.Differences.{ints}
use Rattle.std.proofs.Common.{arith}
use Rattle.arith.proofs.Numbers.{number_is}
use Rattle.arith.proofs.Order.{only_date_lem}
use Rattle.calendar.proofs.Dates.{is_date}
use Rattle.calendar.proofs.day.Day.date.Goals as goal

pub returns : goal.returns
returns c =
    let t = c.march_date.result in
    let n = number_is t.year t.month t.day t.first_year t.first_month t.last_month in
    only_date_lem c.args.self.number _ t.month t.day (is_date t) (omega (arith, ints, c.march_date.ensures))
