-- The Monday is the greatest multiple of seven days, counted from a Monday.
use borrow.Author.Differences.{ints}
use Rattle.std.proofs.Common.{◌≡◌, pos, ◌+ℤ◌, ◌∙◌, ap, nat_abs, arith, lit<}
use Rattle.arith.proofs.Floors.{rem, rem_is}
use Rattle.arith.proofs.Multiples.{greatest_multiple}
use Rattle.arith.specs.Weekdays.{weekday}
use Rattle.calendar.proofs.day.Day.monday.Goals as goal

pub returns : goal.returns
unfolding weekday
returns c =
    let n = c.args.self.number in
    let r : c.days_since_monday.result ≡ rem (n +ℤ pos 3) 7 = c.days_since_monday.ensures.value ∙ ap nat_abs (rem_is (n +ℤ pos 3) 7) in
    greatest_multiple 3 7 n _ (lit< tt) (omega (arith, ints))
