-- Day 0 is a Thursday, the fourth day of the week.
use borrow.Author.Differences.{ints}
use Rattle.std.proofs.Common.{◌≡◌, pos, ◌+ℤ◌, ◌∙◌, arith, lit<, w64, to_z, of_z}
use Rattle.arith.proofs.Floors.{rem, rem_is, floor_is}
use Rattle.arith.proofs.Weeks.{thursday, turns}
use Rattle.arith.specs.Weekdays.{weekday}
use Rattle.calendar.proofs.day.Day.days_since_monday.Goals as goal

pub returns-clause-value : goal.returns-clause-value
unfolding weekday
returns-clause-value c =
    let n = c.args.self.number in
    let z : to_z w64 (of_z w64 (to_z w64 (of_z w64 n) +ℤ pos 3)) ≡ n +ℤ pos 3 = omega (arith, ints) in
    let r : c.rem_euclid.result ≡ pos (rem (n +ℤ pos 3) 7) = (rw z at c.rem_euclid.ensures.value) ∙ rem_is (n +ℤ pos 3) 7 in
    let b = (floor_is (n +ℤ pos 3) 7 (lit< tt)).1 in
    omega (arith, ints)

pub returns-clause-laws : goal.returns-clause-laws
returns-clause-laws c = (thursday, turns)
