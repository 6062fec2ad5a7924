-- The days of the week follow one another.
use Rattle.std.proofs.Common.{pos, ◌+ℤ◌, refl, arith, lit<}
use borrow.Author.Differences.{ints}
use lib.IntN.{suc_ℤ}
use Rattle.arith.proofs.Floors.{floor_is, suc_is}
use Rattle.arith.specs.Weekdays.{weekday, EpochIsThursday, WeekdaysTurn}

pub thursday : EpochIsThursday
unfolding weekday
thursday = refl

pub turns : WeekdaysTurn
unfolding weekday
turns n =
    let f = floor_is (n +ℤ pos 3) 7 (lit< tt) in
    let g = floor_is (suc_ℤ n +ℤ pos 3) 7 (lit< tt) in
    omega (arith, ints, suc_is)
