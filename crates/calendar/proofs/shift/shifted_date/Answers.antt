-- The month and its year by the index, and the day lowered to the month's last.
use Rattle.std.proofs.Common.{◌+◌, ◌/◌, ◌%◌, min, pos, ap, ◌∙◌, arith}
use borrow.Author.Differences.{ints}
use Rattle.arith.proofs.Months.{some_day}
use Rattle.arith.proofs.Shifts.{shifted_to}
use Rattle.arith.specs.Gregorian.{leap}
use Rattle.calendar.proofs.shift.shifted_date.Goals as goal

pub invariant_of-result-clause-first_day : goal.invariant_of-result-clause-first_day
invariant_of-result-clause-first_day c =
    let s = some_day (leap (pos (c.in_ok-index.index / 12))) (c.in_ok-index.index % 12 + 1) (omega arith) (omega arith) in
    omega arith

pub invariant_of-result-clause-last_day : goal.invariant_of-result-clause-last_day
invariant_of-result-clause-last_day c =
    let e = c.min-day.ensures ∙ ap (min c.args.date.day) c.length_of_month.ensures in
    omega arith

pub returns : goal.returns
returns c =
    let t = c.args.date in
    let i = c.in_ok-index.index in
    let e = c.min-day.ensures ∙ ap (min t.day) c.length_of_month.ensures in
    rw e (shifted_to (pos t.year) t.month t.day c.args.months i (omega (arith, ints, c.in_ok-index.ensures.0)))
