-- The number of a date, by the year beginning in March that holds it.
use Rattle.std.proofs.Common.{◌≡◌, ℕ, ◌+◌, ◌-◌, ◌<◌, ◌≤◌, arith}
use borrow.Author.Differences.{ints}
use Rattle.arith.proofs.Numbers.{number_is, since_march_lem, since_january, since_below}
use Rattle.arith.specs.March.{march, march_days, since_march}
use Rattle.calendar.proofs.civil.march_number.Goals as goal
use Rattle.calendar.proofs.civil.march_number.Goals.{then-date-lt3, else-date-lt3}

module _ (y m d s : ℕ) (p : ℕ × ℕ) (first : 1 ≤ d) (start : s ≡ march p.0) where
  early : p ≡ (y - 1, m + 9) → m < 3 → s + (march_days p.1 + d - 1) ≡ since_march y m d
  early e h =
      let f : s ≡ march (y - 1) = rw e at start in
      rw (e, since_january y m d h, f) (omega arith)

  late : p ≡ (y, m - 3) → 3 ≤ m → s + (march_days p.1 + d - 1) ≡ since_march y m d
  late e h =
      let f : s ≡ march y = rw e at start in
      rw (e, since_march_lem y m d h, f) (omega arith)

-- what the code has computed
sum_is : (c : goal.After-march_start) → c.march_start.result + (march_days c.if-date-lt3.year.1 + c.args.date.day - 1) ≡ since_march c.args.date.year c.args.date.month c.args.date.day
sum_is c =
    let t = c.args.date in
    elim c.if-date-lt3.branch [
      | then-date-lt3 w ↦ early t.year t.month t.day _ c.if-date-lt3.year t.first_day c.march_start.ensures w.year-is w.if-date-lt3.true
      | else-date-lt3 w ↦ late t.year t.month t.day _ c.if-date-lt3.year t.first_day c.march_start.ensures w.year-is w.if-date-lt3.false
    ]

below : (c : goal.After-march_start) → since_march c.args.date.year c.args.date.month c.args.date.day < 4000000
below c = let t = c.args.date in since_below t.year t.month t.day t.first_year t.last_year t.first_month t.last_month t.last_day

pub overflow_add-result : goal.overflow_add-result
overflow_add-result c = record { fits = omega (arith, sum_is c, below c) }

pub returns : goal.returns
returns c =
    let t = c.args.date in
    let n = number_is t.year t.month t.day t.first_year t.first_month t.last_month in
    omega (arith, ints, n, sum_is c, below c)
