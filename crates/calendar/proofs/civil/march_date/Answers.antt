-- The date of a day, in March to December or in January and February.
use Rattle.std.proofs.Common.{◌≡◌, ℕ, ◌+◌, ◌-◌, ◌*◌, ◌/◌, ◌<◌, ◌≤◌, refl, ap, arith, rules}
use Rattle.arith.proofs.March.{march_next, year_long}
use Rattle.arith.proofs.Numbers.{Found, march_to_december, january_february}
use Rattle.arith.specs.Gregorian.{leap}
use Rattle.arith.specs.March.{march, march_days}
use Rattle.calendar.proofs.civil.march_date.Goals as goal
use Rattle.calendar.proofs.civil.march_date.Goals.{Joined-month-lt10, at-returns, then-month-lt10, else-month-lt10}

abbrev Parts : Type 0
Parts = ℕ × (ℕ × (ℕ × Unit {0}))

abbrev month : ℕ → ℕ → ℕ
month n s = (5 * (n - s) + 2) / 153

abbrev day : ℕ → ℕ → ℕ
day n s = n - s - march_days (month n s) + 1

module _ (n y s : ℕ) (p : Parts) (pre : (306 ≤ n) × (n ≤ 3652364)) (in_year : (y ≤ 9999) × ((march y ≤ n) × (n < march (y + 1)))) (start : s ≡ march y) where
  early : p ≡ (y, (month n s + 3, (day n s, tt))) → month n s < 10 → Found n p.0 p.1.0 p.1.1.0
  early e h = rw e (march_to_december n y (n - s) (month n s) pre.0 pre.1 in_year.1.0 in_year.1.1 (ap (λ (x : ℕ). n - x) start) refl h in_year.0)

  late : p ≡ (y + 1, (month n s - 9, (day n s, tt))) → 10 ≤ month n s → Found n p.0 p.1.0 p.1.1.0
  late e h = rw e (january_february n y (n - s) (month n s) pre.0 pre.1 in_year.1.0 in_year.1.1 (ap (λ (x : ℕ). n - x) start) refl h in_year.0)

-- the date, by the way that control came
found : (c : Joined-month-lt10) → let p : Parts = c.if-month-lt10.result in Found c.args.day p.0 p.1.0 p.1.1.0
found c =
    let p : Parts = c.if-month-lt10.result in
    elim c.if-month-lt10.branch [
      | then-month-lt10 w ↦ early _ _ _ p c.requires c.march_year-year.ensures c.march_start.ensures w.result-is w.if-month-lt10.true
      | else-month-lt10 w ↦ late _ _ _ p c.requires c.march_year-year.ensures c.march_start.ensures w.result-is w.if-month-lt10.false
    ]

pub overflow_cast-result-else-month-lt10-2 : goal.overflow_cast-result-else-month-lt10-2
overflow_cast-result-else-month-lt10-2 c =
    let y = c.march_year-year.result in
    record { fits = omega (arith, march_next y, year_long (leap (lib.IntN.pos (y + 1)))) }

pub invariant_of-result : goal.invariant_of-result
invariant_of-result c = let f = found c in search rules

pub returns : goal.returns
returns c = (found (at-returns c).Joined-month-lt10).number
