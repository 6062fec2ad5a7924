-- The lengths of the months, month by month.
use Rattle.std.proofs.Common.{◌≡◌, ◌≢◌, ◌∙◌, sym, ℕ, ◌-◌, ◌≤◌, Bool, true, false, T, ◌||◌, eqb, List, [], ◌∷◌, slice_index_or, arith, rules, eqb→eq}
use Rattle.std.proofs.lemmas.Bool.{ne_eqb}
use Rattle.arith.proofs.Scan.{scanned}
use Rattle.arith.specs.Gregorian.{month_length}
use Rattle.calendar.proofs.make.length_of_month.Goals.{in_default-via-in-2+else-is_leap, in_default-via-in_default-1}
use Rattle.calendar.proofs.make.length_of_month.Goals as goal

-- the months' lengths in a common year, January first
abbrev common_year : List ℕ
common_year = 31 ∷ 28 ∷ 31 ∷ 30 ∷ 31 ∷ 30 ∷ 31 ∷ 31 ∷ 30 ∷ 31 ∷ 30 ∷ 31 ∷ []

same_test : Bool → ℕ → Bool
same_test b m = eqb m 2 || eqb (slice_index_or {A = ℕ} common_year (m - 1) 0) (month_length b m)

every_month : (b : Bool) (m : ℕ) → 1 ≤ m → m ≤ 12 → T (same_test b m)
unfolding same_test month_length
every_month true m l h = scanned (same_test true) 1 12 tt m l (omega arith)
every_month false m l h = scanned (same_test false) 1 12 tt m l (omega arith)

-- the months but February are as long in a leap year
other_month : (b : Bool) (m : ℕ) → 1 ≤ m → m ≤ 12 → m ≢ 2 → slice_index_or {A = ℕ} common_year (m - 1) 0 ≡ month_length b m
unfolding same_test
other_month b m l h d = eqb→eq _ (month_length b m) (rw (ne_eqb m 2 d) at (every_month b m l h))

pub returns-in-2 : goal.returns-in-2
unfolding month_length
returns-in-2 c = rw (c.in-2.is, sym c.is_leap.ensures ∙ c.if-is_leap.true)

pub returns-in_default : goal.returns-in_default
unfolding month_length
returns-in_default c = elim c.in_default.branch [
  | in_default-via-in-2+else-is_leap w ↦ rw (c.from.ensures, w.in-2.is, sym w.is_leap.ensures ∙ w.if-is_leap.false)
  | in_default-via-in_default-1 w ↦
      let d : c.args.month ≢ 2 = omega arith in
      rw c.from.ensures (search (rules, other_month))
]
