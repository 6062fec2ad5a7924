-- The number of a date of the years 1 to 9999 lies in the span, and keeps the calendar's laws.
use Rattle.std.proofs.Common.{◌≡◌, ℤ, pos, ◌∙◌, arith, FitsSigned, w64, to_z, of_z}
use borrow.Author.Differences.{ints}
use Rattle.std.proofs.lemmas.Int.{to_z-of_z}
use Rattle.arith.proofs.Order.{numbered, in_span}
use Rattle.calendar.proofs.Dates.{is_date}
use Rattle.calendar.proofs.date.Date.day.Goals as goal

-- the number, as it was computed
module _ (n r : ℤ) (v : FitsSigned w64 r) (e : r ≡ n) where
  computed : to_z w64 (of_z w64 r) ≡ n
  computed = to_z-of_z w64 r v ∙ e

pub invariant_of-result : goal.invariant_of-result
invariant_of-result c =
    let t = c.args.self in
    let e = computed _ _ (record { sfits = c.march_number.type_inv }) c.march_number.ensures in
    record { in_span = rw e (in_span (pos t.year) t.month t.day (omega (arith, ints), omega (arith, ints)) (is_date t)) }

pub returns-clause-laws : goal.returns-clause-laws
returns-clause-laws c =
    let t = c.args.self in
    numbered (pos t.year) t.month t.day _ (is_date t) (computed _ _ (record { sfits = c.march_number.type_inv }) c.march_number.ensures)
