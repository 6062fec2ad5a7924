-- No year has a month, and no month a day, of more than 32 bits.
use Rattle.std.proofs.Common.{◌≡◌, ◌^◌, ◌<◌, ℤ, pos, FitsSigned, nat_abs, sym, ◌∙◌, subst, arith, rules, w64, to_z, of_z}
use Rattle.std.proofs.lemmas.Int.{to_z-of_z}
use Rattle.std.proofs.lemmas.Result.{OkIff-decides, err_from_is_err_and}
use Rattle.std.specs.Int.{FitsUnsignedBits}
use Rattle.arith.proofs.Months.{march_end}
use Rattle.arith.specs.Gregorian.{leap}
use Rattle.answers.proofs.dates.day_of.Goals as goal

fits : (z : ℤ) → FitsSigned w64 z → z ≡ pos (nat_abs z) → nat_abs z < 2 ^ 32 → FitsUnsignedBits 32 (to_z w64 (of_z w64 z))
fits z r e h = subst (FitsUnsignedBits 32) (sym (to_z-of_z w64 z r ∙ e)) h

pub returns-in_err-month : goal.returns-in_err-month
returns-in_err-month c =
    let p = err_from_is_err_and c.from_residual-in_err-month.result c.from_residual-in_err-month.ensures.1 in
    let narrow = OkIff-decides c.try_from-2.result _ _ c.try_from-2.ensures in
    rw (p.1, p.2) (
      λ h.
          let ok = narrow.1 (fits c.args.month c.ranges.month h.0.0 (omega (arith, h.2.last_month))) in
          cc (ok, c.in_err-month.ensures.variant),
      search rules,
    )

pub returns-in_err-day : goal.returns-in_err-day
returns-in_err-day c =
    let p = err_from_is_err_and c.from_residual-in_err-day.result c.from_residual-in_err-day.ensures.1 in
    let narrow = OkIff-decides c.try_from-3.result _ _ c.try_from-3.ensures in
    rw (p.1, p.2) (
      λ h.
          let end = march_end (leap c.args.year) (nat_abs c.args.month) h.2.first_month h.2.last_month in
          let ok = narrow.1 (fits c.args.day c.ranges.day h.0.1 (omega (arith, end, h.2.last_day))) in
          cc (ok, c.in_err-day.ensures.variant),
      search rules,
    )

pub returns : goal.returns
returns c = search rules
