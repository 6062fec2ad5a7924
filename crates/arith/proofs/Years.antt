-- Leap years and the starts of years, by floors.
use Rattle.std.proofs.Common.{◌≡◌, ℕ, zero, suc, ◌+◌, ◌*◌, ◌<◌, Bool, true, false, cond, eqb, ◌⊎◌, ℤ, pos, negsuc, ◌+ℤ◌, refl, inl, inr, arith, lit<}
use borrow.Author.Differences.{ints, up, down}
use lib.IntN.{pred_ℤ, suc_ℤ, pred-suc}
use Rattle.std.proofs.lemmas.Bool.{cases_eq, eq-eqb, ne_eqb}
use Rattle.arith.proofs.Floors.{rem, floor_step, pred_is}
use Rattle.arith.specs.Gregorian.{leap, floor_div, days_in_years, year_start, year_length}

-- what a leap year is, by remainders
abbrev pub LeapBy : ℕ → ℕ → ℕ → Bool → Type 0
LeapBy r4 r100 r400 true = ((r100 ≡ 0) × (r400 ≡ 0)) ⊎ ((0 < r100) × (r4 ≡ 0))
LeapBy r4 r100 r400 false = ((r100 ≡ 0) × (0 < r400)) ⊎ ((0 < r100) × (0 < r4))

leap_by : (r4 r100 r400 : ℕ) → LeapBy r4 r100 r400 (cond (eqb r100 0) (eqb r400 0) (eqb r4 0))
leap_by r4 r100 r400 = elim (cases_eq r100 0) [
  | inl a ↦ elim (cases_eq r400 0) [
    | inl b ↦ rw (eq-eqb r100 0 a, eq-eqb r400 0 b) (inl (a, b))
    | inr b ↦ rw (eq-eqb r100 0 a, ne_eqb r400 0 b) (inl (a, omega arith))
  ]
  | inr a ↦ elim (cases_eq r4 0) [
    | inl b ↦ rw (ne_eqb r100 0 a, eq-eqb r4 0 b) (inr (omega arith, b))
    | inr b ↦ rw (ne_eqb r100 0 a, ne_eqb r4 0 b) (inr (omega arith, omega arith))
  ]
]

pub leap_is : (y : ℤ) → LeapBy (rem y 4) (rem y 100) (rem y 400) (leap y)
unfolding leap
leap_is y = leap_by (rem y 4) (rem y 100) (rem y 400)

-- the days in n years, for `omega`
pub days_is : (n : ℤ) → up (days_in_years n) + 365 * down n + down (floor_div n 4) + up (floor_div n 100) + down (floor_div n 400) ≡ down (days_in_years n) + 365 * up n + up (floor_div n 4) + down (floor_div n 100) + up (floor_div n 400)
unfolding days_in_years
days_is n = omega (arith, ints)

-- a multiple of 100 is one of 4, and a multiple of 400 one of 100
multiples : (y : ℤ) → ((0 < rem y 100) ⊎ (rem y 4 ≡ 0)) × ((0 < rem y 400) ⊎ (rem y 100 ≡ 0))
multiples y = (either (rem y 100) (rem y 4) (four y), either (rem y 400) (rem y 100) (hundred y))
  where
    four : (y : ℤ) → rem y 100 ≡ 0 → rem y 4 ≡ 0
    four (pos n) e = omega arith
    four (negsuc n) e = omega arith

    hundred : (y : ℤ) → rem y 400 ≡ 0 → rem y 100 ≡ 0
    hundred (pos n) e = omega arith
    hundred (negsuc n) e = omega arith

    either : (a b : ℕ) → (a ≡ 0 → b ≡ 0) → (0 < a) ⊎ (b ≡ 0)
    either zero b f = inr (f refl)
    either (suc a) b f = inl (omega arith)

next_at : (y : ℤ) (b : Bool) → LeapBy (rem y 4) (rem y 100) (rem y 400) b → days_in_years y ≡ days_in_years (pred_ℤ y) +ℤ pos (year_length b)
next_at y true l =
    let m = multiples y in
    omega (arith, ints, days_is y, days_is (pred_ℤ y), floor_step y 4 (lit< tt), floor_step y 100 (lit< tt), floor_step y 400 (lit< tt), pred_is y)
next_at y false l =
    let m = multiples y in
    omega (arith, ints, days_is y, days_is (pred_ℤ y), floor_step y 4 (lit< tt), floor_step y 100 (lit< tt), floor_step y 400 (lit< tt), pred_is y)

pub days_next : (y : ℤ) → days_in_years y ≡ days_in_years (pred_ℤ y) +ℤ pos (year_length (leap y))
days_next y = next_at y (leap y) (leap_is y)

pub next_year_lem : (y : ℤ) → year_start (suc_ℤ y) ≡ year_start y +ℤ pos (year_length (leap y))
unfolding year_start
next_year_lem y = let e = days_next y in rw (pred-suc y, e) (omega (arith, ints))
