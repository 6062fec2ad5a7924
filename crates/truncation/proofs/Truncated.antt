-- What the boundary of a value says of its truncation.
use Rattle.std.proofs.Common.{◌≡◌, ◌^◌, ℤ, pos, ◌*ℤ◌, neg_ℤ, ◌≤ℤ◌, Ok, Err, Result, sym, ap, ◌∙◌, subst, arith}
use Rattle.std.proofs.lemmas.Int.{ints, by_lt_z}
use Rattle.std.specs.Int.{int_div_euclid}
use Rattle.arith.specs.Greatest.{GreatestNotAfter}
use Rattle.arith.specs.Instants.{reading_of, second_of, OnlyOne}
use Rattle.calendar.specs.Faults.{found}
use Rattle.calendar.specs.declared.fault.Fault.{Fault}
use Rattle.calendar.specs.declared.fault.Cause.TheVariants.{TruncatedOutsideRange}
use Rattle.calendar.specs.declared.fault.Layer.TheVariants.{Truncation}
use Rattle.truncation.specs.Boundaries.{Boundary, OnClock}
use Rattle.truncation.specs.Truncations.{Fits, BelowRange, Cut, CutOn}
use Rattle.truncation.specs.Units.{InUnits, nanos, scale_of}
use Rattle.truncation.specs.declared.granularity.Granularity.{Granularity}
use Rattle.truncation.specs.declared.unit.TimeUnit.{TimeUnit}
use Rattle.truncation.proofs.WholeUnits.{divides_back}

module _ (offset : ℤ → ℤ) (u : TimeUnit) (g : Granularity) (t a : ℤ) (cut : OnlyOne (OnClock offset g t) a) where
  pub on_ok : (r : ℤ) → InUnits u a → Fits a → r ≡ int_div_euclid a (scale_of u) → CutOn offset u g t (Ok r)
  on_ok r w f e =
      let d : a ≡ nanos u r = sym (divides_back u a w) ∙ ap (λ z. z *ℤ scale_of u) (sym e) in
      (subst Fits d f, subst (OnlyOne (OnClock offset g t)) d cut)

  pub on_outside : (e : Fault) → (Fits a → ⊥) → e ≡ found TruncatedOutsideRange Truncation → CutOn offset u g t (Err e)
  on_outside e n k = record { start = a; cut = cut; outside = n; fault = k }

-- on the clock of UTC the truncation of an instant is its boundary
module _ (offset : ℤ → ℤ) (utc : (s : ℤ) → offset s ≡ pos 0) (u : TimeUnit) (g : Granularity) (t : ℤ) where
  same_reading : (x : ℤ) → reading_of offset x ≡ x
  same_reading x = let e = utc (second_of x) in omega (arith, ints)

  boundary_of : (a : ℤ) → OnClock offset g t a → GreatestNotAfter (Boundary g) t a
  boundary_of a c =
      let b = c.boundary in
      let e : a ≡ b = sym (same_reading a) ∙ c.instant.shown (b, same_reading b) in
      rw e (rw (same_reading t) at c.greatest)

  -- it is not after a number of 64 bits, so it can only lie below
  below : (b : ℤ) → Fits t → b ≤ℤ t → (Fits b → ⊥) → BelowRange b
  below b f l n = by_lt_z b (neg_ℤ (pos (2 ^ 63))) (λ h. h) (λ h. absurd (n (omega (arith, ints))))

  pub in_utc : (r : Result ℤ Fault) → Fits t → CutOn offset u g t r → Cut u g t r
  in_utc (Ok r) f (k, c) = (k, boundary_of (nanos u r) c.is_one)
  in_utc (Err e) f o =
      let b = boundary_of o.start o.cut.is_one in
      ((o.start, (b, below o.start f b.not_after o.outside)), o.fault)
