-- What truncating a timestamp answers.
use Rattle.std.specs.Prelude.{◌≡◌, ◌^◌, ◌⊎◌, ℤ, pos, neg_ℤ, ◌<ℤ◌, Some, None, Ok, Err, Option, Result, FitsSigned}
use Rattle.std.specs.Int.{w64}
use Rattle.arith.specs.Greatest.{GreatestNotAfter}
use Rattle.arith.specs.Instants.{OnlyOne}
use Rattle.calendar.specs.Faults.{found}
use Rattle.calendar.specs.declared.fault.Fault.{Fault}
use Rattle.calendar.specs.declared.fault.Cause.TheVariants.{ValueOutsideScale, TruncatedOutsideRange}
use Rattle.calendar.specs.declared.fault.Layer.TheVariants.{Truncation}
use Rattle.truncation.specs.Boundaries.{Boundary, OnClock}
use Rattle.truncation.specs.Units.{nanos}
use Rattle.truncation.specs.declared.granularity.Granularity.{Granularity}
use Rattle.truncation.specs.declared.unit.TimeUnit.{TimeUnit}

-- a number of 64 bits
abbrev pub Fits : ℤ → Type 0
Fits t = FitsSigned w64 t

-- below all numbers of 64 bits
abbrev pub BelowRange : ℤ → Type 0
BelowRange t = t <ℤ neg_ℤ (pos (2 ^ 63))

-- the value does not scale to 64 bits of nanoseconds
abbrev pub Unscaled : TimeUnit → ℤ → Fault → Type 0
Unscaled u v e = (Fits (nanos u v) → ⊥) × (e ≡ found ValueOutsideScale Truncation)

-- the greatest boundary not after an instant, in the unit; refused exactly where that boundary is below the range
abbrev pub Cut : TimeUnit → Granularity → ℤ → Result ℤ Fault → Type 0
Cut u g t (Ok r) = Fits (nanos u r) × GreatestNotAfter (Boundary g) t (nanos u r)
Cut u g t (Err e) = ((b : ℤ) × (GreatestNotAfter (Boundary g) t b × BelowRange b)) × (e ≡ found TruncatedOutsideRange Truncation)

-- the truncation of an instant on the clock is no number of 64 bits
pub record OutsideOn (offset : ℤ → ℤ) (g : Granularity) (t : ℤ) (e : Fault) : Type 0 where
  pub start : ℤ
  pub cut : OnlyOne (OnClock offset g t) start
  pub outside : Fits start → ⊥
  pub fault : e ≡ found TruncatedOutsideRange Truncation

-- the truncation of an instant on the clock, which is one only, in the unit; refused exactly where it is outside
abbrev pub CutOn : (ℤ → ℤ) → TimeUnit → Granularity → ℤ → Result ℤ Fault → Type 0
CutOn offset u g t (Ok r) = Fits (nanos u r) × OnlyOne (OnClock offset g t) (nanos u r)
CutOn offset u g t (Err e) = OutsideOn offset g t e

-- a value that scales is cut, and one that does not is refused
abbrev pub Truncated : TimeUnit → Granularity → ℤ → Result ℤ Fault → Type 0
Truncated u g v (Ok r) = Fits (nanos u v) × Cut u g (nanos u v) (Ok r)
Truncated u g v (Err e) = Unscaled u v e ⊎ (Fits (nanos u v) × Cut u g (nanos u v) (Err e))

-- and so in a zone with these offsets
abbrev pub TruncatedIn : (ℤ → ℤ) → TimeUnit → Granularity → ℤ → Result ℤ Fault → Type 0
TruncatedIn offset u g v (Ok r) = Fits (nanos u v) × CutOn offset u g (nanos u v) (Ok r)
TruncatedIn offset u g v (Err e) = Unscaled u v e ⊎ (Fits (nanos u v) × CutOn offset u g (nanos u v) (Err e))

-- an empty value stays empty
abbrev pub EachFilled : (ℤ → Result ℤ Fault → Type 0) → Option ℤ → Result (Option ℤ) Fault → Type 0
EachFilled P None r = r ≡ Ok None
EachFilled P (Some v) (Ok (Some r)) = P v (Ok r)
EachFilled P (Some v) (Ok None) = ⊥
EachFilled P (Some v) (Err e) = P v (Err e)
