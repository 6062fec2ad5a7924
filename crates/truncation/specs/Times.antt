-- What truncating a time of day answers.
use Rattle.std.specs.Prelude.{◌≡◌, ℕ, ◌/◌, max, ℤ, pos, neg_ℤ, ◌≤ℤ◌, Some, None, Ok, Err, Option, Result}
use Rattle.arith.specs.Greatest.{GreatestNotAfter, MultipleOf}
use Rattle.calendar.specs.Faults.{found}
use Rattle.calendar.specs.declared.fault.Fault.{Fault}
use Rattle.calendar.specs.declared.fault.Cause.TheVariants.{TimeTooCoarse}
use Rattle.calendar.specs.declared.fault.Layer.TheVariants.{Truncation}
use Rattle.truncation.specs.Units.{scale}
use Rattle.truncation.specs.declared.granularity.Granularity.{Granularity}
use Rattle.truncation.specs.declared.granularity.Granularity.TheVariants.{Microsecond, Millisecond, Second, Minute, Hour, Day, Week, Month, Quarter, Year}
use Rattle.truncation.specs.declared.length.Length.{Length}
use Rattle.truncation.specs.declared.unit.TimeUnit.{TimeUnit}

-- so many nanoseconds in whole units, at least one
abbrev pub whole_units : ℕ → TimeUnit → ℕ
whole_units k u = max 1 (k / scale u)

-- the length of a granularity in units of a time of day, which has no days
abbrev pub units_in : Granularity → TimeUnit → Option ℕ
units_in Microsecond u = Some (whole_units 1_000 u)
units_in Millisecond u = Some (whole_units 1_000_000 u)
units_in Second u = Some (whole_units 1_000_000_000 u)
units_in Minute u = Some (whole_units 60_000_000_000 u)
units_in Hour u = Some (whole_units 3_600_000_000_000 u)
units_in Day u = None
units_in Week u = None
units_in Month u = None
units_in Quarter u = None
units_in Year u = None

-- r is the multiple of k next to v on the way to zero: the greatest not after v, and below zero the mirror image
pub record TowardZero (k : ℕ) (v r : ℤ) : Type 0 where
  pub forward : pos 0 ≤ℤ v → GreatestNotAfter (MultipleOf k) v r
  pub mirrored : v ≤ℤ pos 0 → GreatestNotAfter (MultipleOf k) (neg_ℤ v) (neg_ℤ r)

-- a time of day cut to lengths of k units, by the numbers of its values; an empty value stays empty; where there is no length, whatever the value, it is too coarse
abbrev pub CutTo : {N : Type 0} → (N → ℤ) → Option ℕ → Option N → Result (Option N) Fault → Type 0
CutTo f None v r = r ≡ Err (found TimeTooCoarse Truncation)
CutTo f (Some k) None r = r ≡ Ok None
CutTo f (Some k) (Some v) (Ok (Some r)) = TowardZero k (f v) (f r)
CutTo f (Some k) (Some v) (Ok None) = ⊥
CutTo f (Some k) (Some v) (Err e) = ⊥

abbrev pub TruncatedTimeBy : {N : Type 0} → (N → ℤ) → Granularity → TimeUnit → Option N → Result (Option N) Fault → Type 0
TruncatedTimeBy f g u v r = CutTo f (units_in g u) v r

abbrev pub TruncatedTime : Granularity → TimeUnit → Option ℤ → Result (Option ℤ) Fault → Type 0
TruncatedTime g u v r = TruncatedTimeBy (λ z. z) g u v r

-- what the code asks of a length
abbrev pub LengthAnswer : Option ℕ → Result Length Fault → Type 0
LengthAnswer (Some k) (Ok l) = l.units ≡ pos k
LengthAnswer (Some k) (Err e) = ⊥
LengthAnswer None (Ok l) = ⊥
LengthAnswer None (Err e) = e ≡ found TimeTooCoarse Truncation
