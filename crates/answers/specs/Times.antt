-- A time of day by its unit and its value.
use Rattle.std.specs.Prelude.{ℤ, Some, None, Option, FitsSigned}
use Rattle.std.specs.Int.{w32}
use Rattle.truncation.specs.declared.unit.TimeUnit.{TimeUnit}
use Rattle.truncation.specs.declared.unit.TimeUnit.TheVariants.{Second, Millisecond, Microsecond, Nanosecond}
use Rattle.answers.specs.declared.times.Time.{Time}
use Rattle.answers.specs.declared.times.Time.TheVariants.{Seconds, Millis, Micros, Nanos}

abbrev pub unit_of : Time → TimeUnit
unit_of (Seconds v) = Second
unit_of (Millis v) = Millisecond
unit_of (Micros v) = Microsecond
unit_of (Nanos v) = Nanosecond

abbrev pub value_of : Time → Option ℤ
value_of (Seconds v) = v
value_of (Millis v) = v
value_of (Micros v) = v
value_of (Nanos v) = v

-- a value of 32 bits, or none
abbrev pub Narrow : Option ℤ → Type 0
Narrow None = Unit {0}
Narrow (Some v) = FitsSigned w32 v

-- a unit's time of day can have the value
abbrev pub Holds : TimeUnit → Option ℤ → Type 0
Holds Second v = Narrow v
Holds Millisecond v = Narrow v
Holds Microsecond v = Unit {0}
Holds Nanosecond v = Unit {0}
