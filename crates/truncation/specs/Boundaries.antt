-- The boundaries of each granularity: the first instants of its spans, in nanoseconds, over all integers.
use Rattle.std.specs.Prelude.{ℤ}
use Rattle.arith.specs.Greatest.{GreatestNotAfter, MultipleOf, TimesOne}
use Rattle.arith.specs.Instants.{reading_of, InstantOf}
use Rattle.arith.specs.Periods.{IsFirstDay}
use Rattle.arith.specs.Weekdays.{IsMonday}
use Rattle.truncation.specs.declared.granularity.Granularity.{Granularity}
use Rattle.truncation.specs.declared.granularity.Granularity.TheVariants.{Microsecond, Millisecond, Second, Minute, Hour, Day, Week, Month, Quarter, Year}

-- the first instant of a day with the property P
abbrev pub MidnightOf : (ℤ → Type 0) → ℤ → Type 0
MidnightOf P = TimesOne P 86_400_000_000_000

abbrev pub Boundary : Granularity → ℤ → Type 0
Boundary Microsecond = MultipleOf 1_000
Boundary Millisecond = MultipleOf 1_000_000
Boundary Second = MultipleOf 1_000_000_000
Boundary Minute = MultipleOf 60_000_000_000
Boundary Hour = MultipleOf 3_600_000_000_000
Boundary Day = MultipleOf 86_400_000_000_000
Boundary Week = MidnightOf IsMonday
Boundary Month = MidnightOf (IsFirstDay 1)
Boundary Quarter = MidnightOf (IsFirstDay 3)
Boundary Year = MidnightOf (IsFirstDay 12)

-- a is the truncation of the instant t on the clock: the instant of the boundary of what the clock shows at t
pub record OnClock (offset : ℤ → ℤ) (g : Granularity) (t a : ℤ) : Type 0 where
  pub boundary : ℤ
  pub greatest : GreatestNotAfter (Boundary g) (reading_of offset t) boundary
  pub instant : InstantOf offset t boundary a
