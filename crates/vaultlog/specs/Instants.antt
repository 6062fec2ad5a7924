-- Dates and times of day by their parts.
use Rattle.std.specs.Prelude.{◌≡◌, ℕ, ◌+◌, ◌*◌, ◌<◌, ◌⊎◌, ℤ, pos, FitsSigned, ◌≢◌}
use Rattle.std.specs.Int.{w64}
use Rattle.arith.specs.Gregorian.{IsDate, InYears}
use Rattle.calendar.specs.Faults.{outside_calendar}
use Rattle.calendar.specs.declared.date_time.DateTime.{DateTime}
use Rattle.truncation.specs.Units.{nanos}
use Rattle.truncation.specs.declared.unit.TimeUnit.{TimeUnit}
use Rattle.vaultlog.specs.declared.instant.Parts.{Parts}
use Rattle.vaultlog.specs.declared.instant.TimeParts.{TimeParts}
use Rattle.vaultlog.specs.declared.row.NotRead.{NotRead}
use Rattle.vaultlog.specs.declared.row.NotRead.TheVariants.{NoSuchDate, NoSuchTime, FinerThanUnit, OutsideUnit}

-- nanoseconds since midnight
abbrev pub since_midnight : TimeParts → ℕ
since_midnight t = (t.hour * 3600 + t.minute * 60 + t.second) * 1000000000 + t.nanos

abbrev pub IsTime : TimeParts → Type 0
IsTime t = (t.hour < 24) × (t.minute < 60) × (t.second < 60) × (t.nanos < 1000000000)

abbrev pub HasDate : Parts → Type 0
HasDate p = InYears p.year × IsDate p.year p.month p.day

-- a date-time of just these parts
pub record Holds (p : Parts) (t : DateTime) : Type 0 where
  pub year : pos t.date.year ≡ p.year
  pub month : t.date.month ≡ p.month
  pub day : t.date.day ≡ p.day
  pub time : t.nanos ≡ since_midnight p.time

-- why parts are no date-time
abbrev pub NoDateTime : Parts → NotRead → Type 0
NoDateTime p e = ((HasDate p → ⊥) × (e ≡ NoSuchDate outside_calendar)) ⊎ ((IsTime p.time → ⊥) × (e ≡ NoSuchTime))

-- why an instant is no number of 64 bits in the unit: it is no whole number of units, or a number beyond 64 bits
abbrev pub NotInUnit : TimeUnit → ℤ → NotRead → Type 0
NotInUnit u t e = (((v : ℤ) → nanos u v ≢ t) × (e ≡ FinerThanUnit)) ⊎ (((v : ℤ) × ((nanos u v ≡ t) × (FitsSigned w64 v → ⊥))) × (e ≡ OutsideUnit))
