-- What the two questions answer, of a clock by its offsets.
use Rattle.std.specs.Prelude.{◌≡◌, ℤ, Ok, Err, Result}
use Rattle.arith.specs.Clock.{SkippedBy, ShownOnce, ShownTwice}
use Rattle.calendar.specs.Faults.{found}
use Rattle.calendar.specs.declared.fault.Cause.TheVariants.{OutsideSpan}
use Rattle.calendar.specs.declared.fault.Fault.{Fault}
use Rattle.calendar.specs.declared.fault.Layer.TheVariants.{Zone}
use Rattle.zone.specs.Spans.{InSpan}
use Rattle.zone.specs.declared.clock.Instants.{Instants}
use Rattle.zone.specs.declared.clock.Instants.TheVariants.{Skipped, One, Two}

-- the offset at a second, or 16 exactly outside the span
abbrev pub OffsetAnswer : (ℤ → ℤ) → ℤ → Result ℤ Fault → Type 0
OffsetAnswer offset s (Ok o) = InSpan s × (o ≡ offset s)
OffsetAnswer offset s (Err e) = (InSpan s → ⊥) × (e ≡ found OutsideSpan Zone)

-- every second with the reading, and no other
abbrev pub Shows : (ℤ → ℤ) → ℤ → Instants → Type 0
Shows offset r Skipped = SkippedBy offset r
Shows offset r (One a) = ShownOnce offset r a
Shows offset r (Two a b) = ShownTwice offset r a b

-- the seconds with a reading, or 16 exactly outside the span
abbrev pub InstantsAnswer : (ℤ → ℤ) → ℤ → Result Instants Fault → Type 0
InstantsAnswer offset r (Ok seconds) = InSpan r × Shows offset r seconds
InstantsAnswer offset r (Err e) = (InSpan r → ⊥) × (e ≡ found OutsideSpan Zone)
