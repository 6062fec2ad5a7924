-- Where a reading stands on a clock: at the seconds that have it, or else where the clock passes it.
use Rattle.std.specs.Prelude.{◌≡◌, Bool, ℤ, pos, ◌+ℤ◌, ◌-ℤ◌, ◌<ℤ◌, Ok, Err, Decides, Result}
use Rattle.arith.specs.Clock.{reads, SkippedBy, Passes, ShownOnce, ShownTwice}
use Rattle.calendar.specs.Faults.{found}
use Rattle.calendar.specs.declared.fault.Cause.TheVariants.{OutsideSpan}
use Rattle.calendar.specs.declared.fault.Fault.{Fault}
use Rattle.calendar.specs.declared.fault.Layer.TheVariants.{Zone}
use Rattle.zone.specs.Spans.{InSpan}
use Rattle.zone.specs.declared.seek.Place.{Place}
use Rattle.zone.specs.declared.seek.Place.TheVariants.{One, Two, Passed}

-- a zone can be asked about every second at which a clock may pass r
pub record WithinReach (r : ℤ) : Type 0 where
  pub from : InSpan (r -ℤ pos 86_341)
  pub to : InSpan (r +ℤ pos 86_341)

abbrev pub Stands : (ℤ → ℤ) → ℤ → Place → Type 0
Stands offset r (One a) = ShownOnce offset r a
Stands offset r (Two a b) = ShownTwice offset r a b
Stands offset r (Passed s) = SkippedBy offset r × Passes offset r s

-- the place of a reading, or 16 exactly out of reach
abbrev pub PlaceAnswer : (ℤ → ℤ) → ℤ → Result Place Fault → Type 0
PlaceAnswer offset r (Ok place) = WithinReach r × Stands offset r place
PlaceAnswer offset r (Err e) = (WithinReach r → ⊥) × (e ≡ found OutsideSpan Zone)

-- of a working function: whether the clock reads later than r at s
abbrev pub LaterAnswer : (ℤ → ℤ) → ℤ → ℤ → Result Bool Fault → Type 0
LaterAnswer offset s r (Ok later) = InSpan s × Decides later (r <ℤ reads offset s)
LaterAnswer offset s r (Err e) = (InSpan s → ⊥) × (e ≡ found OutsideSpan Zone)
