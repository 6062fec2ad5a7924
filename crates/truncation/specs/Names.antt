-- The names of the granularities, and how a name is read.
use Rattle.std.specs.Prelude.{◌≡◌, ℕ, zero, suc, Bool, cond, ◌&&◌, List, [], ◌∷◌, Ok, Err, codes, Result, ◌==◌, ◌≢◌, slice_index}
use Rattle.std.specs.Char.{to_ascii_lowercase}
use Rattle.calendar.specs.declared.fault.Fault.{Fault}
use Rattle.calendar.specs.Faults.{found}
use Rattle.calendar.specs.declared.fault.Cause.TheVariants.{UnknownName}
use Rattle.calendar.specs.declared.fault.Layer.TheVariants.{Truncation}
use Rattle.truncation.specs.declared.granularity.Granularity.{Granularity}
use Rattle.truncation.specs.declared.granularity.Granularity.TheVariants.{Microsecond, Millisecond, Second, Minute, Hour, Day, Week, Month, Quarter, Year}

-- the Kelvin sign stands in front: E2 84 AA
abbrev pub kelvin : List ℕ → Bool
kelvin bs = slice_index bs 0 == 226 && (slice_index bs 1 == 132 && slice_index bs 2 == 170)

-- the letters of a name lowered, and the sign as k; n bytes of a sign are still to pass over
unfoldable pub folded_past : ℕ → List ℕ → List ℕ
folded_past n [] = []
folded_past (suc n) (b ∷ bs) = folded_past n bs
folded_past zero (b ∷ bs) = cond (kelvin (b ∷ bs)) (107 ∷ folded_past 2 bs) (to_ascii_lowercase b ∷ folded_past 0 bs)

abbrev pub folded : List ℕ → List ℕ
folded bs = folded_past 0 bs

abbrev pub name_of : Granularity → List ℕ
name_of Microsecond = codes "microsecond"
name_of Millisecond = codes "millisecond"
name_of Second = codes "second"
name_of Minute = codes "minute"
name_of Hour = codes "hour"
name_of Day = codes "day"
name_of Week = codes "week"
name_of Month = codes "month"
name_of Quarter = codes "quarter"
name_of Year = codes "year"

-- the granularity whose name it is, or 1 exactly where it is none of the ten
abbrev pub Read : List ℕ → Result Granularity Fault → Type 0
Read name (Ok g) = folded name ≡ name_of g
Read name (Err e) = ((g : Granularity) → folded name ≢ name_of g) × (e ≡ found UnknownName Truncation)
