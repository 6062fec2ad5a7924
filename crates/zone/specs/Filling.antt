-- A zone filled with a table.
use Rattle.std.specs.Prelude.{◌≡◌, List, ℤ, Ok, Err, Result}
use Rattle.calendar.specs.Faults.{found}
use Rattle.calendar.specs.declared.fault.Cause.TheVariants.{UnfitZoneTable}
use Rattle.calendar.specs.declared.fault.Fault.{Fault}
use Rattle.calendar.specs.declared.fault.Layer.TheVariants.{Zone}
use Rattle.zone.specs.Tables.{LawfulTable}
use Rattle.zone.specs.declared.table.Change.{Change}
use Rattle.zone.specs.declared.table.TableZone.{TableZone}

-- the zone has the table afterwards; or 15 exactly where the table is unlawful, and the zone is as it was
abbrev pub FillAnswer : TableZone → ℤ → List Change → TableZone → Result (Unit {0}) Fault → Type 0
FillAnswer before first changes after (Ok _) = LawfulTable first changes × (after.first ≡ first) × (after.changes.now ≡ changes)
FillAnswer before first changes after (Err e) = (LawfulTable first changes → ⊥) × (e ≡ found UnfitZoneTable Zone) × (after ≡ before)
