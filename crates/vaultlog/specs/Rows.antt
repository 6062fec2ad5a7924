-- What a row of the log says: a number in the unit, an instant, or nothing.
use Rattle.std.specs.Prelude.{◌≡◌, ℕ, ◌⊎◌, List, ℤ, Some, None, Ok, Err, codes, Option, Result, FitsSigned}
use Rattle.std.specs.Int.{w64}
use Rattle.std.specs.Str.Parse.{IsNumeral, without_leading_sign, signed_digits_value}
use Rattle.calendar.specs.DateTimes.{instant_of}
use Rattle.calendar.specs.declared.date_time.DateTime.{DateTime}
use Rattle.truncation.specs.Units.{nanos}
use Rattle.truncation.specs.declared.unit.TimeUnit.{TimeUnit}
use Rattle.vaultlog.specs.Instants.{Holds, NoDateTime, NotInUnit}
use Rattle.vaultlog.specs.Spelling.{Spelled}
use Rattle.vaultlog.specs.declared.instant.Parts.{Parts}
use Rattle.vaultlog.specs.declared.row.NotRead.{NotRead}
use Rattle.vaultlog.specs.declared.row.NotRead.TheVariants.{NoRow, NumberTooBig}

-- digits, after a sign or none
abbrev pub IsNumber : List ℕ → Type 0
IsNumber bs = IsNumeral 10 (without_leading_sign bs)

abbrev pub number_of : List ℕ → ℤ
number_of bs = signed_digits_value 10 bs

-- the text of an instant that is v units
pub record AtInstant (u : TimeUnit) (bs : List ℕ) (v : ℤ) : Type 0 where
  pub parts : Parts
  pub at : DateTime
  pub spelled : Spelled bs parts
  pub holds : Holds parts at
  pub instant : nanos u v ≡ instant_of at

-- the text of a date or a time of day that does not exist
pub record NoneSuch (bs : List ℕ) (e : NotRead) : Type 0 where
  pub parts : Parts
  pub spelled : Spelled bs parts
  pub why : NoDateTime parts e

-- the text of an instant that is no number of 64 bits in the unit
pub record Unfit (u : TimeUnit) (bs : List ℕ) (e : NotRead) : Type 0 where
  pub parts : Parts
  pub at : DateTime
  pub spelled : Spelled bs parts
  pub holds : Holds parts at
  pub why : NotInUnit u (instant_of at) e

abbrev pub NoInstant : TimeUnit → List ℕ → NotRead → Type 0
NoInstant u bs e = (((p : Parts) → Spelled bs p → ⊥) × (e ≡ NoRow)) ⊎ (NoneSuch bs e ⊎ Unfit u bs e)

abbrev pub ReadAs : TimeUnit → List ℕ → Result (Option ℤ) NotRead → Type 0
ReadAs u bs (Ok None) = bs ≡ codes "-"
ReadAs u bs (Ok (Some v)) = (IsNumber bs × (v ≡ number_of bs)) ⊎ AtInstant u bs v
ReadAs u bs (Err e) = ((IsNumber bs × (FitsSigned w64 (number_of bs) → ⊥)) × (e ≡ NumberTooBig)) ⊎ ((IsNumber bs → ⊥) × NoInstant u bs e)
