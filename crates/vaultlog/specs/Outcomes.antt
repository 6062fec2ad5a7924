-- What becomes of a line, and what filing it changes.
use Rattle.std.specs.Prelude.{◌≡◌, ℕ, ◌+◌, ◌-◌, ◌^◌, ◌<◌, ◌≤◌, min, true, false, ◌⊎◌, List, length, ℤ, take, drop, Some, None, Ok, Err, IsUtf8, Option, slice_index}
use Rattle.std.specs.BTreeMap.{BTreeMap, IsUnchanged}
use Rattle.std.specs.Borrow.{Bor}
use Rattle.std.specs.Char.{is_ascii_whitespace}
use Rattle.truncation.specs.Truncations.{Truncated}
use Rattle.truncation.specs.declared.granularity.Granularity.{Granularity}
use Rattle.truncation.specs.declared.unit.TimeUnit.{TimeUnit}
use Rattle.vaultlog.specs.Filing.{OneMore}
use Rattle.vaultlog.specs.Rows.{ReadAs}
use Rattle.vaultlog.specs.declared.log.Outcome.{Outcome}
use Rattle.vaultlog.specs.declared.log.Outcome.TheVariants.{Filed, Empty, Refused, NotRead}
use Rattle.vaultlog.specs.declared.log.Totals.{Totals}
use Rattle.vaultlog.specs.declared.row.NotRead.TheVariants.{NoText}

-- a value is filed under its bucket's start, or refused; an empty row, and a line that is no row, are neither
abbrev pub Becomes : TimeUnit → Granularity → List ℕ → Outcome → Type 0
Becomes u g bs (Filed v s) = ReadAs u bs (Ok (Some v)) × Truncated u g v (Ok s)
Becomes u g bs Empty = ReadAs u bs (Ok None)
Becomes u g bs (Refused v f) = ReadAs u bs (Ok (Some v)) × Truncated u g v (Err f)
Becomes u g bs (NotRead e) = ReadAs u bs (Err e)

-- a row is its line without the white space around it
pub record Trimmed (line row : List ℕ) : Type 0 where
  pub from : ℕ
  pub part : row ≡ take (length row) (drop from line)
  pub before : (i : ℕ) → i < from → is_ascii_whitespace (slice_index line i) ≡ true
  pub first : from < length line → is_ascii_whitespace (slice_index line from) ≡ false
  pub after : (i : ℕ) → length row ≤ i → i < length (drop from line) → is_ascii_whitespace (slice_index (drop from line) i) ≡ true
  pub last : 0 < length row → is_ascii_whitespace (slice_index (drop from line) (length row - 1)) ≡ false

-- a blank row, or a comment
abbrev pub Skipped : List ℕ → Type 0
Skipped row = (length row ≡ 0) ⊎ (slice_index row 0 ≡ 35)

-- a row that is not skipped: its text, if it is text, and what becomes of it
abbrev pub Entered : TimeUnit → Granularity → List ℕ → Option (Bor (List ℕ)) → Outcome → Type 0
Entered u g row (Some text) o = (text.now ≡ row) × Becomes u g row o
Entered u g row None o = (IsUtf8 row → ⊥) × (o ≡ NotRead NoText)

-- the buckets before and after: only a value that is filed changes them
abbrev pub FiledAs : Outcome → BTreeMap ℤ ℕ → BTreeMap ℤ ℕ → Type 0
FiledAs (Filed v s) old new = OneMore old s new
FiledAs Empty old new = IsUnchanged old new
FiledAs (Refused v f) old new = IsUnchanged old new
FiledAs (NotRead e) old new = IsUnchanged old new

-- one more, as far as 64 bits go
abbrev pub one_up : ℕ → ℕ
one_up n = min (n + 1) (2 ^ 64 - 1)

abbrev pub counted : Outcome → Totals → Totals
counted (Filed v s) t = record { filed = one_up t.filed; empty = t.empty; refused = t.refused; not_read = t.not_read }
counted Empty t = record { filed = t.filed; empty = one_up t.empty; refused = t.refused; not_read = t.not_read }
counted (Refused v f) t = record { filed = t.filed; empty = t.empty; refused = one_up t.refused; not_read = t.not_read }
counted (NotRead e) t = record { filed = t.filed; empty = t.empty; refused = t.refused; not_read = one_up t.not_read }
