-- How instants are written: 2024-02-29, or 2024-02-29T12:34Z, with seconds if wanted, and those with a fraction of one to nine digits.
use Rattle.std.specs.Prelude.{◌≡◌, ℕ, ◌<◌, ◌≤◌, ◌⊎◌, List, [], ◌∷◌, ◌++◌, length, drop, pos, slice_index, slice_index_or}
use Rattle.vaultlog.specs.Digits.{IsDigit, AllDigits, two_of, four_of, first_of}
use Rattle.vaultlog.specs.declared.instant.Parts.{Parts}
use Rattle.vaultlog.specs.declared.instant.TimeParts.{TimeParts}

-- two digits and their number
pub record Two (a b n : ℕ) : Type 0 where
  pub tens : IsDigit a
  pub ones : IsDigit b
  pub number : n ≡ two_of a b

pub record Four (a b c d n : ℕ) : Type 0 where
  pub thousands : IsDigit a
  pub hundreds : IsDigit b
  pub tens : IsDigit c
  pub ones : IsDigit d
  pub number : n ≡ four_of a b c d

-- the nanoseconds of a fraction of a second
pub record Fraction (ds : List ℕ) (n : ℕ) : Type 0 where
  pub some : 0 < length ds
  pub most : length ds ≤ 9
  pub digits : AllDigits ds
  pub number : n ≡ first_of ds 9

pub record NoSeconds (bs : List ℕ) (s n : ℕ) : Type 0 where
  pub nothing : length bs ≡ 0
  pub second : s ≡ 0
  pub whole : n ≡ 0

pub record WholeSeconds (bs : List ℕ) (s n : ℕ) : Type 0 where
  pub size : length bs ≡ 3
  pub colon : slice_index_or bs 0 0 ≡ 58
  pub second : Two (slice_index bs 1) (slice_index bs 2) s
  pub whole : n ≡ 0

pub record SplitSeconds (bs : List ℕ) (s n : ℕ) : Type 0 where
  pub size : 4 ≤ length bs
  pub colon : slice_index_or bs 0 0 ≡ 58
  pub second : Two (slice_index bs 1) (slice_index bs 2) s
  pub point : slice_index_or bs 3 0 ≡ 46
  pub fraction : Fraction (drop 4 bs) n

-- what stands after the minutes
abbrev pub Seconds : List ℕ → ℕ → ℕ → Type 0
Seconds bs s n = NoSeconds bs s n ⊎ (WholeSeconds bs s n ⊎ SplitSeconds bs s n)

-- a time of day
pub record Clock (bs : List ℕ) (t : TimeParts) : Type 0 where
  pub size : 5 ≤ length bs
  pub hour : Two (slice_index bs 0) (slice_index bs 1) t.hour
  pub colon : slice_index_or bs 2 0 ≡ 58
  pub minute : Two (slice_index bs 3) (slice_index bs 4) t.minute
  pub seconds : Seconds (drop 5 bs) t.second t.nanos

abbrev pub midnight : TimeParts
midnight = record { hour = 0; minute = 0; second = 0; nanos = 0 }

-- T, a time of day, and Z
pub record AtTime (bs : List ℕ) (t : TimeParts) : Type 0 where
  pub time : List ℕ
  pub whole : bs ≡ 84 ∷ (time ++ (90 ∷ []))
  pub clock : Clock time t

-- what stands after a date
abbrev pub AfterDate : List ℕ → TimeParts → Type 0
AfterDate bs t = ((length bs ≡ 0) × (t ≡ midnight)) ⊎ AtTime bs t

-- the text of an instant
pub record Spelled (bs : List ℕ) (p : Parts) : Type 0 where
  pub size : 10 ≤ length bs
  pub year : (y : ℕ) × Four (slice_index bs 0) (slice_index bs 1) (slice_index bs 2) (slice_index bs 3) y × (p.year ≡ pos y)
  pub first : slice_index_or bs 4 0 ≡ 45
  pub month : Two (slice_index bs 5) (slice_index bs 6) p.month
  pub second : slice_index_or bs 7 0 ≡ 45
  pub day : Two (slice_index bs 8) (slice_index bs 9) p.day
  pub time : AfterDate (drop 10 bs) p.time
