-- What a clock is: one offset in seconds for every whole second of UTC. And what the clock of a zone keeps to.
use Rattle.std.specs.Prelude.{◌≡◌, ◌%◌, ◌⊎◌, ℤ, pos, ◌+ℤ◌, ◌-ℤ◌, neg_ℤ, ◌≤ℤ◌, ◌<ℤ◌, ◌≢◌, unsigned_abs}
use Rattle.arith.specs.Gregorian.{floor_div}

-- what the clock shows at a second: the second plus its offset
abbrev pub reads : (ℤ → ℤ) → ℤ → ℤ
reads offset s = s +ℤ offset s

-- no second has the reading
abbrev pub SkippedBy : (ℤ → ℤ) → ℤ → Type 0
SkippedBy offset r = (s : ℤ) → reads offset s ≢ r

-- a is the only second with the reading
pub record ShownOnce (offset : ℤ → ℤ) (r a : ℤ) : Type 0 where
  pub shown : reads offset a ≡ r
  pub only : (s : ℤ) → reads offset s ≡ r → s ≡ a

-- a and b, ascending, are the only seconds with the reading
pub record ShownTwice (offset : ℤ → ℤ) (r a b : ℤ) : Type 0 where
  pub ascending : a <ℤ b
  pub first : reads offset a ≡ r
  pub second : reads offset b ≡ r
  pub only : (s : ℤ) → reads offset s ≡ r → (s ≡ a) ⊎ (s ≡ b)

-- the clock passes the reading at s: it reads later at s, and earlier at the second before
pub record Passes (offset : ℤ → ℤ) (r s : ℤ) : Type 0 where
  pub earlier : reads offset (s -ℤ pos 1) <ℤ r
  pub later : r <ℤ reads offset s

-- a multiple of 60
abbrev pub WholeMinutes : ℤ → Type 0
WholeMinutes z = unsigned_abs z % 60 ≡ 0

-- a multiple of 60 between −86,340 and 86,340
abbrev pub LawfulOffset : ℤ → Type 0
LawfulOffset o = WholeMinutes o × (neg_ℤ (pos 86_340) ≤ℤ o) × (o ≤ℤ pos 86_340)

-- the whole minute of UTC that holds a second
abbrev pub minute : ℤ → ℤ
minute s = floor_div s 60

pub record Lawful (offset : ℤ → ℤ) : Type 0 where
  pub each : (s : ℤ) → LawfulOffset (offset s)
  -- the offset does not change inside a minute of UTC
  pub steady : (s t : ℤ) → minute s ≡ minute t → offset s ≡ offset t
  -- never three seconds with one reading
  pub twice : (a b c : ℤ) → a <ℤ b → b <ℤ c → reads offset a ≡ reads offset b → reads offset b ≢ reads offset c
  -- a skipped reading is passed at one second
  pub once : (r : ℤ) → SkippedBy offset r → (s : ℤ) × Passes offset r s × ((t : ℤ) → Passes offset r t → t ≡ s)
