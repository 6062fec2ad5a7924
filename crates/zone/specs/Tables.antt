-- A table of changes: what makes it lawful, and the clock that it stands for.
use Rattle.std.specs.Prelude.{ℕ, zero, suc, ◌+◌, ◌<◌, ◌≤◌, cond, List, [], ◌∷◌, length, ℤ, pos, ◌+ℤ◌, ◌≤ℤ◌, ◌<ℤ◌, int_lt, slice_index_or}
use Rattle.arith.specs.Clock.{LawfulOffset, WholeMinutes}
use Rattle.zone.specs.Spans.{InSpan}
use Rattle.zone.specs.declared.table.Change.{Change}

-- the change at a place
abbrev pub nth : List Change → ℕ → Change
nth changes k = slice_index_or changes k (record { second = pos 0; offset = pos 0 })

-- each change comes on a whole minute
abbrev pub OnMinutes : List Change → Type 0
OnMinutes changes = (k : ℕ) → k < length changes → WholeMinutes (nth changes k).second

-- inside the span
abbrev pub Inside : List Change → Type 0
Inside changes = (k : ℕ) → k < length changes → InSpan (nth changes k).second

-- and brings a lawful offset
abbrev pub LawfulOffsets : List Change → Type 0
LawfulOffsets changes = (k : ℕ) → k < length changes → LawfulOffset (nth changes k).offset

-- they ascend, and neighbours stand at least 172,800 seconds apart
abbrev pub Apart : List Change → Type 0
Apart changes = (k : ℕ) → k + 1 < length changes → ((nth changes k).second +ℤ pos 172_800) ≤ℤ (nth changes (k + 1)).second

pub record LawfulTable (first : ℤ) (changes : List Change) : Type 0 where
  pub few : length changes ≤ 256
  pub begins : LawfulOffset first
  pub minutes : OnMinutes changes
  pub inside : Inside changes
  pub offsets : LawfulOffsets changes
  pub apart : Apart changes

-- the clock of a table: the first offset up to the first change, and from there on what the rest of the table says
abbrev pub offset_by : ℤ → List Change → ℤ → ℤ
offset_by first [] s = first
offset_by first (c ∷ changes) s = cond (int_lt s c.second) first (offset_by c.offset changes s)

-- ---- words of the working functions

-- a change is lawful by itself
abbrev pub LawfulChange : Change → Type 0
LawfulChange c = WholeMinutes c.second × InSpan c.second × LawfulOffset c.offset

-- n changes have come at s, and the others have not
pub record Passed (changes : List Change) (s : ℤ) (n : ℕ) : Type 0 where
  pub most : n ≤ length changes
  pub gone : (k : ℕ) → k < n → (nth changes k).second ≤ℤ s
  pub left : (k : ℕ) → n ≤ k → k < length changes → s <ℤ (nth changes k).second

-- the offset after the first n changes
abbrev pub offset_after : ℤ → List Change → ℕ → ℤ
offset_after first changes zero = first
offset_after first changes (suc n) = (nth changes n).offset

-- one offset up to a change, and the change's from there on
abbrev pub switching : ℤ → Change → ℤ → ℤ
switching old c s = cond (int_lt s c.second) old c.offset
