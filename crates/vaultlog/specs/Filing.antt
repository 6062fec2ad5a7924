-- The rows under each start, and what filing a row changes.
use Rattle.std.specs.Prelude.{◌≡◌, ℕ, ◌+◌, List, Some, ℤ, sum, ◌≢◌}
use Rattle.std.specs.BTreeMap.{BTreeMap, get, values}
use Rattle.std.specs.List.Sorted.{IsStrictlySortedBy}
use Rattle.std.specs.Map.{keys_of}
use Rattle.std.specs.Option.{unwrap_or}
use Rattle.std.specs.Ordering.{int_cmp}

-- starts with their counts, in strictly ascending order of the starts
abbrev pub Ascending : List (ℤ × ℕ) → Type 0
Ascending es = IsStrictlySortedBy int_cmp (keys_of es)

-- all rows
abbrev pub total : BTreeMap ℤ ℕ → ℕ
total m = sum (values m)

-- the rows under one start
abbrev pub under : ℤ → BTreeMap ℤ ℕ → ℕ
under s m = unwrap_or (get int_cmp m s) 0

-- one row more, under s
pub record OneMore (old : BTreeMap ℤ ℕ) (s : ℤ) (new : BTreeMap ℤ ℕ) : Type 0 where
  pub rows : total new ≡ total old + 1
  pub here : get int_cmp new s ≡ Some (under s old + 1)
  pub others : (t : ℤ) → (t ≢ s) → get int_cmp new t ≡ get int_cmp old t
