-- Units, by the nanoseconds in one of them, and by their symbols.
use Rattle.std.specs.Prelude.{◌≡◌, ℕ, List, codes, ℤ, pos, ◌*ℤ◌}
use Rattle.truncation.specs.declared.unit.TimeUnit.{TimeUnit}
use Rattle.truncation.specs.declared.unit.TimeUnit.TheVariants.{Second, Millisecond, Microsecond, Nanosecond}

abbrev pub scale : TimeUnit → ℕ
scale Second = 1_000_000_000
scale Millisecond = 1_000_000
scale Microsecond = 1_000
scale Nanosecond = 1

abbrev pub scale_of : TimeUnit → ℤ
scale_of u = pos (scale u)

-- the symbols of units
abbrev pub symbol_of : TimeUnit → List ℕ
symbol_of Second = codes "s"
symbol_of Millisecond = codes "ms"
symbol_of Microsecond = codes "us"
symbol_of Nanosecond = codes "ns"

-- a value in nanoseconds
abbrev pub nanos : TimeUnit → ℤ → ℤ
nanos u v = v *ℤ scale_of u

-- an instant that is so many whole units
abbrev pub InUnits : TimeUnit → ℤ → Type 0
InUnits u t = (n : ℤ) × (t ≡ nanos u n)

-- whole units stay whole units, whichever they are
abbrev pub KeepsUnits : ℤ → ℤ → Type 0
KeepsUnits t a = (u : TimeUnit) → InUnits u t → InUnits u a
