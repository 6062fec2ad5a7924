-- Moments in nanoseconds, and the words of the working functions on them.
use Rattle.std.specs.Prelude.{◌≡◌, ℕ, ◌⊎◌, ℤ, pos, ◌+ℤ◌, ◌*ℤ◌, neg_ℤ, ◌≤ℤ◌, ◌≢◌}
use Rattle.std.specs.Int.{int_div_euclid}
use Rattle.zone.specs.declared.seek.Place.{Place}
use Rattle.zone.specs.declared.seek.Place.TheVariants.{One, Two, Passed}
use Rattle.truncation.specs.declared.moment.Moment.{Moment}

abbrev pub nanos_of : Moment → ℤ
nanos_of m = pos 1_000_000_000 *ℤ m.second +ℤ pos m.nanos

-- the number of a moment's day
abbrev pub day_of : Moment → ℤ
day_of m = int_div_euclid m.second (pos 86_400)

-- the lengths in nanoseconds of the parts of a second to which instants are cut
abbrev pub PartOfSecond : ℕ → Type 0
PartOfSecond k = (k ≡ 1_000) ⊎ (k ≡ 1_000_000)

-- the lengths in whole seconds to which instants are cut
abbrev pub WholeSeconds : ℕ → Type 0
WholeSeconds k = (k ≡ 1) ⊎ ((k ≡ 60) ⊎ ((k ≡ 3_600) ⊎ (k ≡ 86_400)))

-- the seconds of all instants of 64 bits of nanoseconds
abbrev pub OfRange : ℤ → Type 0
OfRange s = (neg_ℤ (pos 9_223_372_037) ≤ℤ s) × (s ≤ℤ pos 9_223_372_036)

-- and all that a clock can show at them
abbrev pub Near : ℤ → Type 0
Near s = (neg_ℤ (pos 9_223_460_000) ≤ℤ s) × (s ≤ℤ pos 9_223_460_000)

-- days whose seconds are numbers of 64 bits by far
abbrev pub InReach : ℤ → Type 0
InReach d = (neg_ℤ (pos 1_000_000) ≤ℤ d) × (d ≤ℤ pos 1_000_000)

-- the second of a boundary that stands at a place: of two, the first if that is x, else the second
abbrev pub Chosen : ℤ → Place → ℤ → Type 0
Chosen x (One a) s = s ≡ a
Chosen x (Two a b) s = (a ≡ x → s ≡ a) × ((a ≢ x) → s ≡ b)
Chosen x (Passed p) s = s ≡ p
