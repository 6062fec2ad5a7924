-- A boundary of a value in whole units is in whole units.
use Rattle.std.proofs.Common.{◌≡◌, ◌<◌, ℤ, pos, ◌+ℤ◌, ◌*ℤ◌, sym, refl, ap, ◌∙◌, arith, lit<}
use Rattle.std.proofs.lemmas.Int.{ints}
use Rattle.std.specs.Int.{int_div_euclid}
use Rattle.arith.proofs.Multiples.{whole_quotient}
use Rattle.arith.specs.Greatest.{GreatestNotAfter}
use Rattle.truncation.specs.Boundaries.{Boundary}
use Rattle.truncation.specs.Units.{InUnits, nanos, scale, scale_of}
use Rattle.truncation.specs.declared.granularity.Granularity.{Granularity}
use Rattle.truncation.specs.declared.granularity.Granularity.TheVariants.{Microsecond, Millisecond, Second, Minute, Hour, Day, Week, Month, Quarter, Year}
use Rattle.truncation.specs.declared.unit.TimeUnit.{TimeUnit}
use Rattle.truncation.specs.declared.unit.TimeUnit.TheVariants.{Second as Seconds, Millisecond as Milliseconds, Microsecond as Microseconds, Nanosecond as Nanoseconds}

added : (u : TimeUnit) (m n t b : ℤ) → t ≡ nanos u m → b ≡ nanos u n → t +ℤ b ≡ nanos u (m +ℤ n)
added Seconds m n t b e f = omega (arith, ints)
added Milliseconds m n t b e f = omega (arith, ints)
added Microseconds m n t b e f = omega (arith, ints)
added Nanoseconds m n t b e f = omega (arith, ints)

-- whole seconds are in every unit
pub whole_seconds : (u : TimeUnit) (b s : ℤ) → b ≡ pos 1_000_000_000 *ℤ s → InUnits u b
whole_seconds Seconds b s e = (pos 1 *ℤ s, omega (arith, ints))
whole_seconds Milliseconds b s e = (pos 1_000 *ℤ s, omega (arith, ints))
whole_seconds Microseconds b s e = (pos 1_000_000 *ℤ s, omega (arith, ints))
whole_seconds Nanoseconds b s e = (pos 1_000_000_000 *ℤ s, omega (arith, ints))

in_units : (u : TimeUnit) (g : Granularity) (m t b : ℤ) → t ≡ m *ℤ scale_of u → GreatestNotAfter (Boundary g) t b → InUnits u b
in_units Seconds Microsecond m t b e f = let l = f.greatest t (record { number = pos 1_000_000 *ℤ m; is_one = tt; product = omega (arith, ints) }) (omega (arith, ints)) in let h = f.not_after in (m, omega (arith, ints))
in_units Milliseconds Microsecond m t b e f = let l = f.greatest t (record { number = pos 1_000 *ℤ m; is_one = tt; product = omega (arith, ints) }) (omega (arith, ints)) in let h = f.not_after in (m, omega (arith, ints))
in_units Microseconds Microsecond m t b e f = let i = f.is_one.product in (pos 1 *ℤ f.is_one.number, omega (arith, ints))
in_units Nanoseconds Microsecond m t b e f = let i = f.is_one.product in (pos 1_000 *ℤ f.is_one.number, omega (arith, ints))
in_units Seconds Millisecond m t b e f = let l = f.greatest t (record { number = pos 1_000 *ℤ m; is_one = tt; product = omega (arith, ints) }) (omega (arith, ints)) in let h = f.not_after in (m, omega (arith, ints))
in_units Milliseconds Millisecond m t b e f = let i = f.is_one.product in (pos 1 *ℤ f.is_one.number, omega (arith, ints))
in_units Microseconds Millisecond m t b e f = let i = f.is_one.product in (pos 1_000 *ℤ f.is_one.number, omega (arith, ints))
in_units Nanoseconds Millisecond m t b e f = let i = f.is_one.product in (pos 1_000_000 *ℤ f.is_one.number, omega (arith, ints))
in_units u Second m t b e f = let i = f.is_one.product in whole_seconds u b (pos 1 *ℤ f.is_one.number) (omega (arith, ints))
in_units u Minute m t b e f = let i = f.is_one.product in whole_seconds u b (pos 60 *ℤ f.is_one.number) (omega (arith, ints))
in_units u Hour m t b e f = let i = f.is_one.product in whole_seconds u b (pos 3_600 *ℤ f.is_one.number) (omega (arith, ints))
in_units u Day m t b e f = let i = f.is_one.product in whole_seconds u b (pos 86_400 *ℤ f.is_one.number) (omega (arith, ints))
in_units u Week m t b e f = let i = f.is_one.product in whole_seconds u b (pos 86_400 *ℤ f.is_one.number) (omega (arith, ints))
in_units u Month m t b e f = let i = f.is_one.product in whole_seconds u b (pos 86_400 *ℤ f.is_one.number) (omega (arith, ints))
in_units u Quarter m t b e f = let i = f.is_one.product in whole_seconds u b (pos 86_400 *ℤ f.is_one.number) (omega (arith, ints))
in_units u Year m t b e f = let i = f.is_one.product in whole_seconds u b (pos 86_400 *ℤ f.is_one.number) (omega (arith, ints))

-- the boundary of an instant of whole units is one too
pub whole_units_lem : (u : TimeUnit) (g : Granularity) (t b : ℤ) → InUnits u t → GreatestNotAfter (Boundary g) t b → InUnits u b
whole_units_lem u g t b w f = in_units u g w.0 t b w.1 f

-- and so is one that is whole seconds away
pub seconds_away : (u : TimeUnit) (t k : ℤ) → InUnits u t → InUnits u (t +ℤ pos 1_000_000_000 *ℤ k)
seconds_away u t k (n, e) = let w = whole_seconds u (pos 1_000_000_000 *ℤ k) k refl in (n +ℤ w.0, let f = w.1 in added u n w.0 t _ e f)

pub some_scale : (u : TimeUnit) → 0 < scale u
some_scale Seconds = lit< tt
some_scale Milliseconds = lit< tt
some_scale Microseconds = lit< tt
some_scale Nanoseconds = lit< tt

-- and divides back
pub divides_back : (u : TimeUnit) (b : ℤ) → InUnits u b → int_div_euclid b (scale_of u) *ℤ scale_of u ≡ b
divides_back u b (n, e) = ap (λ z. z *ℤ scale_of u) (whole_quotient (scale u) b n (some_scale u) (sym e)) ∙ sym e
