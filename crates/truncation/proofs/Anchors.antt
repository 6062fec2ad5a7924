-- A boundary of each granularity below all that a clock shows at instants of 64 bits: so no boundary of such a reading lies far below it.
use Rattle.std.proofs.Common.{◌≡◌, ℕ, ◌%◌, ◌<◌, ℤ, pos, ◌+ℤ◌, ◌*ℤ◌, neg_ℤ, ◌≤ℤ◌, sym, refl, arith, lit<}
use Rattle.arith.proofs.Floors.{quot, floor_is}
use Rattle.std.proofs.lemmas.Int.{ints}
use Rattle.arith.specs.Clock.{LawfulOffset}
use Rattle.arith.specs.Greatest.{GreatestNotAfter, MultipleOf}
use Rattle.arith.specs.Gregorian.{day_number, year_start, days_before, leap, days_in_years}
use Rattle.arith.specs.Periods.{IsFirstDay}
use Rattle.arith.specs.Weekdays.{IsMonday, weekday}
use Rattle.calendar.specs.Spans.{FirstDayOf}
use Rattle.calendar.specs.declared.period.Period.{Period}
use Rattle.calendar.specs.declared.period.Period.TheVariants.{Week as OfWeek, Month as OfMonth, Quarter as OfQuarter, Year as OfYear}
use Rattle.zone.specs.Places.{WithinReach}
use Rattle.truncation.specs.Boundaries.{Boundary, MidnightOf}
use Rattle.truncation.specs.Moments.{InReach, Near, OfRange}
use Rattle.truncation.specs.declared.granularity.Granularity.{Granularity}
use Rattle.truncation.specs.declared.granularity.Granularity.TheVariants.{Microsecond, Millisecond, Second, Minute, Hour, Day, Week, Month, Quarter, Year}

-- 1677-01-01, and the Monday before it
number_of_1677 : day_number (pos 1_677) 1 1 ≡ neg_ℤ (pos 107_015)
unfolding day_number year_start days_before leap days_in_years
number_of_1677 = refl

monday : IsMonday (neg_ℤ (pos 107_019))
unfolding weekday
monday = refl

new_year : (k : ℕ) → 0 % k ≡ 0 → IsFirstDay k (neg_ℤ (pos 107_015))
new_year k e = record { year = pos 1_677; month = 1; first_month = omega arith; last_month = omega arith; begins = e; number = sym number_of_1677 }

early_day : (p : Period) → (d : ℤ) × (FirstDayOf p d × (neg_ℤ (pos 107_019) ≤ℤ d) × (d ≤ℤ neg_ℤ (pos 107_015)))
early_day OfWeek = (neg_ℤ (pos 107_019), (monday, omega (arith, ints), omega (arith, ints)))
early_day OfMonth = (neg_ℤ (pos 107_015), (new_year 1 refl, omega (arith, ints), omega (arith, ints)))
early_day OfQuarter = (neg_ℤ (pos 107_015), (new_year 3 refl, omega (arith, ints), omega (arith, ints)))
early_day OfYear = (neg_ℤ (pos 107_015), (new_year 12 refl, omega (arith, ints), omega (arith, ints)))

-- the first day of the period of what a clock shows is near
pub day_in_reach : (p : Period) (s d : ℤ) → Near s → GreatestNotAfter (FirstDayOf p) (quot s 86_400) d → InReach d
day_in_reach p s d (low, high) g =
    let f = floor_is s 86_400 (lit< tt) in
    let a = early_day p in
    let from = a.1.1 in
    let to = a.1.2 in
    let l = g.greatest a.0 a.1.0 (omega (arith, ints, f.0, f.1)) in
    let h = g.not_after in
    (omega (arith, ints), omega (arith, ints, f.0, f.1))

abbrev Early : (ℤ → Type 0) → Type 0
Early P = (t : ℤ) × (P t × (neg_ℤ (pos 9_246_441_600_000_000_000) ≤ℤ t) × (t ≤ℤ neg_ℤ (pos 9_246_096_000_000_000_000)))

early_multiple : (k : ℕ) (n : ℤ) → neg_ℤ (pos 9_246_096_000_000_000_000) ≡ pos k *ℤ n → Early (MultipleOf k)
early_multiple k n e = (neg_ℤ (pos 9_246_096_000_000_000_000), (record { number = n; is_one = tt; product = e }, omega (arith, ints), omega (arith, ints)))

early_midnight : (p : Period) → Early (MidnightOf (FirstDayOf p))
early_midnight p =
    let a = early_day p in
    let from = a.1.1 in
    let to = a.1.2 in
    (pos 86_400_000_000_000 *ℤ a.0, (record { number = a.0; is_one = a.1.0; product = refl }, omega (arith, ints), omega (arith, ints)))

early : (g : Granularity) → Early (Boundary g)
early Microsecond = early_multiple 1_000 (neg_ℤ (pos 9_246_096_000_000_000)) refl
early Millisecond = early_multiple 1_000_000 (neg_ℤ (pos 9_246_096_000_000)) refl
early Second = early_multiple 1_000_000_000 (neg_ℤ (pos 9_246_096_000)) refl
early Minute = early_multiple 60_000_000_000 (neg_ℤ (pos 154_101_600)) refl
early Hour = early_multiple 3_600_000_000_000 (neg_ℤ (pos 2_568_360)) refl
early Day = early_multiple 86_400_000_000_000 (neg_ℤ (pos 107_015)) refl
early Week = early_midnight OfWeek
early Month = early_midnight OfMonth
early Quarter = early_midnight OfQuarter
early Year = early_midnight OfYear

-- a zone can be asked about the second of a boundary of what its clock shows
pub in_reach : (g : Granularity) (s q : ℤ) (n k : ℕ) → Near s → n < 1_000_000_000 → k < 1_000_000_000 → GreatestNotAfter (Boundary g) (pos 1_000_000_000 *ℤ s +ℤ pos n) (pos 1_000_000_000 *ℤ q +ℤ pos k) → WithinReach q
in_reach g s q n k (low, high) hn hk f =
    let a = early g in
    let from = a.1.1 in
    let to = a.1.2 in
    let l = f.greatest a.0 a.1.0 (omega (arith, ints)) in
    let h = f.not_after in
    record { from = (omega (arith, ints), omega (arith, ints)); to = (omega (arith, ints), omega (arith, ints)) }

pub reading_near : (s o : ℤ) → OfRange s → LawfulOffset o → Near (s +ℤ o)
reading_near s o range lawful = (omega (arith, ints), omega (arith, ints))
