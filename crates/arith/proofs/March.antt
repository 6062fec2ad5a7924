-- Years that begin on 1 March, counted from 0000-03-01, and the year of a day of an era of 400 such years.
use Rattle.std.proofs.Common.{◌≡◌, ℕ, zero, suc, ◌+◌, ◌-◌, ◌*◌, ◌/◌, ◌%◌, ◌<◌, ◌≤◌, Bool, true, false, T, eqb, pos, ◌+ℤ◌, refl, inl, inr, add-zero, add_assoc, add-one, arith, eqb→eq}
use native.Mathlib.Nat.{div-div-eq-div-mul}
use borrow.Author.Differences.{ints}
use Rattle.std.proofs.lemmas.Bool.{cases_lt}
use Rattle.arith.proofs.Scan.{both, both_left, both_right, scan, scanned}
use Rattle.arith.proofs.Years.{days_is, days_next}
use Rattle.arith.specs.March.{march}
use Rattle.arith.specs.Gregorian.{leap, days_in_years, year_start, year_length}

pub march_is : (n : ℕ) → days_in_years (pos n) ≡ pos (march n)
unfolding march
march_is n = omega (arith, ints, days_is (pos n))

pub start_is : (y : ℕ) → 1 ≤ y → year_start (pos y) +ℤ pos 719162 ≡ pos (march (y - 1))
unfolding year_start
start_is zero h = absurd (omega arith)
start_is (suc n) h =
    let e : suc n - 1 ≡ n = omega arith in
    let f = march_is n in
    rw (e, ← f) (omega (arith, ints))

pub march_next : (y : ℕ) → march (y + 1) ≡ march y + year_length (leap (pos (y + 1)))
march_next y =
    let n = days_next (pos (suc y)) in
    let f = march_is (suc y) in
    let g = march_is y in
    rw add-one (omega (arith, ints))

pub year_long : (b : Bool) → (365 ≤ year_length b) × (year_length b ≤ 366)
year_long true = omega arith
year_long false = omega arith

march_grows : (a k : ℕ) → march a + 365 * k ≤ march (a + k)
march_grows a zero = rw (add-zero a) (omega arith)
march_grows a (suc k) =
    let i = march_grows a k in
    let n = march_next (a + k) in
    let l = year_long (leap (pos (a + k + 1))) in
    let e : a + suc k ≡ a + k + 1 = omega arith in
    rw e (omega arith)

pub march_mono : (a b : ℕ) → a ≤ b → march a + 365 * (b - a) ≤ march b
march_mono a b h =
    let e : a + (b - a) ≡ b = omega arith in
    rw e at (march_grows a (b - a))

-- the year of an era's day
unfoldable pub year_of_era : ℕ → ℕ
year_of_era n = (n - n / 1460 + n / 36524 - n / 146096) / 365

less_1460 : (a b : ℕ) → a < b → b / 1460 + a ≤ a / 1460 + b
less_1460 a b h = omega arith

less_4 : (a b : ℕ) → a < b → b / 4 + a ≤ a / 4 + b
less_4 a b h = omega arith

year_less : (a b : ℕ) → a < b → year_of_era a ≤ year_of_era b
unfolding year_of_era
year_less a b h =
    let p : a / 36524 / 4 ≡ a / 146096 = div-div-eq-div-mul a 36524 4 in
    let q : b / 36524 / 4 ≡ b / 146096 = div-div-eq-div-mul b 36524 4 in
    let l : a / 36524 ≤ b / 36524 = omega arith in
    let c : b / 36524 / 4 + a / 36524 ≤ a / 36524 / 4 + b / 36524 = less_or_same (a / 36524) (b / 36524) l in
    let d = less_1460 a b h in
    div_mono (a - a / 1460 + a / 36524 - a / 146096) (b - b / 1460 + b / 36524 - b / 146096) (combine a b (a / 1460) (b / 1460) (a / 36524) (b / 36524) (a / 146096) (b / 146096) d (rw (p, q) at c) (omega arith) (omega arith))
  where
    combine : (a b p q u v s t : ℕ) → q + a ≤ p + b → t + u ≤ s + v → q ≤ b → t ≤ v → a - p + u - s ≤ b - q + v - t
    combine a b p q u v s t h k l m = omega arith

    less_or_same : (u v : ℕ) → u ≤ v → v / 4 + u ≤ u / 4 + v
    less_or_same u v k = elim (cases_lt u v) [ inl r ↦ less_4 u v r | inr r ↦ let e : u ≡ v = omega arith in rw e (omega arith) ]

    div_mono : (u v : ℕ) → u ≤ v → u / 365 ≤ v / 365
    div_mono u v k = omega arith

year_mono : (a b : ℕ) → a ≤ b → year_of_era a ≤ year_of_era b
year_mono a b h = elim (cases_lt a b) [ inl r ↦ year_less a b r | inr r ↦ let e : a ≡ b = omega arith in rw e (omega arith) ]

year_test : ℕ → Bool
year_test y = both (eqb (year_of_era (march y)) y) (eqb (year_of_era (march (y + 1) - 1)) y)

year_tests : T (scan year_test 0 400)
unfolding year_test year_of_era march
year_tests = tt

pub year_at : (y : ℕ) → y < 400 → (year_of_era (march y) ≡ y) × (year_of_era (march (y + 1) - 1) ≡ y)
unfolding year_test
year_at y h =
    let t = scanned year_test 0 400 year_tests y (omega arith) (omega arith) in
    (eqb→eq _ _ (both_left _ _ t), eqb→eq _ _ (both_right (eqb (year_of_era (march y)) y) _ t))

-- the year of an era's day is the one whose first day is not after it, while the next year's is
not_after : (n y : ℕ) → year_of_era n ≡ y → y < 400 → march y ≤ n
unfolding march
not_after n zero e l = omega arith
not_after n (suc k) e l = elim (cases_lt n (march (suc k))) [
  | inl r ↦
      let m = year_mono n (march (k + 1) - 1) (rw add-one (omega arith)) in
      absurd (omega (arith, year_at k (omega arith)))
  | inr r ↦ r
]

whole_era : march 400 ≡ 146097
unfolding march
whole_era = refl

before_next : (n y : ℕ) → n < 146097 → year_of_era n ≡ y → y < 400 → n < march (y + 1)
before_next n y h e l = elim (cases_lt n (march (y + 1))) [
  | inl r ↦ r
  | inr r ↦ elim (cases_lt (y + 1) 400) [
    | inl k ↦ let m = year_mono (march (y + 1)) n r in absurd (omega (arith, year_at (y + 1) k))
    | inr k ↦
        let s : y + 1 ≡ 400 = omega arith in
        absurd (omega (arith, whole_era, rw s at r))
  ]
]

last_year_lem : year_of_era 146096 ≡ 399
unfolding year_of_era
last_year_lem = refl

pub year_of_era_lem : (n : ℕ) → n < 146097 → (year_of_era n < 400) × (march (year_of_era n) ≤ n) × (n < march (year_of_era n + 1))
year_of_era_lem n h =
    let below : year_of_era n < 400 = omega (arith, year_mono n 146096 (omega arith), last_year_lem) in
    (below, not_after n (year_of_era n) refl below, before_next n (year_of_era n) h refl below)

-- each era of 400 years has 146,097 days
pub eras : (e y : ℕ) → march (e * 400 + y) ≡ e * 146097 + march y
unfolding march
eras e y = rw (by_4 e y, by_100 e y, by_400 e y) (omega arith)
  where
    by_4 : (e y : ℕ) → (e * 400 + y) / 4 ≡ 100 * e + y / 4
    by_4 e y = omega arith

    by_100 : (e y : ℕ) → (e * 400 + y) / 100 ≡ 4 * e + y / 100
    by_100 e y = omega arith

    by_400 : (e y : ℕ) → (e * 400 + y) / 400 ≡ e + y / 400
    by_400 e y = omega arith

march_10000 : march 10000 ≡ 3652425
unfolding march
march_10000 = refl

-- the year of a day, by its era and its day of the era
abbrev pub year_of_day : ℕ → ℕ
year_of_day n = n / 146097 * 400 + year_of_era (n % 146097)

pub year_of_day_lem : (n : ℕ) → n ≤ 3652364 → (year_of_day n ≤ 9999) × (march (year_of_day n) ≤ n) × (n < march (year_of_day n + 1))
year_of_day_lem n h =
    let k : n % 146097 < 146097 = omega arith in
    let y = year_of_era_lem (n % 146097) k in
    let e = eras (n / 146097) (year_of_era (n % 146097)) in
    let f = eras (n / 146097) (year_of_era (n % 146097) + 1) in
    let low : march (year_of_day n) ≤ n = rw e (omega (arith, y.1)) in
    let high : n < march (year_of_day n + 1) = rw (add_assoc, f) (omega (arith, y.2)) in
    let last : year_of_day n ≤ 9999 = elim (cases_lt (year_of_day n) 10000) [
      | inl l ↦ omega arith
      | inr l ↦ absurd (omega (arith, march_mono 10000 (year_of_day n) l, march_10000))
    ] in
    (last, low, high)
