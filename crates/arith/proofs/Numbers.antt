-- The number of a date by years that begin in March, and the date of a number.
use Rattle.std.proofs.Common.{◌≡◌, ℕ, ◌+◌, ◌-◌, ◌*◌, ◌/◌, ◌<◌, ◌≤◌, Bool, cond, eqb, ltb, pos, ◌+ℤ◌, refl, ◌∙◌, inl, inr, arith}
use borrow.Author.Differences.{ints}
use Rattle.std.proofs.lemmas.Bool.{cases_lt, cond_both, lt-ltb, le-ltb}
use Rattle.arith.proofs.March.{march_next, march_mono, start_is, year_long}
use Rattle.arith.proofs.Months.{march_days_lem, march_length, march_end}
use Rattle.arith.specs.March.{march, march_days, march_month, march_year, since_march}
use Rattle.arith.specs.Gregorian.{leap, month_length, year_length, day_number}

march_year_lem : (y m : ℕ) → 1 ≤ y → march (y - 1) + cond (ltb m 3) 0 (year_length (leap (pos y))) ≡ march (march_year y m)
march_year_lem y m h = elim (cases_lt m 3) [
  | inl l ↦ rw (lt-ltb m 3 l) (omega arith)
  | inr l ↦
      let e : y - 1 + 1 ≡ y = omega arith in
      let n = rw e at (march_next (y - 1)) in
      rw (le-ltb m 3 l) (omega arith)
]

pub number_is : (y m d : ℕ) → 1 ≤ y → 1 ≤ m → m ≤ 12 → day_number (pos y) m d +ℤ pos 719468 ≡ pos (since_march y m d)
unfolding day_number since_march
number_is y m d h l k =
    let s = start_is y h in
    let p = march_days_lem (leap (pos y)) m l k in
    let q = march_year_lem y m h in
    omega (arith, ints)

-- ---- the date of a number
pub record Found (n y m d : ℕ) : Type 0 where
  pub first_year : 1 ≤ y
  pub last_year : y ≤ 9999
  pub first_month : 1 ≤ m
  pub last_month : m ≤ 12
  pub first_day : 1 ≤ d
  pub last_day : d ≤ month_length (leap (pos y)) m
  pub number : since_march y m d ≡ n

-- the month of a day of a year beginning in March
march_month_lem : (r : ℕ) → r < 366 → ((5 * r + 2) / 153 ≤ 11) × (march_days ((5 * r + 2) / 153) ≤ r) × (r < march_days ((5 * r + 2) / 153 + 1))
march_month_lem r h = omega arith

-- the month's length bounds the day
short : (b : Bool) (m i r : ℕ) → 1 ≤ m → m ≤ 12 → march_month m ≡ i → r < year_length b → march_days i ≤ r → r < march_days (i + 1) → r - march_days i + 1 ≤ month_length b m
short b m i r l k e h p q =
    let s = rw e at (march_length b m l k) in
    let t : r < cond (eqb m 2) (year_length b) (march_days (i + 1)) = cond_both (eqb m 2) (year_length b) (march_days (i + 1)) (λ x. r < x) (λ _. h) (λ _. q) in
    sum_short (month_length b m) (march_days i) (cond (eqb m 2) (year_length b) (march_days (i + 1))) s p t
  where
    sum_short : (a p c : ℕ) → a + p ≡ c → p ≤ r → r < c → r - p + 1 ≤ a
    sum_short a p c e l h = omega arith

-- the ends of the years 1 to 9999
march_0 : march 0 ≡ 0
unfolding march
march_0 = refl

march_9999 : march 9999 ≡ 3652059
unfolding march
march_9999 = refl

pub since_march_lem : (y m d : ℕ) → 3 ≤ m → since_march y m d ≡ march y + march_days (m - 3) + (d - 1)
unfolding since_march
since_march_lem y m d h = rw (le-ltb m 3 h)

pub since_january : (y m d : ℕ) → m < 3 → since_march y m d ≡ march (y - 1) + march_days (m + 9) + (d - 1)
unfolding since_march
since_january y m d h = rw (lt-ltb m 3 h)

-- every date is among the first 4,000,000 days
pub since_below : (y m d : ℕ) → 1 ≤ y → y ≤ 9999 → 1 ≤ m → m ≤ 12 → d ≤ month_length (leap (pos y)) m → since_march y m d < 4000000
unfolding since_march
since_below y m d a b l k h =
    let s = march_end (leap (pos y)) m l k in
    let z : march_year y m ≤ 9999 = cond_both (ltb m 3) (y - 1) y (λ x. x ≤ 9999) (λ _. omega arith) (λ _. omega arith) in
    let g = march_mono (march_year y m) 9999 z in
    omega (arith, march_9999)

module _ (n y r i : ℕ) (from : 306 ≤ n) (to : n ≤ 3652364) (low : march y ≤ n) (high : n < march (y + 1)) (rest : r ≡ n - march y) (month : i ≡ (5 * r + 2) / 153) where
  in_year : r < year_length (leap (pos (y + 1)))
  in_year = omega (arith, march_next y)

  in_month : (i ≤ 11) × (march_days i ≤ r) × (r < march_days (i + 1))
  in_month = rw month (march_month_lem r (omega (arith, in_year, year_long (leap (pos (y + 1))))))

  pub march_to_december : i < 10 → y ≤ 9999 → Found n y (i + 3) (r - march_days i + 1)
  march_to_december h l =
      let e : march_month (i + 3) ≡ i = rw (le-ltb (i + 3) 3 (omega arith)) (omega arith) in
      let f : i + 3 - 3 ≡ i = omega arith in
      let s = since_march_lem y (i + 3) (r - march_days i + 1) (omega arith) in
      record {
        first_year = elim (cases_lt 0 y) [ inl g ↦ g | inr g ↦ let z : y ≡ 0 = omega arith in absurd (omega (arith, in_month, march_0, rw z at rest)) ];
        last_year = l;
        first_month = omega arith;
        last_month = omega arith;
        first_day = omega arith;
        last_day = short (leap (pos y)) (i + 3) i r (omega arith) (omega arith) e (omega (arith, in_month, year_long (leap (pos y)))) in_month.1 in_month.2;
        number = s ∙ (rw f (omega (arith, in_month)));
      }

  pub january_february : 10 ≤ i → y ≤ 9999 → Found n (y + 1) (i - 9) (r - march_days i + 1)
  january_february h l =
      let k : i ≤ 11 = in_month.0 in
      let e : march_month (i - 9) ≡ i = rw (lt-ltb (i - 9) 3 (omega arith)) (omega arith) in
      let f : i - 9 + 9 ≡ i = omega arith in
      let g : y + 1 - 1 ≡ y = omega arith in
      let s = since_january (y + 1) (i - 9) (r - march_days i + 1) (omega arith) in
      record {
        first_year = omega arith;
        last_year = elim (cases_lt y 9999) [ inl g ↦ omega arith | inr g ↦ let z : y ≡ 9999 = omega arith in absurd (omega (arith, in_month, march_9999, rw z at rest)) ];
        first_month = omega arith;
        last_month = omega arith;
        first_day = omega arith;
        last_day = short (leap (pos (y + 1))) (i - 9) i r (omega arith) (omega arith) e in_year in_month.1 in_month.2;
        number = s ∙ (rw (f, g) (omega (arith, in_month)));
      }
