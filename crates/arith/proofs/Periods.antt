-- The first day of the month, quarter or year that holds a date is the greatest such day not after it.
use Rattle.std.proofs.Common.{◌≡◌, ℕ, ◌+◌, ◌-◌, ◌*◌, ◌/◌, ◌%◌, ◌<◌, ◌≤◌, ℤ, ◌≤ℤ◌, refl, ap₂, inl, inr, mul-le-mul_left, div-add-mod', arith}
use borrow.Author.Differences.{ints}
use lib.Arith.{digits_mod}
use lib.Signed.{<ℤ_irrefl}
use Rattle.std.proofs.lemmas.Bool.{cases_lt}
use Rattle.arith.proofs.Months.{some_day}
use Rattle.arith.proofs.Multiples.{apart}
use Rattle.arith.proofs.Order.{compared, later_number}
use Rattle.arith.specs.Greatest.{GreatestNotAfter}
use Rattle.arith.specs.Periods.{IsFirstDay, first_month_of}
use Rattle.arith.specs.Gregorian.{leap, day_number, IsDate}
use Rattle.arith.specs.Laws.{Earlier}

-- it begins a period, is not after m, and no other that does lies between
pub first_month_of_lem : (k m : ℕ) → 0 < k → 1 ≤ m → (1 ≤ first_month_of k m) × (first_month_of k m ≤ m) × ((first_month_of k m - 1) % k ≡ 0)
first_month_of_lem k m h l =
    let d = div-add-mod' (m - 1) k in
    let r : (m - 1) % k < k = omega arith in
    let e : first_month_of k m - 1 ≡ (m - 1) / k * k + 0 = omega arith in
    (omega arith, omega arith, rw e (digits_mod ((m - 1) / k) h))

none_between : (k m n : ℕ) → 0 < k → 1 ≤ m → 1 ≤ n → (n - 1) % k ≡ 0 → first_month_of k m < n → m < n
none_between k m n h l g e b =
    let d = div-add-mod' (m - 1) k in
    let f = div-add-mod' (n - 1) k in
    let r : (m - 1) % k < k = omega arith in
    elim (cases_lt m n) [
      | inl a ↦ a
      | inr a ↦
          let q = apart k ((n - 1) / k) ((m - 1) / k) ((m - 1) % k) r (omega arith) in
          let p = mul-le-mul_left k q in
          absurd (omega arith)
    ]

first_day_lem : (y : ℤ) (m : ℕ) → 1 ≤ m → m ≤ 12 → IsDate y m 1
first_day_lem y m l h = record { first_month = l; last_month = h; first_day = omega arith; last_day = some_day (leap y) m l h }

module _ (p : ℕ) (some : 0 < p) (y : ℤ) (m d : ℕ) (v : IsDate y m d) where
  start : ℕ
  start = first_month_of p m

  is_date : IsDate y start 1
  unfolding start
  is_date = let f = first_month_of_lem p m some v.first_month in first_day_lem y start f.0 (omega (arith, f.1, v.last_month))

  not_after : day_number y start 1 ≤ℤ day_number y m d
  unfolding start
  not_after = elim (compared y y m d start 1) [
    | inl (inl h) ↦ absurd (<ℤ_irrefl h)
    | inl (inr (e, inl h)) ↦ absurd (omega (arith, (first_month_of_lem p m some v.first_month).1))
    | inl (inr (e, inr (f, h))) ↦ absurd (omega (arith, v.first_day))
    | inr (inl h) ↦ omega (arith, ints, later_number y y start 1 m d is_date v h)
    | inr (inr (e, f, g)) ↦ let q : day_number y m d ≡ day_number y start 1 = ap₂ (day_number y) f g in omega (arith, ints)
  ]

  later : (z : ℤ) (k : ℕ) → 1 ≤ k → (k - 1) % p ≡ 0 → Earlier y start 1 z k 1 → Earlier y m d z k 1
  unfolding start
  later z k l b (inl h) = inl h
  later z k l b (inr (e, inl h)) = inr (e, inl (none_between p m k some v.first_month l b h))
  later z k l b (inr (e, inr (f, h))) = absurd (omega arith)

  below : (t : ℤ) → IsFirstDay p t → t ≤ℤ day_number y m d → t ≤ℤ day_number y start 1
  below t f l = elim (compared y f.year start 1 f.month 1) [
    | inl h ↦
        let w = first_day_lem f.year f.month f.first_month f.last_month in
        let g = later_number y f.year m d f.month 1 v w (later f.year f.month f.first_month f.begins h) in
        absurd (omega (arith, ints, f.number))
    | inr (inl h) ↦
        let w = first_day_lem f.year f.month f.first_month f.last_month in
        let g = later_number f.year y f.month 1 start 1 w is_date h in
        omega (arith, ints, f.number)
    | inr (inr (e, k, _)) ↦
        let q : day_number y start 1 ≡ day_number f.year f.month 1 = ap₂ (λ z n. day_number z n 1) e k in
        omega (arith, ints, f.number)
  ]

  pub greatest_first_day : GreatestNotAfter (IsFirstDay p) (day_number y m d) (day_number y (first_month_of p m) 1)
  unfolding start
  greatest_first_day =
      let f = first_month_of_lem p m some v.first_month in
      record {
        is_one = record { year = y; month = start; first_month = f.0; last_month = omega (arith, f.1, v.last_month); begins = f.2; number = refl };
        not_after = not_after;
        greatest = below;
      }
