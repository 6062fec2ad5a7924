-- The numbers of dates: the next date, the order of dates, and one date for each number.
use Rattle.std.proofs.Common.{◌≡◌, ℕ, zero, suc, ◌+◌, ◌-◌, ◌<◌, ◌≤◌, ◌⊎◌, ℤ, pos, ◌+ℤ◌, neg_ℤ, ◌≤ℤ◌, ◌<ℤ◌, sym, refl, ◌∙◌, inl, inr, arith}
use borrow.Author.Differences.{ints, up, down}
use lib.IntN.{pred_ℤ, suc_ℤ}
use Rattle.std.proofs.lemmas.Int.{by_lt_z}
use Rattle.std.proofs.lemmas.Bool.{cases_order}
use Rattle.arith.proofs.Floors.{suc_is}
use Rattle.arith.proofs.Months.{next_month_lem, first_month_lem, all_months, some_day, up_to, later_month}
use Rattle.arith.proofs.Years.{next_year_lem}
use Rattle.arith.specs.Gregorian.{leap, days_before, days_in_years, month_length, year_start, year_length, day_number, IsDate, InSpan, InYears}
use Rattle.arith.specs.Laws.{Follows, Earlier, OnlyDate, Numbered}

epoch : day_number (pos 1970) 1 1 ≡ pos 0
unfolding day_number year_start days_before days_in_years
epoch = refl

at_next_day : (y : ℤ) (m d : ℕ) → IsDate y m d → d < month_length (leap y) m → IsDate y m (d + 1) × (day_number y m (d + 1) ≡ suc_ℤ (day_number y m d))
unfolding day_number
at_next_day y m d v h =
    (record { first_month = v.first_month; last_month = v.last_month; first_day = omega arith; last_day = omega arith }, omega (arith, ints, suc_is, v.first_day))

at_next_month : (y : ℤ) (m d : ℕ) → IsDate y m d → d ≡ month_length (leap y) m → m < 12 → IsDate y (m + 1) 1 × (day_number y (m + 1) 1 ≡ suc_ℤ (day_number y m d))
unfolding day_number
at_next_month y m d v e h =
    let n = next_month_lem (leap y) m v.first_month v.last_month in
    (record { first_month = omega arith; last_month = omega arith; first_day = omega arith; last_day = some_day (leap y) (m + 1) (omega arith) (omega arith) }, omega (arith, ints, suc_is, v.first_day))

at_next_year : (y : ℤ) (m d : ℕ) → IsDate y m d → d ≡ month_length (leap y) m → m ≡ 12 → IsDate (suc_ℤ y) 1 1 × (day_number (suc_ℤ y) 1 1 ≡ suc_ℤ (day_number y m d))
unfolding day_number
at_next_year y m d v e h =
    let n = next_month_lem (leap y) m v.first_month v.last_month in
    let a : days_before (leap y) (m + 1) ≡ year_length (leap y) = rw h (all_months (leap y)) in
    let f = first_month_lem (leap (suc_ℤ y)) in
    let g = next_year_lem y in
    (record { first_month = omega arith; last_month = omega arith; first_day = omega arith; last_day = some_day (leap (suc_ℤ y)) 1 (omega arith) (omega arith) }, omega (arith, ints, suc_is, v.first_day))

next_date : (y y' : ℤ) (m d m' d' : ℕ) → IsDate y m d → Follows y m d y' m' d' → IsDate y' m' d' × (day_number y' m' d' ≡ suc_ℤ (day_number y m d))
next_date y y' m d m' d' v (Follows.next_day h) = at_next_day y m d v h
next_date y y' m d m' d' v (Follows.next_month e h) = at_next_month y m d v e h
next_date y y' m d m' d' v (Follows.next_year e h) = at_next_year y m d v e h

-- ---- the order
year_grows : (y : ℤ) (k : ℕ) → year_start y ≤ℤ year_start (y +ℤ pos k)
year_grows y zero = let e : y +ℤ pos 0 ≡ y = omega (arith, ints) in rw e (omega (arith, ints))
year_grows y (suc k) =
    let e : y +ℤ pos (suc k) ≡ suc_ℤ (y +ℤ pos k) = omega (arith, ints, suc_is) in
    let i = year_grows y k in
    let n = next_year_lem (y +ℤ pos k) in
    rw e (omega (arith, ints))

-- a later year begins no earlier than the next
later_year : (y z : ℤ) → y <ℤ z → year_start (suc_ℤ y) ≤ℤ year_start z
later_year y z h =
    let k : ℕ = up z + down y - up y - down z - 1 in
    let e : suc_ℤ y +ℤ pos k ≡ z = omega (arith, ints, suc_is) in
    rw e at (year_grows (suc_ℤ y) k)

-- a date's number lies in its year
pub in_year : (y : ℤ) (m d : ℕ) → IsDate y m d → (year_start y ≤ℤ day_number y m d) × (day_number y m d <ℤ year_start (suc_ℤ y))
unfolding day_number
in_year y m d v =
    let n = next_month_lem (leap y) m v.first_month v.last_month in
    let l = later_month (leap y) m (m + 1) in
    let a = all_months (leap y) in
    let u : days_before (leap y) (m + 1) ≤ days_before (leap y) 13 = up_to (leap y) m v.first_month v.last_month in
    let g = next_year_lem y in
    (omega (arith, ints), omega (arith, ints, v.first_day, v.last_day))

later_in_year : (y : ℤ) (m d n e : ℕ) → IsDate y m d → IsDate y n e → m < n → day_number y m d <ℤ day_number y n e
unfolding day_number
later_in_year y m d n e v w h =
    let k : m + 1 ≤ 12 = omega (arith, w.last_month) in
    let a = next_month_lem (leap y) m v.first_month v.last_month in
    let b = later_month (leap y) (m + 1) n (omega arith) k (omega arith) (omega (arith, w.last_month)) in
    omega (arith, ints, v.first_day, v.last_day)

later_in_month : (y : ℤ) (m d e : ℕ) → 1 ≤ d → d < e → day_number y m d <ℤ day_number y m e
unfolding day_number
later_in_month y m d e l h = omega (arith, ints)

pub later_number : (y z : ℤ) (m d n e : ℕ) → IsDate y m d → IsDate z n e → Earlier y m d z n e → day_number y m d <ℤ day_number z n e
later_number y z m d n e v w (inl h) = omega (arith, ints, (in_year y m d v).1, (in_year z n e w).0, later_year y z h)
later_number y z m d n e v w (inr (p, inl h)) = rw (← p) (later_in_year y m d n e v (rw (← p) at w) h)
later_number y z m d n e v w (inr (p, inr (q, h))) = rw (← p, ← q) (later_in_month y m d e v.first_day h)

-- of two dates one is earlier, or they are one
abbrev pub Compared : ℤ → ℕ → ℕ → ℤ → ℕ → ℕ → Type 0
Compared y m d z n e = Earlier y m d z n e ⊎ (Earlier z n e y m d ⊎ ((y ≡ z) × (m ≡ n) × (d ≡ e)))

compared_in_year : (y z : ℤ) (m d n e : ℕ) → y ≡ z → Compared y m d z n e
compared_in_year y z m d n e p = elim (cases_order m n) [
  | inl q ↦ elim (cases_order d e) [
    | inl r ↦ inr (inr (p, q, r))
    | inr (inl r) ↦ inl (inr (p, inr (q, r)))
    | inr (inr r) ↦ inr (inl (inr (sym p, inr (sym q, r))))
  ]
  | inr (inl h) ↦ inl (inr (p, inl h))
  | inr (inr h) ↦ inr (inl (inr (sym p, inl h)))
]

pub compared : (y z : ℤ) (m d n e : ℕ) → Compared y m d z n e
compared y z m d n e =
    by_lt_z y z (λ h. inl (inl h)) (λ h. by_lt_z z y (λ k. inr (inl (inl k))) (λ k. compared_in_year y z m d n e (omega (arith, ints))))

-- two dates with one number are one
pub same_date : (y z : ℤ) (m d n e : ℕ) → IsDate y m d → IsDate z n e → day_number y m d ≡ day_number z n e → (y ≡ z) × (m ≡ n) × (d ≡ e)
same_date y z m d n e v w p = elim (compared y z m d n e) [
  | inl h ↦ absurd (omega (arith, ints, later_number y z m d n e v w h))
  | inr (inl h) ↦ absurd (omega (arith, ints, later_number z y n e m d w v h))
  | inr (inr h) ↦ h
]

pub only_date_lem : (n y : ℤ) (m d : ℕ) → IsDate y m d → day_number y m d ≡ n → OnlyDate n y m d
only_date_lem n y m d v e = record { exists = v; number = e; only = λ z k f w g. same_date z y k f m d w v (g ∙ sym e) }

pub numbered : (y : ℤ) (m d : ℕ) (n : ℤ) → IsDate y m d → n ≡ day_number y m d → Numbered y m d n
numbered y m d n v e = record {
  only_date = only_date_lem n y m d v (sym e);
  next = λ y' m' d' f. rw e (next_date y y' m d m' d' v f);
  order = λ y' m' d' w l. rw e (later_number y y' m d m' d' v w l);
  epoch = epoch;
}

-- the days of the years 1 to 9999
first_start : year_start (pos 1) ≡ neg_ℤ (pos 719162)
unfolding year_start days_in_years
first_start = refl

past_last_start : year_start (pos 10000) ≡ pos 2932897
unfolding year_start days_in_years
past_last_start = refl

pub in_span : (y : ℤ) (m d : ℕ) → InYears y → IsDate y m d → InSpan (day_number y m d)
in_span y m d h v =
    let i = in_year y m d v in
    let first = later_year (pred_ℤ (pos 1)) y (omega (arith, ints, h.0)) in
    let last = later_year y (pos 10000) (omega (arith, ints, h.1)) in
    (omega (arith, ints, i.0, first, first_start), omega (arith, ints, i.1, last, past_last_start))
