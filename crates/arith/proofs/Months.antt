-- The twelve months: facts that antt computes once for each month of a common and of a leap year.
use Rattle.std.proofs.Common.{◌≡◌, ℕ, ◌+◌, ◌-◌, ◌≤◌, Bool, true, false, cond, T, eqb, ltb, leb, refl, arith, eqb→eq, leb→le}
use Rattle.arith.proofs.Scan.{scan, scanned}
use Rattle.arith.specs.March.{march_days, march_month}
use Rattle.arith.specs.Gregorian.{month_length, days_before, year_length}

-- a test that passes in January to December, in a common and in a leap year, passes in every month
by_month : (f : Bool → ℕ → Bool) → T (scan (f true) 1 12) → T (scan (f false) 1 12) → (b : Bool) (m : ℕ) → 1 ≤ m → m ≤ 12 → T (f b m)
by_month f t s true m l h = scanned (f true) 1 12 t m l (omega arith)
by_month f t s false m l h = scanned (f false) 1 12 s m l (omega arith)

next_month_test : Bool → ℕ → Bool
next_month_test b m = eqb (days_before b (m + 1)) (days_before b m + month_length b m)

pub next_month_lem : (b : Bool) (m : ℕ) → 1 ≤ m → m ≤ 12 → days_before b (m + 1) ≡ days_before b m + month_length b m
unfolding next_month_test days_before month_length
next_month_lem b m l h = eqb→eq (days_before b (m + 1)) (days_before b m + month_length b m) (by_month next_month_test tt tt b m l h)

pub first_month_lem : (b : Bool) → days_before b 1 ≡ 0
unfolding days_before
first_month_lem b = refl

pub all_months : (b : Bool) → days_before b 13 ≡ year_length b
unfolding days_before
all_months true = refl
all_months false = refl

later_test : Bool → ℕ → ℕ → Bool
later_test b m k = leb (days_before b m) (days_before b k)

later_tests : Bool → ℕ → Bool
later_tests b m = scan (later_test b m) m (14 - m)

-- a later month begins no earlier
pub later_month : (b : Bool) (m k : ℕ) → 1 ≤ m → m ≤ 12 → m ≤ k → k ≤ 13 → days_before b m ≤ days_before b k
unfolding later_test later_tests days_before
later_month b m k l h g e =
    leb→le (days_before b m) (days_before b k) (scanned (later_test b m) m (14 - m) (by_month later_tests tt tt b m l h) k g (omega arith))

march_days_test : Bool → ℕ → Bool
march_days_test b m = eqb (days_before b m + 306) (march_days (march_month m) + cond (ltb m 3) 0 (year_length b))

pub march_days_lem : (b : Bool) (m : ℕ) → 1 ≤ m → m ≤ 12 → days_before b m + 306 ≡ march_days (march_month m) + cond (ltb m 3) 0 (year_length b)
unfolding march_days_test days_before
march_days_lem b m l h = eqb→eq (days_before b m + 306) (march_days (march_month m) + cond (ltb m 3) 0 (year_length b)) (by_month march_days_test tt tt b m l h)

march_length_test : Bool → ℕ → Bool
march_length_test b m = eqb (month_length b m + march_days (march_month m)) (cond (eqb m 2) (year_length b) (march_days (march_month m + 1)))

pub march_length : (b : Bool) (m : ℕ) → 1 ≤ m → m ≤ 12 → month_length b m + march_days (march_month m) ≡ cond (eqb m 2) (year_length b) (march_days (march_month m + 1))
unfolding march_length_test month_length
march_length b m l h = eqb→eq (month_length b m + march_days (march_month m)) (cond (eqb m 2) (year_length b) (march_days (march_month m + 1))) (by_month march_length_test tt tt b m l h)

march_end_test : Bool → ℕ → Bool
march_end_test b m = leb (month_length b m + march_days (march_month m)) 366

pub march_end : (b : Bool) (m : ℕ) → 1 ≤ m → m ≤ 12 → month_length b m + march_days (march_month m) ≤ 366
unfolding march_end_test month_length
march_end b m l h = leb→le (month_length b m + march_days (march_month m)) 366 (by_month march_end_test tt tt b m l h)

some_day_test : Bool → ℕ → Bool
some_day_test b m = leb 1 (month_length b m)

pub some_day : (b : Bool) (m : ℕ) → 1 ≤ m → m ≤ 12 → 1 ≤ month_length b m
unfolding some_day_test month_length
some_day b m l h = leb→le 1 (month_length b m) (by_month some_day_test tt tt b m l h)

up_to_test : Bool → ℕ → Bool
up_to_test b m = leb (days_before b (m + 1)) (days_before b 13)

pub up_to : (b : Bool) (m : ℕ) → 1 ≤ m → m ≤ 12 → days_before b (m + 1) ≤ days_before b 13
unfolding up_to_test days_before
up_to b m l h = leb→le (days_before b (m + 1)) (days_before b 13) (by_month up_to_test tt tt b m l h)
