-- The date of a month's index.
use Rattle.std.proofs.Common.{◌≡◌, ℕ, ◌+◌, ◌/◌, ◌%◌, min, ℤ, pos, ◌+ℤ◌, refl, arith}
use borrow.Author.Differences.{ints}
use Rattle.arith.specs.Gregorian.{leap, month_length}
use Rattle.arith.specs.Shift.{month_index, Shifted}

index_is : (i : ℕ) → month_index (pos (i / 12)) (i % 12 + 1) ≡ pos i
unfolding month_index
index_is i = omega (arith, ints)

pub shifted_to : (y : ℤ) (m d : ℕ) (months : ℤ) (i : ℕ) → month_index y m +ℤ months ≡ pos i → Shifted y m d months (pos (i / 12)) (i % 12 + 1) (min d (month_length (leap (pos (i / 12))) (i % 12 + 1)))
shifted_to y m d months i e = record { first_month = omega arith; last_month = omega arith; index = rw e (index_is i); day = refl }
