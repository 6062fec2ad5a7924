-- Moments cut to fixed lengths and to midnights, in nanoseconds.
use Rattle.std.proofs.Common.{◌≡◌, ℕ, ◌+◌, ◌-◌, ◌*◌, ◌%◌, ◌<◌, ◌≤◌, ℤ, pos, ◌+ℤ◌, ◌-ℤ◌, ◌*ℤ◌, sym, subst, inl, inr, arith, lit<}
use borrow.Author.Differences.{ints}
use Rattle.std.specs.Int.{int_rem_euclid}
use Rattle.arith.proofs.Floors.{rem, quot, floor_is, rem_is}
use Rattle.arith.proofs.Lift.{lift, greatest_whole}
use Rattle.arith.proofs.Multiples.{floor_unique}
use Rattle.arith.specs.Greatest.{GreatestNotAfter, MultipleOf}
use Rattle.truncation.specs.Boundaries.{MidnightOf}
use Rattle.truncation.specs.Moments.{PartOfSecond, WholeSeconds}

-- the nanoseconds of a second and n more
abbrev at : ℤ → ℕ → ℤ
at s n = pos 1_000_000_000 *ℤ s +ℤ pos n

-- whole micro- and milliseconds fill a second
pub cut_nanos : (k : ℕ) (s z : ℤ) (n : ℕ) → PartOfSecond k → z ≡ s → GreatestNotAfter (MultipleOf k) (at s n) (at z (n - n % k))
cut_nanos k s z n (inl e) f = rw e (greatest_whole 1_000 (at s n) _ (lit< tt) (omega (arith, ints, floor_is (at s n) 1_000 (lit< tt))))
cut_nanos k s z n (inr e) f = rw e (greatest_whole 1_000_000 (at s n) _ (lit< tt) (omega (arith, ints, floor_is (at s n) 1_000_000 (lit< tt))))

pub some_length : (k : ℕ) → WholeSeconds k → (0 < k) × (k ≤ 86_400)
some_length k (inl e) = (omega arith, omega arith)
some_length k (inr (inl e)) = (omega arith, omega arith)
some_length k (inr (inr (inl e))) = (omega arith, omega arith)
some_length k (inr (inr (inr e))) = (omega arith, omega arith)

-- whole seconds, minutes, hours and days
pub cut_seconds : (k : ℕ) (s z : ℤ) (n : ℕ) → WholeSeconds k → n < 1_000_000_000 → z ≡ s -ℤ int_rem_euclid s (pos k) → GreatestNotAfter (MultipleOf (1_000_000_000 * k)) (at s n) (at z 0)
cut_seconds k s z n (inl e) h f = rw e (greatest_whole 1_000_000_000 (at s n) _ (lit< tt) (omega (arith, ints, floor_is (at s n) 1_000_000_000 (lit< tt), floor_is s 1 (lit< tt), rem_is s 1, rw e at f)))
cut_seconds k s z n (inr (inl e)) h f = rw e (greatest_whole 60_000_000_000 (at s n) _ (lit< tt) (omega (arith, ints, floor_is (at s n) 60_000_000_000 (lit< tt), floor_is s 60 (lit< tt), rem_is s 60, rw e at f)))
cut_seconds k s z n (inr (inr (inl e))) h f = rw e (greatest_whole 3_600_000_000_000 (at s n) _ (lit< tt) (omega (arith, ints, floor_is (at s n) 3_600_000_000_000 (lit< tt), floor_is s 3_600 (lit< tt), rem_is s 3_600, rw e at f)))
cut_seconds k s z n (inr (inr (inr e))) h f = rw e (greatest_whole 86_400_000_000_000 (at s n) _ (lit< tt) (omega (arith, ints, floor_is (at s n) 86_400_000_000_000 (lit< tt), floor_is s 86_400 (lit< tt), rem_is s 86_400, rw e at f)))

-- the midnight of the greatest day of a kind
pub midnight_of : (P : ℤ → Type 0) (s d b : ℤ) (n : ℕ) → n < 1_000_000_000 → GreatestNotAfter P (quot s 86_400) d → b ≡ pos 86_400_000_000_000 *ℤ d → GreatestNotAfter (MidnightOf P) (at s n) b
midnight_of P s d b n h g e =
    let f = floor_is s 86_400 (lit< tt) in
    let r : ℕ = 1_000_000_000 * rem s 86_400 + n in
    let q = (floor_unique (at s n) (quot s 86_400) 86_400_000_000_000 r (omega (arith, f.1)) (omega (arith, ints, f.0))).0 in
    subst (GreatestNotAfter (MidnightOf P) (at s n)) (sym e) (lift P 86_400_000_000_000 (at s n) d (lit< tt) (subst (λ z. GreatestNotAfter P z d) (sym q) g))
