-- Values less their remainder toward zero.
use Rattle.std.proofs.Common.{◌≡◌, ℕ, zero, suc, ◌%◌, ◌<◌, ◌⊎◌, ℤ, pos, negsuc, ◌-ℤ◌, neg_ℤ, ◌≤ℤ◌, inl, inr, arith, w64, SFits, to_z, of_z}
use borrow.Author.Differences.{ints}
use lib.Signed.{rem_z}
use Rattle.arith.proofs.Floors.{quot, floor_is, times}
use Rattle.arith.proofs.Lift.{greatest_whole}
use Rattle.arith.specs.Greatest.{GreatestNotAfter, MultipleOf}
use Rattle.truncation.specs.Times.{TowardZero}

-- the greatest multiple not after a natural
whole : (k a : ℕ) (r : ℤ) → 0 < k → r ≡ pos a -ℤ pos (a % k) → GreatestNotAfter (MultipleOf k) (pos a) r
whole k a r h e = greatest_whole k (pos a) r h (let f = floor_is (pos a) k h in omega (arith, ints, f.0, times k (quot (pos a) k)))

-- what remains has the value's sign, and is no greater
remainder : (k : ℕ) (v : ℤ) → 0 < k → (((pos 0 ≤ℤ rem_z v (pos k)) × (rem_z v (pos k) ≤ℤ v)) ⊎ ((v ≤ℤ rem_z v (pos k)) × (rem_z v (pos k) ≤ℤ pos 0)))
remainder k (pos a) h = inl (omega (arith, ints), omega (arith, ints))
remainder k (negsuc a) h = inr (omega (arith, ints), omega (arith, ints))

pub toward_zero : (k : ℕ) (v r : ℤ) → 0 < k → r ≡ v -ℤ rem_z v (pos k) → TowardZero k v r
toward_zero k (pos zero) r h e = record {
  forward = λ l. whole k 0 r h e;
  mirrored = λ l. whole k 0 (neg_ℤ r) h (omega (arith, ints));
}
toward_zero k (pos (suc a)) r h e = record {
  forward = λ l. whole k (suc a) r h e;
  mirrored = λ l. absurd (omega (arith, ints));
}
toward_zero k (negsuc a) r h e = record {
  forward = λ l. absurd (omega (arith, ints));
  mirrored = λ l. whole k (suc a) (neg_ℤ r) h (omega (arith, ints));
}

pub between : (k : ℕ) (v r : ℤ) → 0 < k → r ≡ v -ℤ rem_z v (pos k) → ((pos 0 ≤ℤ r) × (r ≤ℤ v)) ⊎ ((v ≤ℤ r) × (r ≤ℤ pos 0))
between k (pos a) r h e = let m = remainder k (pos a) h in inl (omega (arith, ints), omega (arith, ints))
between k (negsuc a) r h e = let m = remainder k (negsuc a) h in inr (omega (arith, ints), omega (arith, ints))

-- a value less a remainder of its sign is a number of 64 bits
fits_less : (v m : ℤ) → SFits w64 v → ((pos 0 ≤ℤ m) × (m ≤ℤ v)) ⊎ ((v ≤ℤ m) × (m ≤ℤ pos 0)) → to_z w64 (of_z w64 (v -ℤ to_z w64 (of_z w64 m))) ≡ v -ℤ m
fits_less v m f (inl s) = omega (arith, ints)
fits_less v m f (inr s) = omega (arith, ints)

pub less_fits : (k : ℕ) (v : ℤ) → 0 < k → SFits w64 v → to_z w64 (of_z w64 (v -ℤ to_z w64 (of_z w64 (rem_z v (pos k))))) ≡ v -ℤ rem_z v (pos k)
less_fits k v h f = fits_less v (rem_z v (pos k)) f (remainder k v h)
