-- The greatest of some numbers, times a length: from days to seconds, and from seconds to instants.
use Rattle.std.proofs.Common.{◌≡◌, ℕ, ◌+◌, ◌<◌, ◌≤◌, ℤ, pos, ◌*ℤ◌, ◌≤ℤ◌, sym, refl, subst, mul-le-mul_left, arith}
use borrow.Author.Differences.{ints, up, down}
use Rattle.arith.proofs.Floors.{rem, quot, floor_is, times}
use Rattle.arith.proofs.Multiples.{apart}
use Rattle.arith.specs.Greatest.{GreatestNotAfter, TimesOne, Every, MultipleOf}

scaled : (k : ℕ) (x y : ℤ) → x ≤ℤ y → (pos k *ℤ x) ≤ℤ (pos k *ℤ y)
scaled k x y h =
    let l : up x + down y ≤ up y + down x = omega (arith, ints) in
    omega (arith, ints, times k x, times k y, mul-le-mul_left k l)

-- a multiple not after t is not after the quotient's
within : (k : ℕ) (t n : ℤ) → 0 < k → (pos k *ℤ n) ≤ℤ t → n ≤ℤ quot t k
within k t n h l =
    let f = floor_is t k h in
    let b = apart k (up n + down (quot t k)) (up (quot t k) + down n) (rem t k) f.1 (omega (arith, ints, f.0, times k n)) in
    omega (arith, ints)

floor_before : (k : ℕ) (t : ℤ) → 0 < k → (pos k *ℤ quot t k) ≤ℤ t
floor_before k t h = let f = floor_is t k h in omega (arith, ints, f.0, times k (quot t k))

-- the greatest of some numbers not after t / k, times k, is the greatest of those products not after t
pub lift : (P : ℤ → Type 0) (k : ℕ) (t s : ℤ) → 0 < k → GreatestNotAfter P (quot t k) s → GreatestNotAfter (TimesOne P k) t (pos k *ℤ s)
lift P k t s h g = record {
  is_one = record { number = s; is_one = g.is_one; product = refl };
  not_after = omega (arith, ints, scaled k s (quot t k) g.not_after, floor_before k t h);
  greatest = λ u f l. below u f l;
}
  where
    below : (u : ℤ) → TimesOne P k u → u ≤ℤ t → u ≤ℤ (pos k *ℤ s)
    below u f l =
        let n = f.number in
        let m : (pos k *ℤ n) ≤ℤ t = omega (arith, ints, f.product) in
        let i = g.greatest n f.is_one (within k t n h m) in
        omega (arith, ints, f.product, scaled k n s i)

-- every number is the greatest not after itself
pub greatest_every : (n : ℤ) → GreatestNotAfter Every n n
greatest_every n = record { is_one = tt; not_after = omega (arith, ints); greatest = λ t _ l. l }

-- and so the greatest multiple is k times the quotient
pub greatest_whole : (k : ℕ) (t b : ℤ) → 0 < k → b ≡ (pos k *ℤ quot t k) → GreatestNotAfter (MultipleOf k) t b
greatest_whole k t b h e = subst (GreatestNotAfter (MultipleOf k) t) (sym e) (lift Every k t (quot t k) h (greatest_every (quot t k)))

-- there is one greatest
pub same_greatest : (P : ℤ → Type 0) (n s t : ℤ) → GreatestNotAfter P n s → GreatestNotAfter P n t → s ≡ t
same_greatest P n s t g h =
    let l = g.greatest t h.is_one h.not_after in
    let m = h.greatest s g.is_one g.not_after in
    omega (arith, ints)
