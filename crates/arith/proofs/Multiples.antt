-- The greatest multiple of a number that is not after an integer: what every truncation to a fixed length stands on.
use Rattle.std.proofs.Common.{◌≡◌, ℕ, ◌+◌, ◌*◌, ◌<◌, ◌≤◌, ℤ, pos, ◌+ℤ◌, ◌*ℤ◌, ◌≤ℤ◌, ap, inl, inr, mul-le-mul_left, arith}
use borrow.Author.Differences.{ints, up, down}
use lib.IntN.{*ℤ_comm}
use Rattle.std.proofs.lemmas.Bool.{cases_lt}
use Rattle.arith.proofs.Floors.{rem, quot, floor_is, same_quotient, times}
use Rattle.arith.specs.Greatest.{GreatestNotAfter}

-- z is k times q, and a remainder below k: then q is its quotient
pub floor_unique : (z q : ℤ) (k r : ℕ) → r < k → up z + k * down q ≡ down z + k * up q + r → (quot z k ≡ q) × (rem z k ≡ r)
floor_unique z q k r h e =
    let f = floor_is z k (omega arith) in
    let s = same_quotient k (up (quot z k) + down q) (up q + down (quot z k)) (rem z k) r f.1 h (omega (arith, f.0)) in
    let m : (up (quot z k) + down q) * k ≡ (up q + down (quot z k)) * k = ap (λ (n : ℕ). n * k) s in
    (omega (arith, ints), omega (arith, f.0))

-- so many times k, divided by k
pub whole_quotient : (k : ℕ) (t v : ℤ) → 0 < k → v *ℤ pos k ≡ t → quot t k ≡ v
whole_quotient k t v h e = (floor_unique t v k 0 h (omega (arith, ints, times k v, *ℤ_comm v (pos k)))).0

-- what is divided without a remainder is so many times k
pub no_remainder : (k : ℕ) (t : ℤ) → 0 < k → rem t k ≡ 0 → quot t k *ℤ pos k ≡ t
no_remainder k t h e = let f = floor_is t k h in omega (arith, ints, f.0, times k (quot t k), *ℤ_comm (quot t k) (pos k))

-- multiples of k are k apart
pub apart : (k x y r : ℕ) → r < k → k * x ≤ k * y + r → x ≤ y
apart k x y r h l = elim (cases_lt y x) [ inl g ↦ absurd (omega (arith, mul-le-mul_left k g)) | inr g ↦ g ]

-- t plus a is a multiple of k
abbrev pub MultipleFrom : ℕ → ℕ → ℤ → Type 0
MultipleFrom a k t = rem (t +ℤ pos a) k ≡ 0

pub greatest_multiple : (a k : ℕ) (n s : ℤ) → 0 < k → s +ℤ pos (rem (n +ℤ pos a) k) ≡ n → GreatestNotAfter (MultipleFrom a k) n s
greatest_multiple a k n s h e =
    let f = floor_is (n +ℤ pos a) k h in
    let u = floor_unique (s +ℤ pos a) (quot (n +ℤ pos a) k) k 0 h (omega (arith, ints, f.0)) in
    record {
      is_one = u.1;
      not_after = omega (arith, ints);
      greatest = λ t m l. below t m l;
    }
  where
    below : (t : ℤ) → rem (t +ℤ pos a) k ≡ 0 → t ≤ℤ n → t ≤ℤ s
    below t m l =
        let f = floor_is (n +ℤ pos a) k h in
        let g = floor_is (t +ℤ pos a) k h in
        let q = quot (n +ℤ pos a) k in
        let p = quot (t +ℤ pos a) k in
        let b = apart k (up p + down q) (up q + down p) (rem (n +ℤ pos a) k) f.1 (omega (arith, ints, f.0, g.0)) in
        omega (arith, ints, f.0, g.0, mul-le-mul_left k b)
