-- Quotients rounded down and remainders of integers by a positive number, in the form that `omega` reads: an integer z is `up z - down z`.
use Rattle.std.proofs.Common.{◌≡◌, ℕ, zero, suc, ◌+◌, ◌*◌, ◌/◌, ◌<◌, ◌⊎◌, ℤ, pos, negsuc, ◌*ℤ◌, nat_abs, sym, refl, ap, ◌∙◌, inl, inr, arith}
use borrow.Author.Differences.{ints, up, down}
use lib.Arith.{digits_div}
use lib.IntN.{pred_ℤ, suc_ℤ}
use Rattle.std.proofs.lemmas.Bool.{cases_eq}
use Rattle.std.specs.Int.{int_div_euclid, int_rem_euclid}

-- the remainder of z by k
abbrev pub rem : ℤ → ℕ → ℕ
rem z k = nat_abs (int_rem_euclid z (pos k))

-- the quotient, rounded down
abbrev pub quot : ℤ → ℕ → ℤ
quot z k = int_div_euclid z (pos k)

-- the remainder is not negative
pub rem_is : (z : ℤ) (k : ℕ) → int_rem_euclid z (pos k) ≡ pos (rem z k)
rem_is (pos a) k = refl
rem_is (negsuc a) k = refl

-- z is k times its quotient, and a remainder below k
pub floor_is : (z : ℤ) (k : ℕ) → 0 < k → (up z + k * down (quot z k) ≡ down z + k * up (quot z k) + rem z k) × (rem z k < k)
floor_is (pos a) k h = omega arith
floor_is (negsuc a) k h = omega arith

pub pred_is : (z : ℤ) → up (pred_ℤ z) + down z + 1 ≡ down (pred_ℤ z) + up z
pred_is (pos zero) = omega arith
pred_is (pos (suc n)) = omega arith
pred_is (negsuc n) = omega arith

pub suc_is : (z : ℤ) → up (suc_ℤ z) + down z ≡ down (suc_ℤ z) + up z + 1
suc_is (pos n) = omega arith
suc_is (negsuc zero) = omega arith
suc_is (negsuc (suc n)) = omega arith

-- two ways to write a number as k times a quotient and a remainder are one
pub same_quotient : (k a b r s : ℕ) → r < k → s < k → a * k + r ≡ b * k + s → a ≡ b
same_quotient k a b r s h l e = sym (digits_div a h) ∙ ap (λ (n : ℕ). n / k) e ∙ digits_div b l

-- k times a quotient is one more than k times another and a remainder: either at a multiple of k, or with the same quotient
step : (k a b r s : ℕ) → r < k → s < k → a * k + r ≡ b * k + s + 1 → ((r ≡ 0) × (a ≡ b + 1)) ⊎ ((0 < r) × (a ≡ b))
step k a b r s h l e = elim (cases_eq (s + 1) k) [
  | inl f ↦
      let g : a ≡ b + 1 = same_quotient k a (b + 1) r 0 h (omega arith) (omega arith) in
      let m : a * k ≡ (b + 1) * k = ap (λ (n : ℕ). n * k) g in
      inl (omega arith, g)
  | inr n ↦
      let g : a ≡ b = same_quotient k a b r (s + 1) h (omega arith) (omega arith) in
      let m : a * k ≡ b * k = ap (λ (n : ℕ). n * k) g in
      inr (omega arith, g)
]

-- the quotient grows by one at each multiple of k, and nowhere else
pub floor_step : (z : ℤ) (k : ℕ) → 0 < k → ((rem z k ≡ 0) × (up (quot z k) + down (quot (pred_ℤ z) k) ≡ down (quot z k) + up (quot (pred_ℤ z) k) + 1)) ⊎ ((0 < rem z k) × (up (quot z k) + down (quot (pred_ℤ z) k) ≡ down (quot z k) + up (quot (pred_ℤ z) k)))
floor_step z k h =
    let f = floor_is z k h in
    let g = floor_is (pred_ℤ z) k h in
    let p = pred_is z in
    elim (step k (up (quot z k) + down (quot (pred_ℤ z) k)) (down (quot z k) + up (quot (pred_ℤ z) k)) (rem z k) (rem (pred_ℤ z) k) f.1 g.1 (omega arith)) [
      | inl e ↦ inl (e.0, omega arith)
      | inr e ↦ inr (e.0, omega arith)
    ]

-- a product by a natural, for `omega`
pub times : (k : ℕ) (z : ℤ) → up (pos k *ℤ z) + k * down z ≡ down (pos k *ℤ z) + k * up z
times k z = omega (arith, ints)
