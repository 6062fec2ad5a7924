-- A test that antt computes at every number of a span, and what it says of each of them.
use Rattle.std.proofs.Common.{ℕ, zero, suc, ◌+◌, ◌<◌, ◌≤◌, Bool, true, false, T, subst, inl, inr, arith}
use Rattle.std.proofs.lemmas.Bool.{cases_eq}

abbrev pub both : Bool → Bool → Bool
both true b = b
both false b = false

pub both_left : (a b : Bool) → T (both a b) → T a
both_left true b t = tt
both_left false b t = t

pub both_right : (a b : Bool) → T (both a b) → T b
both_right true b t = t
both_right false b t = absurd t

-- the test f passes at the n numbers from i on
abbrev pub scan : (ℕ → Bool) → ℕ → ℕ → Bool
scan f i zero = true
scan f i (suc n) = both (f i) (scan f (suc i) n)

pub scanned : (f : ℕ → Bool) (i n : ℕ) → T (scan f i n) → (k : ℕ) → i ≤ k → k < i + n → T (f k)
scanned f i zero t k l h = absurd (omega arith)
scanned f i (suc n) t k l h = elim (cases_eq i k) [
  | inl e ↦ subst (λ (x : ℕ). T (f x)) e (both_left (f i) (scan f (suc i) n) t)
  | inr d ↦ scanned f (suc i) n (both_right (f i) (scan f (suc i) n) t) k (omega arith) (omega arith)
]
