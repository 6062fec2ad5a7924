-- The greatest of some integers that is not after another.
use Rattle.std.specs.Prelude.{◌≡◌, ℕ, ℤ, pos, ◌*ℤ◌, ◌≤ℤ◌}

-- s is the greatest number with the property P that is not after n
pub record GreatestNotAfter (P : ℤ → Type 0) (n s : ℤ) : Type 0 where
  pub is_one : P s
  pub not_after : s ≤ℤ n
  pub greatest : (t : ℤ) → P t → t ≤ℤ n → t ≤ℤ s

-- t is k times a number with the property P
pub record TimesOne (P : ℤ → Type 0) (k : ℕ) (t : ℤ) : Type 0 where
  pub number : ℤ
  pub is_one : P number
  pub product : t ≡ pos k *ℤ number

abbrev pub Every : ℤ → Type 0
Every n = Unit {0}

-- t is a whole multiple of k
abbrev pub MultipleOf : ℕ → ℤ → Type 0
MultipleOf k = TimesOne Every k
