-- How a name is folded, from the front.
use Rattle.std.proofs.Common.{◌≡◌, ℕ, ◌-◌, ◌<◌, ◌≤◌, false, eqb, List, [], ◌∷◌, length, get_or, take, drop, refl, ap, arith}
use Rattle.std.proofs.lemmas.List.{take_all, length-drop}
use Rattle.std.proofs.lemmas.Bool.{cond-false, and_right}
use Rattle.std.specs.Char.{to_ascii_lowercase}
use Rattle.truncation.specs.Names.{folded, folded_past, kelvin}

rest_all : (k : ℕ) (xs : List ℕ) → take (length xs - k) (drop k xs) ≡ drop k xs
rest_all k xs = take_all (length xs - k) (drop k xs) (let e = length-drop k xs in omega arith)

pub empty_name : (xs : List ℕ) → length xs < 1 → folded xs ≡ []
unfolding folded_past
empty_name [] h = refl
empty_name (x ∷ xs) h = absurd (omega arith)

pub kelvin_front : (xs : List ℕ) → 3 ≤ length xs → get_or xs 0 0 ≡ 226 → get_or xs 1 0 ≡ 132 → get_or xs 2 0 ≡ 170 → folded xs ≡ 107 ∷ folded (take (length xs - 3) (drop 3 xs))
unfolding folded_past
kelvin_front [] h a b d = absurd (omega arith)
kelvin_front (x ∷ []) h a b d = absurd (omega arith)
kelvin_front (x ∷ y ∷ []) h a b d = absurd (omega arith)
kelvin_front (x ∷ y ∷ z ∷ xs) h a b d = rw (rest_all 3 (x ∷ y ∷ z ∷ xs)) (rw (a, b, d) refl)

pub plain_front : (xs : List ℕ) → 1 ≤ length xs → kelvin xs ≡ false → folded xs ≡ to_ascii_lowercase (get_or xs 0 0) ∷ folded (take (length xs - 1) (drop 1 xs))
unfolding folded_past
plain_front [] h k = absurd (omega arith)
plain_front (x ∷ xs) h k = rw (rest_all 1 (x ∷ xs)) (cond-false (kelvin (x ∷ xs)) (107 ∷ folded_past 2 xs) (to_ascii_lowercase x ∷ folded_past 0 xs) k)

-- no sign fits in front
pub too_short : (xs : List ℕ) → length xs < 3 → kelvin xs ≡ false
too_short [] h = refl
too_short (x ∷ []) h = and_right (eqb x 226) _ refl
too_short (x ∷ y ∷ []) h = and_right (eqb x 226) _ (and_right (eqb y 132) _ refl)
too_short (x ∷ y ∷ z ∷ xs) h = absurd (omega arith)

-- a word from its front
pub front_of : (w : List ℕ) (b : ℕ) → 1 ≤ length w → get_or w 0 0 ≡ b → w ≡ b ∷ take (length w - 1) (drop 1 w)
front_of [] b h e = absurd (omega arith)
front_of (x ∷ xs) b h e = rw (rest_all 1 (x ∷ xs)) (ap (λ y. y ∷ xs) e)
