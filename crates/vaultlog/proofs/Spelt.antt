-- Digits that are read one by one, and the parts of a text.
use Rattle.std.proofs.Common.{◌≡◌, ℕ, zero, suc, ◌+◌, ◌-◌, ◌*◌, ◌^◌, ◌<◌, ◌≤◌, List, [], ◌∷◌, ◌++◌, length, get_or, take, drop, Some, None, Option, sym, refl, ap, ◌∙◌, subst, inl, inr, add-suc, add-zero, arith, lit<, length-drop, MatchOption}
use Rattle.std.proofs.lemmas.List.{get_or_past, get_or_push, length_push, take_all}
use Rattle.std.proofs.Math.Nat.{mul-lt-mul_of_pos_right, one-le-pow, pow-le-pow_right, pow-suc}
use Rattle.std.proofs.Math.Seq.{take-append_seam, take-suc}
use Rattle.std.proofs.lemmas.Nat.{pow-add}
use Rattle.std.specs.List.{AllByRecursion}
use Rattle.vaultlog.specs.Digits.{IsDigit, AllDigits, first_of}
use Rattle.vaultlog.specs.Spelling.{Clock, AtTime, AfterDate}
use Rattle.vaultlog.specs.declared.instant.TimeParts.{TimeParts}

-- ---- digits

pub each_digit : (ds : List ℕ) → AllDigits ds → AllByRecursion IsDigit ds
each_digit [] h = tt
each_digit (d ∷ ds) h = (h 0 (omega arith), each_digit ds (λ k l. h (suc k) (omega arith)))

pub digit_at : (ds : List ℕ) → AllByRecursion IsDigit ds → AllDigits ds
digit_at [] h k l = absurd (omega arith)
digit_at (d ∷ ds) h zero l = h.0
digit_at (d ∷ ds) h (suc k) l = digit_at ds h.1 k (omega arith)

below : (ds : List ℕ) (n : ℕ) → ((k : ℕ) → k < n → IsDigit (get_or ds k 48)) → first_of ds n < 10 ^ n
below ds zero h = omega arith
below ds (suc n) h =
    let l = below ds n (λ k m. h k (omega arith)) in
    let d = h n (omega arith) in
    omega (arith, pow-suc 10 n)

-- eight digits at most
pub eight : (ds : List ℕ) (n : ℕ) → n < 9 → ((k : ℕ) → k < n → IsDigit (get_or ds k 48)) → first_of ds n < 100_000_000
eight ds n h d = let more = pow-le-pow_right {n = 10} (lit< tt) {i = n} {j = 8} (omega arith) in omega (arith, below ds n d)

-- zeros past the end
padded : (ds : List ℕ) (k : ℕ) → first_of ds (length ds + k) ≡ first_of ds (length ds) * 10 ^ k
padded ds zero = rw add-zero (omega arith)
padded ds (suc k) =
    let e = get_or_past ds (length ds + k) 48 (omega arith) in
    rw (add-suc, pow-suc) (omega (arith, padded ds k))

-- up to nine digits, and zeros up to nine
module _ (ds : List ℕ) (most : length ds ≤ 9) where
  nine_places : length ds + (9 - length ds) ≡ 9
  nine_places = omega arith

  pub nine : first_of ds (length ds) * 10 ^ (9 - length ds) ≡ first_of ds 9
  nine = sym (padded ds (9 - length ds)) ∙ ap (first_of ds) nine_places

  pub below_nine : AllDigits ds → first_of ds (length ds) * 10 ^ (9 - length ds) < 1_000_000_000
  below_nine h =
      let l = mul-lt-mul_of_pos_right {k = 10 ^ (9 - length ds)} (below ds (length ds) h) (one-le-pow (9 - length ds) 10 (lit< tt)) in
      omega (arith, pow-add 10 (length ds) (9 - length ds), ap (λ n. 10 ^ n) nine_places)

-- ---- the rest of a text

pub rest_is : (bs : List ℕ) (k : ℕ) → take (length bs - k) (drop k bs) ≡ drop k bs
rest_is bs k = take_all (length bs - k) (drop k bs) (omega (arith, length-drop k bs))

-- T, a time, and Z
module _ (bs : List ℕ) (t : TimeParts) (w : AtTime bs t) where
  long : length bs ≡ length w.time + 2
  long = omega (arith, ap length w.whole, length_push w.time 90)

  between : take (length bs - 1 - 1) (drop 1 bs) ≡ w.time
  between =
      let n : length bs - 1 - 1 ≡ length w.time = omega (arith, long) in
      (λ i. take (n i) (drop 1 (w.whole i))) ∙ take-append_seam w.time (90 ∷ [])

  pub ends : get_or bs (length bs - 1) 0 ≡ 90
  ends =
      let n : length bs - 1 ≡ suc (length w.time) = omega (arith, long) in
      (λ i. get_or (w.whole i) (n i) 0) ∙ get_or_push w.time 90 0 (length w.time) refl

parted : (bs : List ℕ) → 2 ≤ length bs → bs ≡ get_or bs 0 0 ∷ (take (length bs - 1 - 1) (drop 1 bs) ++ (get_or bs (length bs - 1) 0 ∷ []))
parted [] l = absurd (omega arith)
parted (a ∷ []) l = absurd (omega arith)
parted (a ∷ b ∷ bs) l =
    let m : suc (suc (length bs)) - 1 - 1 ≡ length bs = omega arith in
    let n : suc (suc (length bs)) - 1 ≡ suc (length bs) = omega arith in
    rw (m, n) (ap (λ x. a ∷ x) (sym (take_all (suc (length bs)) (b ∷ bs) (omega arith)) ∙ take-suc (b ∷ bs) (length bs) 0 (omega arith)))

-- what is told of the time is told of the text
pub at_time : (bs : List ℕ) → 2 ≤ length bs → get_or bs 0 0 ≡ 84 → get_or bs (length bs - 1) 0 ≡ 90 → (r : Option TimeParts) → MatchOption r ((t : TimeParts) → Clock (take (length bs - 1 - 1) (drop 1 bs)) t → ⊥) (λ t. Clock (take (length bs - 1 - 1) (drop 1 bs)) t) → MatchOption r ((t : TimeParts) → AfterDate bs t → ⊥) (λ t. AfterDate bs t)
at_time bs l first last None f = λ t h. elim h [
  | inl n ↦ absurd (omega (arith, n.0))
  | inr w ↦ f t (subst (λ x. Clock x t) (sym (between bs t w)) w.clock)
]
at_time bs l first last (Some t) f =
    inr (record { time = take (length bs - 1 - 1) (drop 1 bs); whole = parted bs l ∙ (λ i. first i ∷ (take (length bs - 1 - 1) (drop 1 bs) ++ (last i ∷ []))); clock = f })
