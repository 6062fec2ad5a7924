-- A clock that changes at most once in 172,800 seconds in a row keeps the laws on readings: for no candidate second of a
-- reading lies more than 86,340 seconds away from it.
use Rattle.std.proofs.Common.{◌≡◌, ℤ, pos, ◌+ℤ◌, ◌-ℤ◌, ◌≤ℤ◌, ◌<ℤ◌, refl, arith}
use Rattle.std.proofs.lemmas.Int.{ints, by_lt_z}
use Rattle.arith.specs.Clock.{reads, minute, LawfulOffset, SkippedBy, Passes, Lawful}

-- what the clock does in the 172,800 seconds from a on: one offset up to a second, one from there
pub record Window (offset : ℤ → ℤ) (a : ℤ) : Type 0 where
  pub change : ℤ
  pub old : ℤ
  pub new : ℤ
  pub before : (s : ℤ) → a ≤ℤ s → s <ℤ (a +ℤ pos 172_800) → s <ℤ change → offset s ≡ old
  pub after : (s : ℤ) → a ≤ℤ s → s <ℤ (a +ℤ pos 172_800) → change ≤ℤ s → offset s ≡ new

-- a clock that never changes
abbrev pub still : (o a : ℤ) → Window (λ _. o) a
still o a = record { change = a +ℤ pos 172_800; old = o; new = o; before = λ _ _ _ _. refl; after = λ _ _ _ _. refl }

module _ (offset : ℤ → ℤ) (each : (s : ℤ) → LawfulOffset (offset s)) (window : (a : ℤ) → Window offset a) where
  twice : (a b c : ℤ) → a <ℤ b → b <ℤ c → reads offset a ≡ reads offset b → reads offset b ≡ reads offset c → ⊥
  twice a b c ab bc e f =
      let w = window (reads offset a -ℤ pos 86_400) in
      let la = each a in
      let lb = each b in
      let lc = each c in
      by_lt_z b w.change
      (λ h.
      let oa : offset a ≡ w.old = w.before a (omega (arith, ints)) (omega (arith, ints)) (omega (arith, ints)) in
      let ob : offset b ≡ w.old = w.before b (omega (arith, ints)) (omega (arith, ints)) h in
      omega (arith, ints))
      (λ h.
      let ob : offset b ≡ w.new = w.after b (omega (arith, ints)) (omega (arith, ints)) h in
      let oc : offset c ≡ w.new = w.after c (omega (arith, ints)) (omega (arith, ints)) (omega (arith, ints)) in
      omega (arith, ints))

  module _ (r : ℤ) (skipped : SkippedBy offset r) where
    low_side : (s : ℤ) → (r -ℤ pos 86_400) ≤ℤ s → s <ℤ (r +ℤ pos 86_400) → s <ℤ (window (r -ℤ pos 86_400)).change → reads offset s <ℤ r
    low_side s from to h =
        let w = window (r -ℤ pos 86_400) in
        let ls = each s in
        let os : offset s ≡ w.old = w.before s from (omega (arith, ints)) h in
        by_lt_z (r -ℤ w.old) w.change
        (λ k.
        let ot : offset (r -ℤ w.old) ≡ w.old = w.before (r -ℤ w.old) (omega (arith, ints)) (omega (arith, ints)) k in
        absurd (skipped (r -ℤ w.old) (omega (arith, ints))))
        (λ k. omega (arith, ints))

    high_side : (s : ℤ) → (r -ℤ pos 86_400) ≤ℤ s → s <ℤ (r +ℤ pos 86_400) → (window (r -ℤ pos 86_400)).change ≤ℤ s → r <ℤ reads offset s
    high_side s from to h =
        let w = window (r -ℤ pos 86_400) in
        let ls = each s in
        let os : offset s ≡ w.new = w.after s from (omega (arith, ints)) h in
        by_lt_z (r -ℤ w.new) w.change
        (λ k. omega (arith, ints))
        (λ k.
        let ot : offset (r -ℤ w.new) ≡ w.new = w.after (r -ℤ w.new) (omega (arith, ints)) (omega (arith, ints)) k in
        absurd (skipped (r -ℤ w.new) (omega (arith, ints))))

    -- the change lies between the two ends
    change_low : (r -ℤ pos 86_341) <ℤ (window (r -ℤ pos 86_400)).change
    change_low =
        let u = (window (r -ℤ pos 86_400)).change in
        let lo = each (r -ℤ pos 86_341) in
        by_lt_z (r -ℤ pos 86_341) u (λ h. h)
        (λ h. let no = high_side (r -ℤ pos 86_341) (omega (arith, ints)) (omega (arith, ints)) h in omega (arith, ints))

    change_high : (window (r -ℤ pos 86_400)).change ≤ℤ (r +ℤ pos 86_341)
    change_high =
        let u = (window (r -ℤ pos 86_400)).change in
        let hi = each (r +ℤ pos 86_341) in
        by_lt_z (r +ℤ pos 86_341) u
        (λ h. let no = low_side (r +ℤ pos 86_341) (omega (arith, ints)) (omega (arith, ints)) h in omega (arith, ints))
        (λ h. h)

    passed : Passes offset r (window (r -ℤ pos 86_400)).change
    passed =
        let u = (window (r -ℤ pos 86_400)).change in
        let lo = change_low in
        let hi = change_high in
        record {
          earlier = low_side (u -ℤ pos 1) (omega (arith, ints)) (omega (arith, ints)) (omega (arith, ints));
          later = high_side u (omega (arith, ints)) (omega (arith, ints)) (omega (arith, ints));
        }

    only : (t : ℤ) → Passes offset r t → t ≡ (window (r -ℤ pos 86_400)).change
    only t p =
        let u = (window (r -ℤ pos 86_400)).change in
        let lt = each t in
        let lt' = each (t -ℤ pos 1) in
        let e = p.earlier in
        let l = p.later in
        by_lt_z t u
        (λ h. let no = low_side t (omega (arith, ints)) (omega (arith, ints)) h in absurd (omega (arith, ints)))
        (λ h. by_lt_z (t -ℤ pos 1) u
        (λ k. omega (arith, ints))
        (λ k. let no = high_side (t -ℤ pos 1) (omega (arith, ints)) (omega (arith, ints)) k in absurd (omega (arith, ints))))

  pub lawful_from_windows : ((s t : ℤ) → minute s ≡ minute t → offset s ≡ offset t) → Lawful offset
  lawful_from_windows steady = record {
    each = each;
    steady = steady;
    twice = twice;
    once = λ r skipped. ((window (r -ℤ pos 86_400)).change, passed r skipped, only r skipped);
  }

pub still_lawful : (o : ℤ) → LawfulOffset o → Lawful (λ _. o)
still_lawful o lawful = lawful_from_windows (λ _. o) (λ _. lawful) (still o) (λ _ _ _. refl)
