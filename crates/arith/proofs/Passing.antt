-- Where a lawful clock passes a reading that it skips.
use Rattle.std.proofs.Common.{◌≡◌, ℕ, zero, suc, ℤ, pos, ◌+ℤ◌, ◌-ℤ◌, nat_abs, ◌≤ℤ◌, ◌<ℤ◌, sym, ◌∙◌, arith}
use Rattle.std.proofs.lemmas.Int.{ints, by_lt_z}
use Rattle.arith.specs.Clock.{reads, SkippedBy, Passes, Lawful}

module _ (offset : ℤ → ℤ) (law : Lawful offset) (r : ℤ) (skipped : SkippedBy offset r) where
  either : {P : Type 0} (s : ℤ) → (reads offset s <ℤ r → P) → (r <ℤ reads offset s → P) → P
  either s low high =
      by_lt_z (reads offset s) r low
      (λ h. by_lt_z r (reads offset s) high (λ k. absurd (skipped s (omega (arith, ints)))))

  -- between a second that reads earlier and a later one that reads later there is one at which the clock passes r
  between : (n : ℕ) (lo hi : ℤ) → hi ≡ (lo +ℤ pos n) → reads offset lo <ℤ r → r <ℤ reads offset hi → (t : ℤ) × ((lo <ℤ t) × (t ≤ℤ hi)) × Passes offset r t
  between zero lo hi e low high = let same : hi ≡ lo = omega (arith, ints) in absurd (absurd_at hi lo same low high)
    where
      absurd_at : (a b : ℤ) → a ≡ b → reads offset b <ℤ r → r <ℤ reads offset a → ⊥
      absurd_at a b e low high = let again = rw e at high in omega (arith, ints)
  between (suc n) lo hi e low high =
      either (hi -ℤ pos 1)
      (λ h. (hi, (omega (arith, ints), omega (arith, ints)), record { earlier = h; later = high }))
      (λ h. let p = between n lo (hi -ℤ pos 1) (omega (arith, ints)) low h in (p.0, (p.1.0, (let q = p.1.1 in omega (arith, ints))), p.2))

  -- a second that reads later, or is said to have reached r, is not before the one at which the clock passes r
  pub never_after : (p s : ℤ) → Passes offset r p → r ≤ℤ reads offset s → p ≤ℤ s
  never_after p s pass h =
      let lo = r -ℤ pos 86_341 in
      let far = law.each lo in
      let near = law.each s in
      let n = nat_abs (s -ℤ lo) in
      let low : reads offset lo <ℤ r = omega (arith, ints) in
      either s (λ k. absurd (omega (arith, ints)))
      (λ k.
      let found = between n lo s (omega (arith, ints)) low k in
      let only = law.once r skipped in
      let same : found.0 ≡ p = only.2 found.0 found.2 ∙ sym (only.2 p pass) in
      let at = found.1 in
      omega (arith, ints))

  -- and one that reads earlier is before it
  pub earlier_before : (p s : ℤ) → Passes offset r p → reads offset s <ℤ r → s <ℤ p
  earlier_before p s pass h =
      let hi = r +ℤ pos 86_341 in
      let far = law.each hi in
      let near = law.each s in
      let n = nat_abs (hi -ℤ s) in
      let high : r <ℤ reads offset hi = omega (arith, ints) in
      let found = between n s hi (omega (arith, ints)) h high in
      let only = law.once r skipped in
      let same : found.0 ≡ p = only.2 found.0 found.2 ∙ sym (only.2 p pass) in
      let at = found.1 in
      omega (arith, ints)
