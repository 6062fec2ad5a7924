-- The seconds with a reading r, from what the clock does in the two days around it.
use Rattle.std.proofs.Common.{◌≡◌, ℤ, pos, ◌+ℤ◌, ◌-ℤ◌, ◌≤ℤ◌, ◌<ℤ◌, inl, inr, arith}
use Rattle.std.proofs.lemmas.Int.{ints, by_lt_z}
use Rattle.arith.proofs.Windows.{Window}
use Rattle.arith.specs.Clock.{reads, LawfulOffset, SkippedBy, ShownOnce, ShownTwice}

module _ (offset : ℤ → ℤ) (each : (s : ℤ) → LawfulOffset (offset s)) (r : ℤ) (w : Window offset (r -ℤ pos 86_400)) where
  -- a second with the reading is one of two
  old_only : (s : ℤ) → reads offset s ≡ r → s <ℤ w.change → s ≡ (r -ℤ w.old)
  old_only s e h =
      let ls = each s in
      let os : offset s ≡ w.old = w.before s (omega (arith, ints)) (omega (arith, ints)) h in
      omega (arith, ints)

  new_only : (s : ℤ) → reads offset s ≡ r → w.change ≤ℤ s → s ≡ (r -ℤ w.new)
  new_only s e h =
      let ls = each s in
      let os : offset s ≡ w.new = w.after s (omega (arith, ints)) (omega (arith, ints)) h in
      omega (arith, ints)

  module _ (x y : ℤ) (xe : x ≡ (r -ℤ w.old)) (ye : y ≡ (r -ℤ w.new)) (lo : LawfulOffset w.old) (ln : LawfulOffset w.new) where
    old_reads : x <ℤ w.change → reads offset x ≡ r
    old_reads h =
        let ox : offset x ≡ w.old = w.before x (omega (arith, ints)) (omega (arith, ints)) h in
        omega (arith, ints)

    new_reads : w.change ≤ℤ y → reads offset y ≡ r
    new_reads h =
        let oy : offset y ≡ w.new = w.after y (omega (arith, ints)) (omega (arith, ints)) h in
        omega (arith, ints)

    pub shown_twice : x <ℤ w.change → w.change ≤ℤ y → ShownTwice offset r x y
    shown_twice h k = record {
      ascending = omega (arith, ints);
      first = old_reads h;
      second = new_reads k;
      only = λ s e. by_lt_z s w.change
          (λ b. let os = old_only s e b in inl (omega (arith, ints)))
          (λ b. let os = new_only s e b in inr (omega (arith, ints)));
    }

    pub shown_before : x <ℤ w.change → y <ℤ w.change → ShownOnce offset r x
    shown_before h k = record {
      shown = old_reads h;
      only = λ s e. by_lt_z s w.change
          (λ b. let os = old_only s e b in omega (arith, ints))
          (λ b. let os = new_only s e b in absurd (omega (arith, ints)));
    }

    pub shown_after : w.change ≤ℤ x → w.change ≤ℤ y → ShownOnce offset r y
    shown_after h k = record {
      shown = new_reads k;
      only = λ s e. by_lt_z s w.change
          (λ b. let os = old_only s e b in absurd (omega (arith, ints)))
          (λ b. let os = new_only s e b in omega (arith, ints));
    }

    pub shown_never : w.change ≤ℤ x → y <ℤ w.change → SkippedBy offset r
    shown_never h k s e = by_lt_z s w.change
        (λ b. let os = old_only s e b in omega (arith, ints))
        (λ b. let os = new_only s e b in omega (arith, ints))

-- two clocks that agree for a day on either side of r show it at the same seconds
module _ (f g : ℤ → ℤ) (lf : (s : ℤ) → LawfulOffset (f s)) (lg : (s : ℤ) → LawfulOffset (g s)) (r : ℤ)
    (alike : (s : ℤ) → (r -ℤ pos 86_400) ≤ℤ s → s <ℤ (r +ℤ pos 86_400) → f s ≡ g s) where
  over : (s : ℤ) → reads f s ≡ r → reads g s ≡ r
  over s e =
      let l = lf s in
      let same : f s ≡ g s = alike s (omega (arith, ints)) (omega (arith, ints)) in
      omega (arith, ints)

  back : (s : ℤ) → reads g s ≡ r → reads f s ≡ r
  back s e =
      let l = lg s in
      let same : f s ≡ g s = alike s (omega (arith, ints)) (omega (arith, ints)) in
      omega (arith, ints)

  pub skipped_alike : SkippedBy f r → SkippedBy g r
  skipped_alike p s e = p s (back s e)

  pub once_alike : (a : ℤ) → ShownOnce f r a → ShownOnce g r a
  once_alike a p = record { shown = over a p.shown; only = λ s e. p.only s (back s e) }

  pub twice_alike : (a b : ℤ) → ShownTwice f r a b → ShownTwice g r a b
  twice_alike a b p = record { ascending = p.ascending; first = over a p.first; second = over b p.second; only = λ s e. p.only s (back s e) }
