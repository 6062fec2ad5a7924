-- The instant of a boundary, from where its second stands on the clock.
use Rattle.std.proofs.Common.{◌≡◌, ℕ, ◌<◌, ◌⊎◌, ℤ, pos, ◌+ℤ◌, ◌-ℤ◌, ◌*ℤ◌, ◌≤ℤ◌, ◌<ℤ◌, sym, ap, ◌∙◌, inl, inr, ⊎_elim, arith, lit<}
use Rattle.std.proofs.lemmas.Int.{ints}
use Rattle.arith.proofs.Floors.{rem, floor_is}
use Rattle.arith.proofs.Multiples.{floor_unique}
use Rattle.arith.proofs.Passing.{never_after}
use Rattle.arith.specs.Clock.{reads, SkippedBy, ShownOnce, ShownTwice, Passes, Lawful}
use Rattle.arith.specs.Instants.{second_of, offset_of, reading_of, Shown, PassesAt, InstantOf, OnlyOne}

-- whole seconds and nanoseconds since
pub second_is : (s : ℤ) (n : ℕ) → n < 1_000_000_000 → second_of (pos 1_000_000_000 *ℤ s +ℤ pos n) ≡ s
second_is s n h = (floor_unique (pos 1_000_000_000 *ℤ s +ℤ pos n) s 1_000_000_000 n h (omega (arith, ints))).0

pub whole_second : (s : ℤ) → second_of (pos 1_000_000_000 *ℤ s) ≡ s
whole_second s = (floor_unique (pos 1_000_000_000 *ℤ s) s 1_000_000_000 0 (lit< tt) (omega (arith, ints))).0

-- so many seconds later
seconds_later : (b k : ℤ) → second_of (b +ℤ pos 1_000_000_000 *ℤ k) ≡ second_of b +ℤ k
seconds_later b k =
    let f = floor_is b 1_000_000_000 (lit< tt) in
    (floor_unique (b +ℤ pos 1_000_000_000 *ℤ k) (second_of b +ℤ k) 1_000_000_000 (rem b 1_000_000_000) f.1 (omega (arith, ints, f.0))).0

-- the instant in the second m, at the fraction of b
abbrev pub in_second : ℤ → ℤ → ℤ
in_second b m = b +ℤ pos 1_000_000_000 *ℤ (m -ℤ second_of b)

second_in : (b m : ℤ) → second_of (in_second b m) ≡ m
second_in b m = let e = seconds_later b (m -ℤ second_of b) in omega (arith, ints)

pub not_before_second : (t : ℤ) → (pos 1_000_000_000 *ℤ second_of t) ≤ℤ t
not_before_second t = let f = floor_is t 1_000_000_000 (lit< tt) in omega (arith, ints, f.0)

-- the second of a reading is the reading of the second
pub second_of_reading : (offset : ℤ → ℤ) (x : ℤ) → second_of (reading_of offset x) ≡ reads offset (second_of x)
second_of_reading offset x = seconds_later x (offset_of offset x)

module _ (offset : ℤ → ℤ) (b : ℤ) where
  -- a second that has the reading of b's second reads as b at b's fraction
  reads_as : (m : ℤ) → reads offset m ≡ second_of b → reading_of offset (in_second b m) ≡ b
  reads_as m e =
      let o : offset_of offset (in_second b m) ≡ offset m = ap offset (second_in b m) in
      omega (arith, ints)

  -- an instant that reads as b is in such a second, at b's fraction
  second_reads : (x : ℤ) → reading_of offset x ≡ b → reads offset (second_of x) ≡ second_of b
  second_reads x e = sym (second_of_reading offset x) ∙ ap second_of e

  at_fraction : (x : ℤ) → reading_of offset x ≡ b → x ≡ in_second b (second_of x)
  at_fraction x e = let r = second_reads x e in omega (arith, ints)

  at_second : (x m : ℤ) → reading_of offset x ≡ b → second_of x ≡ m → x ≡ in_second b m
  at_second x m e f = at_fraction x e ∙ ap (in_second b) f

  hidden : SkippedBy offset (second_of b) → Shown offset b → ⊥
  hidden skipped (x, e) = skipped (second_of x) (second_reads x e)

  skipped_second : (Shown offset b → ⊥) → SkippedBy offset (second_of b)
  skipped_second none m e = none (in_second b m, reads_as m e)

-- ---- of one second with the reading

module _ (offset : ℤ → ℤ) (t b m : ℤ) (p : ShownOnce offset (second_of b) m) where
  only_in : (x : ℤ) → reading_of offset x ≡ b → x ≡ in_second b m
  only_in x e = at_second offset b x m e (p.only (second_of x) (second_reads offset b x e))

  pub of_one : OnlyOne (InstantOf offset t b) (in_second b m)
  of_one =
      let r = reads_as offset b m p.shown in
      record {
        is_one = record {
          shown = λ _. r;
          first = λ x y l e f o. sym (only_in x e);
          second = λ x y l e f o. sym (only_in y f);
          passed = λ none. absurd (none (in_second b m, r));
          before = λ none. absurd (none (in_second b m, r));
        };
        only = λ x i. only_in x (i.shown (in_second b m, r));
      }

-- ---- of two seconds

module _ (offset : ℤ → ℤ) (t b m n : ℤ) (p : ShownTwice offset (second_of b) m n) where
  either_in : (x : ℤ) → reading_of offset x ≡ b → (x ≡ in_second b m) ⊎ (x ≡ in_second b n)
  either_in x e = ⊎_elim (λ f. inl (at_second offset b x m e f)) (λ f. inr (at_second offset b x n e f)) (p.only (second_of x) (second_reads offset b x e))

  ordered : in_second b m <ℤ in_second b n
  ordered = let l = p.ascending in omega (arith, ints)

  first_in : (x y : ℤ) → x <ℤ y → reading_of offset x ≡ b → reading_of offset y ≡ b → x ≡ in_second b m
  first_in x y l e f =
      let o = ordered in
      ⊎_elim (λ g. g)
      (λ (g : x ≡ in_second b n). ⊎_elim (λ (h : y ≡ in_second b m). absurd (omega (arith, ints))) (λ (h : y ≡ in_second b n). absurd (omega (arith, ints))) (either_in y f))
      (either_in x e)

  second_at : (x y : ℤ) → x <ℤ y → reading_of offset x ≡ b → reading_of offset y ≡ b → y ≡ in_second b n
  second_at x y l e f =
      let o = ordered in
      ⊎_elim
      (λ (g : y ≡ in_second b m). ⊎_elim (λ (h : x ≡ in_second b m). absurd (omega (arith, ints))) (λ (h : x ≡ in_second b n). absurd (omega (arith, ints))) (either_in x e))
      (λ g. g)
      (either_in y f)

  reads_first : reading_of offset (in_second b m) ≡ b
  reads_first = reads_as offset b m p.first

  reads_second : reading_of offset (in_second b n) ≡ b
  reads_second = reads_as offset b n p.second

  -- the offset at an instant of the first second
  offset_first : (x : ℤ) → x ≡ in_second b m → offset_of offset x ≡ offset m
  offset_first x e = ap (offset_of offset) e ∙ ap offset (second_in b m)

  pub of_first : offset m ≡ offset_of offset t → OnlyOne (InstantOf offset t b) (in_second b m)
  of_first same = record {
    is_one = record {
      shown = λ _. reads_first;
      first = λ x y l e f o. sym (first_in x y l e f);
      second = λ x y l e f o. absurd (o (offset_first x (first_in x y l e f) ∙ same));
      passed = λ none. absurd (none (in_second b m, reads_first));
      before = λ none. absurd (none (in_second b m, reads_first));
    };
    only = λ x i. i.first (in_second b m) (in_second b n) ordered reads_first reads_second (ap offset (second_in b m) ∙ same);
  }

  pub of_second : (offset m ≡ offset_of offset t → ⊥) → OnlyOne (InstantOf offset t b) (in_second b n)
  of_second other = record {
    is_one = record {
      shown = λ _. reads_second;
      first = λ x y l e f o. absurd (other (sym (offset_first x (first_in x y l e f)) ∙ o));
      second = λ x y l e f o. sym (second_at x y l e f);
      passed = λ none. absurd (none (in_second b n, reads_second));
      before = λ none. absurd (none (in_second b n, reads_second));
    };
    only = λ x i. i.second (in_second b m) (in_second b n) ordered reads_first reads_second (λ o. other (sym (ap offset (second_in b m)) ∙ o));
  }

-- ---- of a second at which the clock passes a skipped reading

module _ (offset : ℤ → ℤ) (law : Lawful offset) (t b s : ℤ) (skipped : SkippedBy offset (second_of b)) (p : Passes offset (second_of b) s) (whole : b ≡ pos 1_000_000_000 *ℤ second_of b) (l : b ≤ℤ reading_of offset t) where
  whole_at : in_second b s ≡ pos 1_000_000_000 *ℤ s
  whole_at = omega (arith, ints)

  reads_at : (a x : ℤ) → a ≡ pos 1_000_000_000 *ℤ x → reading_of offset a ≡ pos 1_000_000_000 *ℤ reads offset x
  reads_at a x e =
      let o : offset_of offset a ≡ offset x = ap (offset_of offset) e ∙ ap offset (whole_second x) in
      omega (arith, ints)

  passes_at : PassesAt offset b (in_second b s)
  passes_at =
      let h = reads_at (in_second b s) s whole_at in
      let w = whole_at in
      let g = reads_at (in_second b s -ℤ pos 1_000_000_000) (s -ℤ pos 1) (omega (arith, ints)) in
      let e = p.earlier in
      let f = p.later in
      record { second = s; whole = whole_at; earlier = omega (arith, ints); later = omega (arith, ints) }

  passed_second : (a : ℤ) → PassesAt offset b a → a ≡ in_second b s
  passed_second a q =
      let x = q.second in
      let w = q.whole in
      let h = reads_at a x w in
      let g = reads_at (a -ℤ pos 1_000_000_000) (x -ℤ pos 1) (omega (arith, ints)) in
      let e = q.earlier in
      let f = q.later in
      let only = (law.once (second_of b) skipped).2 in
      let same : x ≡ s = only x (record { earlier = omega (arith, ints); later = omega (arith, ints) }) ∙ sym (only s p) in
      let v = whole_at in
      omega (arith, ints)

  never_after_source : in_second b s ≤ℤ t
  never_after_source =
      let f = floor_is (reading_of offset t) 1_000_000_000 (lit< tt) in
      let r = second_of_reading offset t in
      let reached : second_of b ≤ℤ reads offset (second_of t) = omega (arith, ints, f.0, f.1) in
      let n = never_after offset law (second_of b) skipped s (second_of t) p reached in
      let w = whole_at in
      let k = not_before_second t in
      omega (arith, ints)

  pub of_passing : OnlyOne (InstantOf offset t b) (in_second b s)
  of_passing =
      let none = hidden offset b skipped in
      record {
        is_one = record {
          shown = λ x. absurd (none x);
          first = λ x y l e f o. absurd (none (x, e));
          second = λ x y l e f o. absurd (none (x, e));
          passed = λ _. passes_at;
          before = λ _. never_after_source;
        };
        only = λ x i. passed_second x (i.passed none);
      }
