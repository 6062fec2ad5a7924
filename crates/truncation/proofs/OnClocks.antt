-- The truncation of an instant on a clock, from where the boundary of its reading stands.
use Rattle.std.proofs.Common.{◌≡◌, ℕ, ◌<◌, ℤ, pos, ◌+ℤ◌, ◌-ℤ◌, ◌*ℤ◌, ◌≤ℤ◌, sym, ap, ◌∙◌, subst, arith, lit<}
use Rattle.std.proofs.lemmas.Int.{ints, by_lt_z}
use Rattle.arith.proofs.Floors.{floor_is}
use Rattle.arith.proofs.Instants.{in_second, second_is, whole_second, second_of_reading, not_before_second, of_one, of_first, of_second, of_passing}
use Rattle.arith.proofs.Lift.{same_greatest}
use Rattle.arith.specs.Clock.{SkippedBy, Lawful}
use Rattle.arith.specs.Greatest.{GreatestNotAfter}
use Rattle.arith.specs.Instants.{second_of, offset_of, reading_of, InstantOf, OnlyOne}
use Rattle.zone.specs.Places.{Stands}
use Rattle.zone.specs.declared.seek.Place.{Place}
use Rattle.zone.specs.declared.seek.Place.TheVariants.{One, Two, Passed}
use Rattle.truncation.specs.Boundaries.{Boundary, OnClock}
use Rattle.truncation.specs.Moments.{Chosen}
use Rattle.truncation.specs.Units.{KeepsUnits}
use Rattle.truncation.specs.declared.granularity.Granularity.{Granularity}
use Rattle.truncation.specs.declared.granularity.Granularity.TheVariants.{Microsecond, Millisecond, Second, Minute, Hour, Day, Week, Month, Quarter, Year}
use Rattle.truncation.proofs.WholeUnits.{whole_units_lem, seconds_away}

by_eq : {P : Type 0} (a b : ℤ) → (a ≡ b → P) → ((a ≡ b → ⊥) → P) → P
by_eq a b same other =
    by_lt_z a b
    (λ l. other (λ (e : a ≡ b). omega (arith, ints)))
    (λ l. by_lt_z b a (λ m. other (λ (e : a ≡ b). omega (arith, ints))) (λ m. same (omega (arith, ints))))

whole : (b s : ℤ) → b ≡ pos 1_000_000_000 *ℤ s → b ≡ pos 1_000_000_000 *ℤ second_of b
whole b s e = let f : second_of b ≡ s = ap second_of e ∙ whole_second s in omega (arith, ints)

-- what lies between an instant and the beginning of its second is in its second
same_second : (t b : ℤ) → (pos 1_000_000_000 *ℤ second_of t) ≤ℤ b → b ≤ℤ t → second_of b ≡ second_of t
same_second t b l h =
    let p = floor_is b 1_000_000_000 (lit< tt) in
    let q = floor_is t 1_000_000_000 (lit< tt) in
    omega (arith, ints, p.0, p.1, q.0, q.1)

-- a boundary that the clock skips is a whole second, for the others lie in the second of the reading, which the clock shows
module _ (offset : ℤ → ℤ) (t b : ℤ) (skipped : SkippedBy offset (second_of b)) where
  not_within : (pos 1_000_000_000 *ℤ second_of (reading_of offset t)) ≤ℤ b → b ≤ℤ reading_of offset t → ⊥
  not_within l h = skipped (second_of t) (sym (second_of_reading offset t) ∙ sym (same_second (reading_of offset t) b l h))

  skipped_whole : (g : Granularity) → GreatestNotAfter (Boundary g) (reading_of offset t) b → b ≡ pos 1_000_000_000 *ℤ second_of b
  skipped_whole Microsecond f =
      let q = second_of (reading_of offset t) in
      absurd (not_within (f.greatest (pos 1_000_000_000 *ℤ q) (record { number = pos 1_000_000 *ℤ q; is_one = tt; product = omega (arith, ints) }) (not_before_second (reading_of offset t))) f.not_after)
  skipped_whole Millisecond f =
      let q = second_of (reading_of offset t) in
      absurd (not_within (f.greatest (pos 1_000_000_000 *ℤ q) (record { number = pos 1_000 *ℤ q; is_one = tt; product = omega (arith, ints) }) (not_before_second (reading_of offset t))) f.not_after)
  skipped_whole Second f = whole b f.is_one.number f.is_one.product
  skipped_whole Minute f = let e = f.is_one.product in whole b (pos 60 *ℤ f.is_one.number) (omega (arith, ints))
  skipped_whole Hour f = let e = f.is_one.product in whole b (pos 3_600 *ℤ f.is_one.number) (omega (arith, ints))
  skipped_whole Day f = let e = f.is_one.product in whole b (pos 86_400 *ℤ f.is_one.number) (omega (arith, ints))
  skipped_whole Week f = let e = f.is_one.product in whole b (pos 86_400 *ℤ f.is_one.number) (omega (arith, ints))
  skipped_whole Month f = let e = f.is_one.product in whole b (pos 86_400 *ℤ f.is_one.number) (omega (arith, ints))
  skipped_whole Quarter f = let e = f.is_one.product in whole b (pos 86_400 *ℤ f.is_one.number) (omega (arith, ints))
  skipped_whole Year f = let e = f.is_one.product in whole b (pos 86_400 *ℤ f.is_one.number) (omega (arith, ints))

module _ (offset : ℤ → ℤ) (law : Lawful offset) (g : Granularity) (t b : ℤ) (greatest : GreatestNotAfter (Boundary g) (reading_of offset t) b) where
  instant_of_lem : (p : Place) (s : ℤ) → Stands offset (second_of b) p → Chosen (second_of b -ℤ offset_of offset t) p s → OnlyOne (InstantOf offset t b) (in_second b s)
  instant_of_lem (One a) s p e = rw e (of_one offset t b a p)
  instant_of_lem (Two a c) s p (first, second) =
      let r = p.first in
      by_eq a (second_of b -ℤ offset_of offset t)
      (λ e. rw (first e) (of_first offset t b a c p (omega (arith, ints))))
      (λ n. rw (second n) (of_second offset t b a c p (λ (e : offset a ≡ offset_of offset t). n (omega (arith, ints)))))
  instant_of_lem (Passed a) s (k, p) e = rw e (of_passing offset law t b a k p (skipped_whole offset t b k g greatest) greatest.not_after)

  on_clock : (p : Place) (s : ℤ) → Stands offset (second_of b) p → Chosen (second_of b -ℤ offset_of offset t) p s → OnlyOne (OnClock offset g t) (in_second b s)
  on_clock p s at chosen =
      let i = instant_of_lem p s at chosen in
      record {
        is_one = record { boundary = b; greatest = greatest; instant = i.is_one };
        only = λ x c. i.only x (subst (λ z. InstantOf offset t z x) (same_greatest (Boundary g) (reading_of offset t) c.boundary b c.greatest greatest) c.instant);
      }

  units_kept : (s : ℤ) → KeepsUnits t (in_second b s)
  units_kept s u w = seconds_away u b (s -ℤ second_of b) (whole_units_lem u g (reading_of offset t) b (seconds_away u t (offset_of offset t) w) greatest)

-- the same, of moments: the source's second s and its offset o there, the boundary's second q on the clock, the answer's second m
module _ (offset : ℤ → ℤ) (law : Lawful offset) (g : Granularity) (s o q m : ℤ) (n k : ℕ) (hn : n < 1_000_000_000) (hk : k < 1_000_000_000) (here : o ≡ offset s) (greatest : GreatestNotAfter (Boundary g) (pos 1_000_000_000 *ℤ (s +ℤ o) +ℤ pos n) (pos 1_000_000_000 *ℤ q +ℤ pos k)) where
  source : ℤ
  source = pos 1_000_000_000 *ℤ s +ℤ pos n

  boundary : ℤ
  boundary = pos 1_000_000_000 *ℤ q +ℤ pos k

  answer : ℤ
  answer = pos 1_000_000_000 *ℤ m +ℤ pos k

  offset_here : offset_of offset source ≡ o
  unfolding source
  offset_here = ap offset (second_is s n hn) ∙ sym here

  reading_here : reading_of offset source ≡ pos 1_000_000_000 *ℤ (s +ℤ o) +ℤ pos n
  unfolding source
  reading_here = let e = offset_here in omega (arith, ints)

  of_reading : GreatestNotAfter (Boundary g) (reading_of offset source) boundary
  unfolding boundary
  of_reading = subst (λ z. GreatestNotAfter (Boundary g) z boundary) (sym reading_here) greatest

  answered : in_second boundary m ≡ answer
  unfolding boundary answer
  answered = let e = second_is q k hk in omega (arith, ints)

  pub moment_on_clock : (p : Place) → Stands offset q p → Chosen (q -ℤ o) p m → OnlyOne (OnClock offset g (pos 1_000_000_000 *ℤ s +ℤ pos n)) (pos 1_000_000_000 *ℤ m +ℤ pos k) × KeepsUnits (pos 1_000_000_000 *ℤ s +ℤ pos n) (pos 1_000_000_000 *ℤ m +ℤ pos k)
  unfolding source boundary answer
  moment_on_clock p at chosen =
      let e : second_of boundary ≡ q = second_is q k hk in
      let stands : Stands offset (second_of boundary) p = subst (λ z. Stands offset z p) (sym e) at in
      let second : Chosen (second_of boundary -ℤ offset_of offset source) p m = rw (e, offset_here) chosen in (
        subst (OnlyOne (OnClock offset g source)) answered (on_clock offset law g source boundary of_reading p m stands second),
        subst (KeepsUnits source) answered (units_kept offset law g source boundary of_reading m),
      )
