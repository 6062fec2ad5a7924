-- The worked readings at a change of the clock, by where the boundary of each reading stands.
use Rattle.std.proofs.Common.{◌≡◌, zero, suc, [], ◌∷◌, ℤ, pos, ◌+ℤ◌, ◌-ℤ◌, ◌*ℤ◌, neg_ℤ, ◌≤ℤ◌, ◌<ℤ◌, refl, arith, lit<}
use lib.Signed.{le_z_yes, lt_z_yes}
use Rattle.std.proofs.lemmas.Int.{ints}
use Rattle.arith.proofs.Lift.{lift, greatest_whole}
use Rattle.arith.proofs.Readings.{shown_twice, shown_never}
use Rattle.arith.specs.Clock.{LawfulOffset, Lawful, SkippedBy, Passes}
use Rattle.arith.specs.Greatest.{GreatestNotAfter}
use Rattle.arith.specs.Instants.{OnlyOne}
use Rattle.arith.specs.Weekdays.{IsMonday, weekday}
use Rattle.zone.proofs.Tables.{lawful_switching, switched}
use Rattle.zone.specs.TableLaws.{table_lawful}
use Rattle.zone.specs.Tables.{LawfulChange, LawfulTable, switching}
use Rattle.zone.specs.declared.seek.Place.TheVariants.{Two, Passed}
use Rattle.zone.specs.declared.table.Change.{Change}
use Rattle.truncation.specs.Boundaries.{Boundary, OnClock}
use Rattle.truncation.specs.Readings.{ChangesOfClock}
use Rattle.truncation.specs.declared.granularity.Granularity.{Granularity}
use Rattle.truncation.specs.declared.granularity.Granularity.TheVariants.{Hour, Day, Week}
use Rattle.truncation.proofs.OnClocks.{moment_on_clock}

-- a lawful table with one change
one_change : (first : ℤ) (c : Change) → LawfulOffset first → LawfulChange c → LawfulTable first (c ∷ [])
one_change first c begins (minutes, inside, offsets) = record {
  few = omega arith;
  begins = begins;
  minutes = elim [ zero ↦ (λ h. minutes) | suc k ↦ (λ h. absurd (omega arith)) ];
  inside = elim [ zero ↦ (λ h. inside) | suc k ↦ (λ h. absurd (omega arith)) ];
  offsets = elim [ zero ↦ (λ h. offsets) | suc k ↦ (λ h. absurd (omega arith)) ];
  apart = λ k h. absurd (omega arith);
}

keeps : (first : ℤ) (c : Change) → LawfulOffset first → LawfulChange c → Lawful (switching first c)
keeps first c l m = table_lawful first (c ∷ []) (one_change first c l m)

skips : (first : ℤ) (c : Change) (r : ℤ) → LawfulOffset first → LawfulOffset c.offset → c.second ≤ℤ (r -ℤ first) → (r -ℤ c.offset) <ℤ c.second → SkippedBy (switching first c) r
skips first c r l m h k = shown_never (switching first c) (lawful_switching first c l m) r (switched first c (r -ℤ pos 86_400)) (r -ℤ first) (r -ℤ c.offset) refl refl l m h k

-- day 4 is a Monday
monday : GreatestNotAfter IsMonday (pos 4) (pos 4)
unfolding weekday
monday = record { is_one = refl; not_after = le_z_yes tt; greatest = λ t _ l. l }

module _ (g : Granularity) (first : ℤ) (c : Change) (l : LawfulOffset first) (m : LawfulChange c) (s o q : ℤ) (here : o ≡ switching first c s) (greatest : GreatestNotAfter (Boundary g) (pos 1_000_000_000 *ℤ (s +ℤ o) +ℤ pos 0) (pos 1_000_000_000 *ℤ q +ℤ pos 0)) where
  -- a boundary that the clock skips at the change
  at_change : c.second ≤ℤ (q -ℤ first) → (q -ℤ c.offset) <ℤ c.second → Passes (switching first c) q c.second → OnlyOne (OnClock (switching first c) g (pos 1_000_000_000 *ℤ s +ℤ pos 0)) (pos 1_000_000_000 *ℤ c.second +ℤ pos 0)
  at_change h k p = (moment_on_clock (switching first c) (keeps first c l m) g s o q c.second 0 0 (lit< tt) (lit< tt) here greatest (Passed c.second) (skips first c q l m.2 h k, p) refl).0

  -- one that it shows before the change and after
  of_two : (a b x : ℤ) → a ≡ (q -ℤ first) → b ≡ (q -ℤ c.offset) → a <ℤ c.second → c.second ≤ℤ b → (a ≡ q -ℤ o → x ≡ a) × ((a ≡ q -ℤ o → ⊥) → x ≡ b) → OnlyOne (OnClock (switching first c) g (pos 1_000_000_000 *ℤ s +ℤ pos 0)) (pos 1_000_000_000 *ℤ x +ℤ pos 0)
  of_two a b x e f h k chosen = (moment_on_clock (switching first c) (keeps first c l m) g s o q x 0 0 (lit< tt) (lit< tt) here greatest (Two a b) (shown_twice (switching first c) (lawful_switching first c l m.2) q (switched first c (q -ℤ pos 86_400)) a b e f l m.2 h k) chosen).0

abbrev change : ℤ → ℤ → Change
change second offset = record { second = second; offset = offset }

pub changes_of_clock : ChangesOfClock
changes_of_clock = record {
  skipped_midnight = (omega (arith, ints), (omega (arith, ints), at_change Day (neg_ℤ (pos 10_800)) (change (pos 10_800) (neg_ℤ (pos 7_200))) (refl, le_z_yes tt, le_z_yes tt) (refl, (le_z_yes tt, le_z_yes tt), (refl, le_z_yes tt, le_z_yes tt)) (pos 12_600) (neg_ℤ (pos 7_200)) (pos 0) refl (greatest_whole 86_400_000_000_000 _ _ (lit< tt) refl) (le_z_yes tt) (lt_z_yes tt) (record { earlier = lt_z_yes tt; later = lt_z_yes tt })));
  skipped_earlier = (omega (arith, ints), (omega (arith, ints), at_change Day (neg_ℤ (pos 10_800)) (change (pos 9_000) (neg_ℤ (pos 7_200))) (refl, le_z_yes tt, le_z_yes tt) (refl, (le_z_yes tt, le_z_yes tt), (refl, le_z_yes tt, le_z_yes tt)) (pos 9_600) (neg_ℤ (pos 7_200)) (pos 0) refl (greatest_whole 86_400_000_000_000 _ _ (lit< tt) refl) (le_z_yes tt) (lt_z_yes tt) (record { earlier = lt_z_yes tt; later = lt_z_yes tt })));
  first_of_two = (omega (arith, ints), (omega (arith, ints), of_two Hour (pos 3_600) (change (pos 0) (pos 0)) (refl, le_z_yes tt, le_z_yes tt) (refl, (le_z_yes tt, le_z_yes tt), (refl, le_z_yes tt, le_z_yes tt)) (neg_ℤ (pos 1_800)) (pos 3_600) (pos 0) refl (greatest_whole 3_600_000_000_000 _ _ (lit< tt) refl) (neg_ℤ (pos 3_600)) (pos 0) (neg_ℤ (pos 3_600)) refl refl (lt_z_yes tt) (le_z_yes tt) ((λ _. refl), (λ n. absurd (n refl)))));
  second_of_two = (omega (arith, ints), (omega (arith, ints), of_two Hour (pos 3_600) (change (pos 0) (pos 0)) (refl, le_z_yes tt, le_z_yes tt) (refl, (le_z_yes tt, le_z_yes tt), (refl, le_z_yes tt, le_z_yes tt)) (pos 1_800) (pos 0) (pos 0) refl (greatest_whole 3_600_000_000_000 _ _ (lit< tt) refl) (neg_ℤ (pos 3_600)) (pos 0) (pos 0) refl refl (lt_z_yes tt) (le_z_yes tt) ((λ (e : neg_ℤ (pos 3_600) ≡ pos 0 -ℤ pos 0). absurd (omega (arith, ints))), (λ _. refl))));
  skipped_day = (omega (arith, ints), (omega (arith, ints), at_change Week (neg_ℤ (pos 36_000)) (change (pos 338_400) (pos 50_400)) (refl, le_z_yes tt, le_z_yes tt) (refl, (le_z_yes tt, le_z_yes tt), (refl, le_z_yes tt, le_z_yes tt)) (pos 338_400) (pos 50_400) (pos 345_600) refl (lift IsMonday 86_400_000_000_000 _ (pos 4) (lit< tt) monday) (le_z_yes tt) (lt_z_yes tt) (record { earlier = lt_z_yes tt; later = lt_z_yes tt })));
}
