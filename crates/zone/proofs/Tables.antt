-- Lawful tables, and the clocks that they stand for.
use Rattle.std.proofs.Common.{Bool, Decides, int_le, refl, ◌≡◌, ℕ, zero, suc, ◌+◌, ◌%◌, ◌<◌, ◌≤◌, ◌==◌, ◌&&◌, true, false, List, length, ℤ, pos, ◌+ℤ◌, ◌-ℤ◌, neg_ℤ, unsigned_abs, ◌≤ℤ◌, ◌<ℤ◌, sym, subst, arith}
use lib.Signed.{lt_z}
use Rattle.std.proofs.lemmas.Int.{ints}
use Rattle.std.proofs.lemmas.Bool.{cond-true, cond-false, cond_both}
use Rattle.std.proofs.lemmas.Bool.Decides.{Decides-and, Decides-eqb, Decides-like}
use Rattle.std.proofs.lemmas.List.{get_or_default}
use Rattle.std.proofs.lemmas.List.Elements.{All-from_get_or}
use Rattle.std.specs.List.{All, IsAllAdjacentAnswer}
use Rattle.std.specs.List.Sorted.{IsPartitionedBy, IsPartitionPoint}
use Rattle.arith.specs.Clock.{LawfulOffset, SkippedBy, ShownOnce, ShownTwice}
use Rattle.zone.specs.Tables.{nth, Apart, LawfulChange, LawfulTable, Passed, offset_by, offset_after, switching}
use Rattle.zone.specs.declared.table.Change.{Change}
use Rattle.zone.specs.TableLaws.{not_before, lawful_after, each, changing, settled}
use Rattle.arith.proofs.Windows.{Window}
use Rattle.arith.proofs.Readings.{shown_twice, shown_before, shown_after, shown_never}

-- what `nth` gives outside a table
abbrev pub outside : Change
outside = record { second = pos 0; offset = pos 0 }

-- ---- what makes a table lawful, change by change

pub all_lawful : (first : ℤ) (cs : List Change) → LawfulTable first cs → All LawfulChange cs
all_lawful first cs t = All-from_get_or LawfulChange cs outside (λ k l. (t.minutes k l, t.inside k l, t.offsets k l))

-- by the answer whether each change and the next stand far enough apart
pub Decides-table : (first : ℤ) (cs : List Change) (r : Bool) → length cs ≤ 256 → LawfulOffset first → All LawfulChange cs → IsAllAdjacentAnswer (λ x y b. b ≡ int_le (x.second +ℤ pos 172_800) y.second) cs r → Decides r (LawfulTable first cs)
Decides-table first cs true few begins all h = (
  λ _. record {
    few = few;
    begins = begins;
    minutes = λ k l. (all k _ l).0;
    inside = λ k l. (all k _ l).1;
    offsets = λ k l. (all k _ l).2;
    apart = λ k l. grind (arith, ints, h k outside l);
  },
  λ _. refl,
)
Decides-table first cs false few begins all (k, l, h) = (λ e. absurd (cc), λ t. grind (arith, ints, h outside, t.apart k l))

-- a change is lawful, and far enough from the one before
abbrev pub Following : Change → Change → Type 0
Following x y = ((x.second +ℤ pos 172_800) ≤ℤ y.second) × LawfulChange y

-- the same as tests
abbrev is_fit : Change → Bool
is_fit c = (unsigned_abs c.second % 60 == 0) && ((int_le (neg_ℤ (pos 9_300_000_000)) c.second && int_le c.second (pos 9_300_000_000)) && ((unsigned_abs c.offset % 60 == 0) && (int_le (neg_ℤ (pos 86_340)) c.offset && int_le c.offset (pos 86_340))))

abbrev pub is_following : Change → Change → Bool
is_following x y = int_le (x.second +ℤ pos 172_800) y.second && is_fit y

Decides-int_le : (x y : ℤ) → Decides (int_le x y) (x ≤ℤ y)
Decides-int_le x y = (λ e. grind (arith, ints), λ h. grind (arith, ints))

Decides-three : {P Q R : Type 0} → (x y z : Bool) → Decides x P → Decides y Q → Decides z R → Decides (x && (y && z)) (P × Q × R)
Decides-three x y z p q r =
    Decides-like _ (λ h. (h.0, h.1.0, h.1.1)) (λ h. (h.0, (h.1, h.2))) (Decides-and x _ p (Decides-and y z q r))

Decides-fit : (c : Change) → Decides (is_fit c) (LawfulChange c)
Decides-fit c =
    let minutes = Decides-eqb (unsigned_abs c.second % 60) 0 in
    let inside = Decides-and _ _ (Decides-int_le (neg_ℤ (pos 9_300_000_000)) c.second) (Decides-int_le c.second (pos 9_300_000_000)) in
    let whole = Decides-eqb (unsigned_abs c.offset % 60) 0 in
    let from = Decides-int_le (neg_ℤ (pos 86_340)) c.offset in
    let to = Decides-int_le c.offset (pos 86_340) in
    Decides-three _ _ _ minutes inside (Decides-three _ _ _ whole from to)

pub Decides-following : (x y : Change) → Decides (is_following x y) (Following x y)
Decides-following x y = Decides-and _ _ (Decides-int_le (x.second +ℤ pos 172_800) y.second) (Decides-fit y)

-- the first change is lawful, and each that follows
lawful_by_steps : (cs : List Change) → (0 < length cs → LawfulChange (nth cs 0)) → ((k : ℕ) → k + 1 < length cs → Following (nth cs k) (nth cs (k + 1))) → (k : ℕ) → k < length cs → LawfulChange (nth cs k)
lawful_by_steps cs starts steps zero l = starts l
lawful_by_steps cs starts steps (suc k) l =
    let e : k + 1 ≡ suc k = omega arith in
    subst (λ n. LawfulChange (nth cs n)) e (steps k (omega arith)).1

-- by the answer whether each change but the first follows the one before it
pub Decides-following_table : (first : ℤ) (cs : List Change) (r : Bool) → length cs ≤ 256 → LawfulOffset first → (0 < length cs → LawfulChange (nth cs 0)) → IsAllAdjacentAnswer (λ x y b. b ≡ is_following x y) cs r → Decides r (LawfulTable first cs)
Decides-following_table first cs true few begins starts h =
    let steps : (k : ℕ) → k + 1 < length cs → Following (nth cs k) (nth cs (k + 1)) =
    λ k l. (Decides-following (nth cs k) (nth cs (k + 1))).0 (sym (h k outside l)) in
    let all : (k : ℕ) → k < length cs → LawfulChange (nth cs k) = lawful_by_steps cs starts steps in (
      λ _. record {
        few = few;
        begins = begins;
        minutes = λ k l. (all k l).0;
        inside = λ k l. (all k l).1;
        offsets = λ k l. (all k l).2;
        apart = λ k l. (steps k l).0;
      },
      λ _. refl,
    )
Decides-following_table first cs false few begins starts (k, l, h) = (λ e. absurd (cc), λ t. absurd (cc (h outside, (Decides-following (nth cs k) (nth cs (k + 1))).1 (t.apart k l, (t.minutes (k + 1) l, t.inside (k + 1) l, t.offsets (k + 1) l)))))

-- the changes that have come at a second stand before the others
pub parted : (cs : List Change) → Apart cs → (s : ℤ) → IsPartitionedBy (λ (c : Change). int_le c.second s) cs
parted cs apart s i j d l m come = grind (arith, ints, get_or_default cs i d outside, get_or_default cs j d outside, not_before cs apart i j l m)

pub passed_from_point : (cs : List Change) (s : ℤ) (n : ℕ) → n ≤ length cs → IsPartitionPoint (λ (c : Change). int_le c.second s ≡ true) (λ c. int_le c.second s ≡ false) cs n → Passed cs s n
passed_from_point cs s n most point = record {
  most = most;
  gone = λ k h. grind (arith, ints, point.0 k outside);
  left = λ k h l. grind (arith, ints, point.1 k outside);
}

-- ---- the seconds with a reading r, where n changes are not after a, the day before it

-- o is the offset of that day, and c the next change
pub record Around (offset : ℤ → ℤ) (r o : ℤ) (c : Change) : Type 0 where
  pub old : LawfulOffset o
  pub new : LawfulOffset c.offset
  pub twice : (x y : ℤ) → x ≡ (r -ℤ o) → y ≡ (r -ℤ c.offset) → x <ℤ c.second → c.second ≤ℤ y → ShownTwice offset r x y
  pub before : (x : ℤ) → x ≡ (r -ℤ o) → x <ℤ c.second → (r -ℤ c.offset) <ℤ c.second → ShownOnce offset r x
  pub after : (y : ℤ) → y ≡ (r -ℤ c.offset) → c.second ≤ℤ (r -ℤ o) → c.second ≤ℤ y → ShownOnce offset r y
  pub never : c.second ≤ℤ (r -ℤ o) → (r -ℤ c.offset) <ℤ c.second → SkippedBy offset r

module _ (first : ℤ) (cs : List Change) (t : LawfulTable first cs) (r a : ℤ) (n : ℕ) (day : a ≡ (r -ℤ pos 86_400)) (q : Passed cs a n) where
  from_day : Passed cs (r -ℤ pos 86_400) n
  from_day = rw day at q

  old : LawfulOffset (offset_after first cs n)
  old = lawful_after first cs t n q.most

  pub shown_last : (x : ℤ) → x ≡ (r -ℤ offset_after first cs n) → length cs ≤ n → ShownOnce (offset_by first cs) r x
  shown_last x xe none =
      let l = old in
      shown_before _ (each first cs t) r (settled first cs t _ n from_day none) x x xe xe l l (omega (arith, ints)) (omega (arith, ints))

  around_next : (more : n < length cs) → Around (offset_by first cs) r (offset_after first cs n) (nth cs n)
  around_next more =
      let w = changing first cs t (r -ℤ pos 86_400) n from_day more in
      let new = t.offsets n more in
      record {
        old = old;
        new = new;
        twice = λ x y xe ye h k. shown_twice _ (each first cs t) r w x y xe ye old new h k;
        before = λ x xe h k. shown_before _ (each first cs t) r w x _ xe refl old new h k;
        after = λ y ye h k. shown_after _ (each first cs t) r w _ y refl ye old new h k;
        never = λ h k. shown_never _ (each first cs t) r w _ _ refl refl old new h k;
      }

  pub around : (o : ℤ) (c : Change) → o ≡ offset_after first cs n → c ≡ nth cs n → n < length cs → Around (offset_by first cs) r o c
  around o c oe ce more = rw (oe, ce) (around_next more)

-- ---- a clock that goes from one offset to another at a change, which truncation cites

pub lawful_switching : (old : ℤ) (c : Change) → LawfulOffset old → LawfulOffset c.offset → (s : ℤ) → LawfulOffset (switching old c s)
lawful_switching old c lo lc s = cond_both (lt_z s c.second) old c.offset LawfulOffset (λ _. lo) (λ _. lc)

abbrev pub switched : (old : ℤ) (c : Change) (a : ℤ) → Window (switching old c) a
switched old c a = record {
  change = c.second;
  old = old;
  new = c.offset;
  before = λ s from to h. let e : true ≡ lt_z s c.second = omega (arith, ints) in cond-true (lt_z s c.second) _ _ (sym e);
  after = λ s from to h. let e : false ≡ lt_z s c.second = omega (arith, ints) in cond-false (lt_z s c.second) _ _ (sym e);
}
