-- Two whole minutes between which the clock passes a reading r, narrowed until they are neighbours.
use Rattle.std.proofs.Common.{◌≡◌, ℕ, ◌+◌, ◌<◌, ◌≤◌, Bool, true, false, ℤ, pos, ◌+ℤ◌, ◌-ℤ◌, ◌*ℤ◌, ◌≤ℤ◌, ◌<ℤ◌, Decides, subst, arith, lit<}
use Rattle.std.proofs.lemmas.Int.{ints, by_lt_z}
use Rattle.std.proofs.lemmas.Bool.Decides.{not_from_Decides}
use Rattle.arith.specs.Clock.{reads, minute, SkippedBy, Passes, Lawful}
use Rattle.arith.proofs.Floors.{floor_is}

-- the second at which a minute begins
abbrev pub start : ℤ → ℕ → ℤ
start q k = pos 60 *ℤ (q +ℤ pos k)

-- q is the minute of the second 86,341 before r, and the two stand lo and hi minutes after it
pub record Between (offset : ℤ → ℤ) (r q : ℤ) (lo hi : ℕ) : Type 0 where
  pub from : (r -ℤ pos 86_400) ≤ℤ (pos 60 *ℤ q)
  pub to : (pos 60 *ℤ q) ≤ℤ (r -ℤ pos 86_341)
  pub ascends : lo < hi
  pub most : hi ≤ 2_880
  pub earlier : reads offset (start q lo) <ℤ r
  pub later : r <ℤ reads offset (start q hi)

pub day_around : (offset : ℤ → ℤ) → Lawful offset → (r q x : ℤ) → q ≡ minute x → x ≡ (r -ℤ pos 86_341) → Between offset r q 0 2_880
day_around offset law r q x e d =
    let l = law.each (start q 0) in
    let h = law.each (start q 2_880) in
    let f = floor_is x 60 (lit< tt) in
    record { from = omega (arith, ints); to = omega (arith, ints); ascends = omega arith; most = omega arith; earlier = omega (arith, ints); later = omega (arith, ints) }

pub lowered : (offset : ℤ → ℤ) (r q : ℤ) (lo hi m : ℕ) (at : ℤ) → Between offset r q lo hi → lo < m → m < hi → at ≡ start q m → (b : Bool) → Decides b (r <ℤ reads offset at) → b ≡ true → Between offset r q lo m
lowered offset r q lo hi m at k h j e b d t =
    record { from = k.from; to = k.to; ascends = h; most = omega (arith, k.most); earlier = k.earlier; later = (subst (λ x. Decides b (r <ℤ reads offset x)) e d).0 t }

pub raised : (offset : ℤ → ℤ) (r q : ℤ) (lo hi m : ℕ) (at : ℤ) → SkippedBy offset r → Between offset r q lo hi → lo < m → m < hi → at ≡ start q m → (b : Bool) → Decides b (r <ℤ reads offset at) → b ≡ false → Between offset r q m hi
raised offset r q lo hi m at skipped k h j e b d t =
    let not-later : r <ℤ reads offset (start q m) → ⊥ = not_from_Decides b (subst (λ x. Decides b (r <ℤ reads offset x)) e d) t in
    record {
      from = k.from;
      to = k.to;
      ascends = j;
      most = k.most;
      earlier = by_lt_z (reads offset (start q m)) r (λ x. x)
          (λ x. by_lt_z r (reads offset (start q m)) (λ y. absurd (not-later y)) (λ y. absurd (skipped (start q m) (omega (arith, ints)))));
      later = k.later;
    }

-- a second less than 60 after the start of a minute is in that minute
pub in_minute : (q s : ℤ) (k : ℕ) → start q k ≤ℤ s → s <ℤ start q (k + 1) → minute (start q k) ≡ minute s
in_minute q s k h j =
    let f = floor_is (start q k) 60 (lit< tt) in
    let g = floor_is s 60 (lit< tt) in
    omega (arith, ints)

-- the clock reads earlier in the whole minute before the last of the two, and so passes the reading at that one
pub passes_at : (offset : ℤ → ℤ) → Lawful offset → (r q : ℤ) (lo hi : ℕ) → SkippedBy offset r → Between offset r q lo hi → hi ≡ lo + 1 → Passes offset r (start q hi)
passes_at offset law r q lo hi skipped k e =
    let last : ℤ = start q hi -ℤ pos 1 in
    let o : offset (start q lo) ≡ offset last = law.steady (start q lo) last (in_minute q last lo (omega (arith, ints)) (omega (arith, ints))) in
    record {
      earlier = by_lt_z (reads offset last) r (λ x. x)
          (λ x.
          let t : ℤ = r -ℤ offset last in
          let p : offset (start q lo) ≡ offset t = law.steady (start q lo) t (in_minute q t lo (omega (arith, ints, k.earlier)) (omega (arith, ints, k.earlier))) in
          absurd (skipped t (omega (arith, ints))));
      later = k.later;
    }

-- the same at a reading x and a second `at` that are r and the last of the two
pub passed_at : (offset : ℤ → ℤ) → Lawful offset → (r q : ℤ) (lo hi : ℕ) (x at : ℤ) → SkippedBy offset x → Between offset r q lo hi → r ≡ x → hi ≡ lo + 1 → start q hi ≡ at → Passes offset x at
passed_at offset law r q lo hi x at skipped k d e f =
    let p : Passes offset r (start q hi) = passes_at offset law r q lo hi (rw d skipped) k e in
    subst (λ y. Passes offset x y) f (subst (λ y. Passes offset y (start q hi)) d p)
