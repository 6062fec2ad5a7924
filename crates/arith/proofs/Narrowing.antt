-- Two seconds between which the clock passes a reading r, narrowed until they are neighbours.
use Rattle.std.proofs.Common.{◌≡◌, Bool, true, false, ℤ, pos, ◌+ℤ◌, ◌-ℤ◌, ◌≤ℤ◌, ◌<ℤ◌, Decides, arith}
use Rattle.std.proofs.lemmas.Int.{ints, by_lt_z}
use Rattle.std.proofs.lemmas.Bool.Decides.{not_from_Decides}
use Rattle.arith.specs.Clock.{reads, SkippedBy, Passes, Lawful}

pub record Bracket (offset : ℤ → ℤ) (r lo hi : ℤ) : Type 0 where
  pub from : (r -ℤ pos 86_341) ≤ℤ lo
  pub ascends : lo <ℤ hi
  pub to : hi ≤ℤ (r +ℤ pos 86_341)
  pub earlier : reads offset lo <ℤ r
  pub later : r <ℤ reads offset hi

pub widest : (offset : ℤ → ℤ) → Lawful offset → (r lo hi : ℤ) → lo ≡ (r -ℤ pos 86_341) → hi ≡ (r +ℤ pos 86_341) → Bracket offset r lo hi
widest offset law r lo hi e f =
    let l = law.each lo in
    let h = law.each hi in
    record { from = omega (arith, ints); ascends = omega (arith, ints); to = omega (arith, ints); earlier = omega (arith, ints); later = omega (arith, ints) }

pub lowered : (offset : ℤ → ℤ) (r lo hi m : ℤ) → Bracket offset r lo hi → lo <ℤ m → m <ℤ hi → (b : Bool) → Decides b (r <ℤ reads offset m) → b ≡ true → Bracket offset r lo m
lowered offset r lo hi m k h j b d t =
    record { from = k.from; ascends = h; to = omega (arith, ints); earlier = k.earlier; later = d.0 t }

pub raised : (offset : ℤ → ℤ) (r lo hi m : ℤ) → SkippedBy offset r → Bracket offset r lo hi → lo <ℤ m → m <ℤ hi → (b : Bool) → Decides b (r <ℤ reads offset m) → b ≡ false → Bracket offset r m hi
raised offset r lo hi m skipped k h j b d t =
    let not-later : r <ℤ reads offset m → ⊥ = not_from_Decides b d t in
    record {
      from = omega (arith, ints);
      ascends = j;
      to = k.to;
      earlier = by_lt_z (reads offset m) r (λ x. x)
          (λ x. by_lt_z r (reads offset m) (λ y. absurd (not-later y)) (λ y. absurd (skipped m (omega (arith, ints)))));
      later = k.later;
    }

pub passes_at : (offset : ℤ → ℤ) (r lo hi : ℤ) → Bracket offset r lo hi → lo ≡ (hi -ℤ pos 1) → Passes offset r hi
passes_at offset r lo hi k e = record { earlier = rw (← e) k.earlier; later = k.later }
