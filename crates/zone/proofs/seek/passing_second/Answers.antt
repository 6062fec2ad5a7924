use Rattle.std.proofs.Common.{arith, w64, ◌∙◌}
use Rattle.std.proofs.lemmas.Int.{ints, to_z-of_z}
use Rattle.zone.proofs.Minutes.{day_around, lowered, raised, passed_at}
use Rattle.zone.proofs.seek.passing_second.Goals as goal

pub loop-later-init : goal.loop-later-init
loop-later-init g c =
    day_around _ (g.Z.Zone.laws c.args.zone.now) _ _ _ (to_z-of_z w64 _ (record { sfits = c.div_euclid-first.type_inv }) ∙ c.div_euclid-first.ensures) (omega (arith, ints))

pub overflow_mul-first : goal.overflow_mul-first
overflow_mul-first g c = omega (arith, ints)

pub returns-in_err-reads_later : goal.returns-in_err-reads_later
returns-in_err-reads_later g c = absurd (c.in_err-reads_later.ensures.0 (omega (arith, ints), omega (arith, ints)))

pub loop-later-preserved-then-branch : goal.loop-later-preserved-then-branch
loop-later-preserved-then-branch g c =
    lowered _ _ _ _ _ _ _ c.loop-later.invariant (omega (arith, ints)) (omega (arith, ints)) (omega (arith, ints)) _ c.in_ok-reads_later.ensures.1 c.if-branch.true

pub loop-later-preserved : goal.loop-later-preserved
loop-later-preserved g c =
    raised _ _ _ _ _ _ _ (rw (to_z-of_z w64 c.args.reading c.ranges.reading) c.requires.skipped) c.loop-later.invariant (omega (arith, ints)) (omega (arith, ints)) (omega (arith, ints)) _ c.in_ok-reads_later.ensures.1 c.if-branch.false

pub returns : goal.returns
returns g c = passed_at _ (g.Z.Zone.laws c.args.zone.now) _ _ _ _ _ _ c.requires.skipped c.loop-later.invariant (to_z-of_z w64 c.args.reading c.ranges.reading) (omega (arith, ints)) (omega (arith, ints))
