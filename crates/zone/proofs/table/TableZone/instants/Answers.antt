-- The last offset, or one change.
use Rattle.std.proofs.Common.{arith}
use Rattle.std.proofs.lemmas.Int.{ints}
use Rattle.zone.specs.Tables.{offset_by}
use Rattle.zone.proofs.Tables.{Around, shown_last, around}
use Rattle.zone.proofs.table.TableZone.instants.Goals.{In-Some}
use Rattle.zone.proofs.table.TableZone.instants.Goals as goal

pub returns-in_default : goal.returns-in_default
returns-in_default c =
    shown_last _ _ c.args.self.now.lawful c.args.reading.second _ _ (omega (arith, ints)) c.passed-n.ensures _ (omega (arith, ints, c.offset_after.ensures.value, c.offset_after.ensures.lawful)) (grind (arith, c.get.ensures.lookup))

near : (c : In-Some) → Around (offset_by c.args.self.now.first c.args.self.now.changes.now) c.args.reading.second c.offset_after.result c.in-Some.change.now
near c =
    let next = c.in-Some.ensures.lookup.3 in
    around _ _ c.args.self.now.lawful c.args.reading.second _ _ (omega (arith, ints)) c.passed-n.ensures _ _ c.offset_after.ensures.value (next.1 _) next.0

pub overflow_sub-after : goal.overflow_sub-after
overflow_sub-after c = let seen = near (goal.at.overflow_sub-after c).In-Some in omega (arith, ints)

pub returns-in-true-true : goal.returns-in-true-true
returns-in-true-true c = let seen = near (goal.at.returns-in-true-true c).In-Some in seen.twice _ _ (omega (arith, ints)) (omega (arith, ints)) (omega (arith, ints)) (omega (arith, ints))

pub returns-in-true-false : goal.returns-in-true-false
returns-in-true-false c = let seen = near (goal.at.returns-in-true-false c).In-Some in seen.before _ (omega (arith, ints)) (omega (arith, ints)) (omega (arith, ints))

pub returns-in-false-true : goal.returns-in-false-true
returns-in-false-true c = let seen = near (goal.at.returns-in-false-true c).In-Some in seen.after _ (omega (arith, ints)) (omega (arith, ints)) (omega (arith, ints))

pub returns-in-false-false : goal.returns-in-false-false
returns-in-false-false c = let seen = near (goal.at.returns-in-false-false c).In-Some in seen.never (omega (arith, ints)) (omega (arith, ints))
