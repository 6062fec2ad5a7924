-- The offset after all changes that have come.
use Rattle.std.proofs.Common.{arith}
use Rattle.std.proofs.lemmas.Int.{ints, to_z-of_z}
use Rattle.zone.specs.TableLaws.{offset_passed}
use Rattle.zone.proofs.table.TableZone.offset.Goals as goal

pub returns : goal.returns
returns c =
    let z = c.args.self.now in
    let fits = c.ranges.second in
    let by = offset_passed z.first z.changes.now c.args.second c.passed.result (simp to_z-of_z at c.passed.ensures) in
    omega (arith, ints, c.offset_after.ensures.value, c.offset_after.ensures.lawful)
