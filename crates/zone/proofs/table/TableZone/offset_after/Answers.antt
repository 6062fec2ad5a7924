use Rattle.std.proofs.Common.{arith, rules, ◌≡◌}
use Rattle.std.proofs.lemmas.Grind.{common_steps}
use Rattle.arith.specs.Clock.{LawfulOffset}
use Rattle.zone.specs.Tables.{offset_after}
use Rattle.zone.specs.TableLaws.{lawful_after}
use Rattle.zone.proofs.table.TableZone.offset_after.Goals as goal

pub returns-in-Some-clause-lawful : goal.returns-in-Some-clause-lawful
returns-in-Some-clause-lawful c =
    let z = c.args.self.now in
    let value : c.in-Some.change.now.offset ≡ offset_after z.first z.changes.now c.args.n = grind (arith, common_steps) in
    let lawful : LawfulOffset c.in-Some.change.now.offset = rw value (lawful_after z.first z.changes.now z.lawful c.args.n c.requires) in
    search rules
