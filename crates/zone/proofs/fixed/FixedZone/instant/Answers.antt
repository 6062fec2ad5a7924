-- A clock that never changes shows each reading once.
use Rattle.std.proofs.Common.{pos, ◌-ℤ◌, refl, arith}
use Rattle.std.proofs.lemmas.Int.{ints}
use Rattle.arith.proofs.Readings.{shown_before}
use Rattle.arith.proofs.Windows.{still}
use Rattle.zone.proofs.fixed.FixedZone.instant.Goals as goal

pub returns : goal.returns
returns c =
    let lawful = c.args.self.now.lawful in
    shown_before _ (λ _. lawful) _ (still c.args.self.now.seconds (c.args.reading.second -ℤ pos 86_400)) _ _ (omega (arith, ints)) refl lawful lawful (omega (arith, ints)) (omega (arith, ints))
