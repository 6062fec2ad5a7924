-- Whole seconds, minutes, hours and days.
use Rattle.std.proofs.Common.{◌≡◌, pos, ◌-ℤ◌, ◌∙◌, arith, w64, to_z, of_z}
use Rattle.std.proofs.lemmas.Int.{ints}
use Rattle.std.specs.Int.{int_rem_euclid}
use Rattle.arith.proofs.Floors.{rem, rem_is, floor_is}
use Rattle.truncation.proofs.Cuts.{cut_seconds, some_length}
use Rattle.truncation.proofs.reading.Reading.cut_seconds.Goals as goal

pub returns : goal.returns
returns c =
    let s = c.args.self.at.second in
    let k = c.args.length in
    let r = c.rem_euclid.result in
    let near = c.args.self.near in
    let some = some_length k c.requires in
    let z : to_z w64 (of_z w64 s) ≡ s = omega (arith, ints) in
    let l : to_z w64 (of_z w64 c.from.result) ≡ pos k = omega (arith, ints, some) in
    let v : r ≡ int_rem_euclid s (pos k) = rw (z, l) at c.rem_euclid.ensures.value in
    let below = (floor_is s k some.0).1 in
    let small : r ≡ pos (rem s k) = v ∙ rem_is s k in
    let e : to_z w64 (of_z w64 (to_z w64 (of_z w64 s) -ℤ to_z w64 (of_z w64 r))) ≡ s -ℤ r = omega (arith, ints, some, below, small) in
    cut_seconds k s _ c.args.self.at.nanos c.requires c.args.self.at.below (e ∙ (rw v))
