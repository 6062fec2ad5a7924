-- What lies between zero and a number of 32 bits is one.
use Rattle.std.proofs.Common.{◌≡◌, arith, w32, w64, SFits, to_z, of_z, rules}
use Rattle.std.proofs.lemmas.Int.{ints, to_z-of_z}
use Rattle.truncation.proofs.time_type.I32Native.toward_zero.Goals as goal

pub returns : goal.returns
returns c =
    let v = c.args.self in
    let r = c.less_remainder.result in
    let s : SFits w32 v = c.ranges.self in
    let f : SFits w64 c.args.length.units = search rules in
    let same : to_z w64 (of_z w64 c.from.result) ≡ v = omega (arith, ints) in
    let within = rw same at c.less_remainder.ensures.between in
    let narrow : to_z w32 (of_z w32 (to_z w64 (of_z w64 r))) ≡ r = omega (arith, ints, within) in
    rw narrow (rw (same, to_z-of_z w64 c.args.length.units f) at c.less_remainder.ensures.cut)
