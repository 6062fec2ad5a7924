-- What is left of a value without its remainder lies between zero and the value.
use Rattle.std.proofs.Common.{◌≡◌, ◌<◌, pos, nat_abs, refl, ◌∙◌, arith, w64, to_z, of_z}
use Rattle.std.proofs.lemmas.Int.{ints, to_z-of_z}
use Rattle.truncation.proofs.TowardZero.{toward_zero, between, less_fits}
use Rattle.truncation.proofs.time_type.less_remainder.Goals as goal

pub returns : goal.returns
returns c =
    let v = c.args.value in
    let k = nat_abs c.args.length in
    let positive = c.requires in
    let some : 0 < k = omega (arith, ints) in
    let l : c.args.length ≡ pos k = omega (arith, ints) in
    let n : to_z w64 (of_z w64 c.args.length) ≡ pos k = to_z-of_z w64 c.args.length c.ranges.length ∙ l in
    let z = to_z-of_z w64 v c.ranges.value in
    let e = less_fits k v some c.ranges.value in
    rw (z, n, e) (record { cut = toward_zero k v _ some refl; between = between k v _ some refl })
