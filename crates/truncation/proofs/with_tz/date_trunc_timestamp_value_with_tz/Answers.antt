-- A fault as it is.
use Rattle.std.proofs.Common.{w64, SFits, rules}
use Rattle.std.proofs.lemmas.Int.{to_z-of_z}
use Rattle.std.proofs.lemmas.Result.{err_from_is_err_and}
use Rattle.truncation.proofs.with_tz.date_trunc_timestamp_value_with_tz.Goals as goal

pub returns-in_err-general_date_trunc_with_tz-in-Some : goal.returns-in_err-general_date_trunc_with_tz-in-Some
returns-in_err-general_date_trunc_with_tz-in-Some g c =
    let y = err_from_is_err_and c.from_residual.result c.from_residual.ensures.1 in
    let f : SFits w64 c.in-Some.value = search rules in
    let told = simp to_z-of_z at c.in_err-general_date_trunc_with_tz-in-Some.ensures in
    rw (y.1, y.2, c.in-Some.is) (rw c.unit.ensures at told)
