-- No zone is the zone that has no offset.
use Rattle.std.proofs.Common.{w64}
use Rattle.std.proofs.lemmas.Int.{to_z-of_z}
use Rattle.truncation.proofs.Truncated.{in_utc}
use Rattle.truncation.proofs.date_trunc.instant_trunc.Goals as goal

pub returns : goal.returns
returns c = in_utc _ (λ s. c.utc.ensures) c.args.unit c.args.granularity c.args.instant c.instant_trunc_with_tz.result c.ranges.instant (rw (to_z-of_z w64 c.args.instant c.ranges.instant) at c.instant_trunc_with_tz.ensures)
