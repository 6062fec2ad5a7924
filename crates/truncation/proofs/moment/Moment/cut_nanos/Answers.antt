-- Whole microseconds and whole milliseconds fill a second.
use Rattle.std.proofs.Common.{arith, w64, to_z, of_z}
use Rattle.std.proofs.lemmas.Int.{ints}
use Rattle.truncation.proofs.Cuts.{cut_nanos}
use Rattle.truncation.proofs.moment.Moment.cut_nanos.Goals as goal

pub returns : goal.returns
returns c = cut_nanos c.args.length c.args.self.second (to_z w64 (of_z w64 c.args.self.second)) c.args.self.nanos c.requires (omega (arith, ints))
