use Rattle.std.proofs.Common.{rules}
use Rattle.zone.proofs.seek.place_of.Goals as goal

pub returns-in_ok-passing_second-in-Skipped : goal.returns-in_ok-passing_second-in-Skipped
returns-in_ok-passing_second-in-Skipped g c = (search rules, (search rules, search rules))
