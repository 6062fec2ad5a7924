use Rattle.std.proofs.Common.{◌-◌}
use Rattle.zone.proofs.Minutes.{Between}
use Rattle.zone.proofs.seek.passing_second.Given as goal

abbrev pub invariant-loop-later : goal.invariant-loop-later
invariant-loop-later g l = Between (g.Z.Zone.offset l.zone) l.reading l.first l.earlier l.later

abbrev pub decreases-loop-later : goal.decreases-loop-later
decreases-loop-later g l = l.later - l.earlier
