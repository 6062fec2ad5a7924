use Rattle.truncation.proofs.ChangesOfClock.{changes_of_clock}
use Rattle.truncation.proofs.readings.changes.Goals as goal

pub returns : goal.returns
returns c = changes_of_clock
