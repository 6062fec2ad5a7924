-- The year of a day, by its era and its day of the era.
use Rattle.arith.proofs.March.{year_of_day_lem, year_of_era}
use Rattle.calendar.proofs.civil.march_year.Goals as goal

pub returns : goal.returns
unfolding year_of_era
returns c = let f = year_of_day_lem c.args.day c.requires in (f.0, (f.1, f.2))
