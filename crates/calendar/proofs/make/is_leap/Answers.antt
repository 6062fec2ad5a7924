-- The tests of the remainders are those of the rule.
use Rattle.std.proofs.Common.{◌%◌}
use Rattle.std.proofs.lemmas.Bool.{eq-eqb, ne_eqb}
use Rattle.arith.specs.Gregorian.{leap}
use Rattle.calendar.proofs.make.is_leap.Goals as goal

pub returns-then-year-eq0 : goal.returns-then-year-eq0
unfolding leap
returns-then-year-eq0 c = rw (eq-eqb (c.args.year % 100) 0 c.if-year-eq0.true)

pub returns-else-year-eq0 : goal.returns-else-year-eq0
unfolding leap
returns-else-year-eq0 c = rw (ne_eqb (c.args.year % 100) 0 c.if-year-eq0.false)
