-- The start of a March year, by its era: the whole eras before it, and its years of the era.
use Rattle.std.proofs.Common.{◌≡◌, ℕ, ◌+◌, ◌-◌, ◌*◌, ◌/◌, ◌%◌, ◌<◌, sym, ap, ◌∙◌, div-add-mod', arith}
use Rattle.arith.proofs.March.{eras}
use Rattle.arith.specs.March.{march}
use Rattle.calendar.proofs.civil.march_start.Goals as goal

in_era : (y : ℕ) → y < 400 → y * 365 + y / 4 - y / 100 ≡ march y
unfolding march
in_era y h = omega arith

pub returns : goal.returns
returns c =
    let y : ℕ = c.args.year in
    let e = in_era (y % 400) (omega arith) in
    rw e (sym (eras (y / 400) (y % 400)) ∙ ap march (div-add-mod' y 400))
