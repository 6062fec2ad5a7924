-- The midnight of the first day of the period that holds the moment's day.
use Rattle.std.proofs.Common.{◌≡◌, pos, ◌*ℤ◌, ap, ◌∙◌, w64, SFits, to_z, of_z, rules}
use Rattle.std.proofs.lemmas.Int.{to_z-of_z}
use Rattle.arith.specs.Greatest.{GreatestNotAfter}
use Rattle.calendar.specs.Spans.{FirstDayOf}
use Rattle.truncation.specs.Moments.{day_of}
use Rattle.truncation.proofs.Anchors.{day_in_reach}
use Rattle.truncation.proofs.Cuts.{midnight_of}
use Rattle.truncation.proofs.boundary.first_of_period.Goals as goal
use Rattle.truncation.proofs.boundary.first_of_period.Goals.{In_ok-day, at-returns}

greatest : (c : In_ok-day) → GreatestNotAfter (FirstDayOf c.args.period) (day_of c.args.reading.at) c.in_ok-day.day
greatest c =
    let d : to_z w64 (of_z w64 c.day.result) ≡ day_of c.args.reading.at = to_z-of_z w64 _ (record { sfits = c.day.type_inv }) ∙ c.day.ensures in
    rw d at c.in_ok-day.ensures.1

pub midnight-requires : goal.midnight-requires
midnight-requires c =
    let p = c.args.period in
    let f : SFits w64 c.in_ok-day.day = search rules in
    rw (to_z-of_z w64 c.in_ok-day.day f) (day_in_reach p c.args.reading.at.second _ c.args.reading.near (greatest c))

pub returns : goal.returns
returns c =
    let f : SFits w64 c.in_ok-day.day = search rules in
    let e = c.midnight.ensures ∙ ap (λ z. pos 86_400_000_000_000 *ℤ z) (to_z-of_z w64 c.in_ok-day.day f) in
    midnight_of (FirstDayOf c.args.period) c.args.reading.at.second c.in_ok-day.day _ c.args.reading.at.nanos c.args.reading.at.below (greatest (at-returns c).In_ok-day) e
