-- The truncation of an instant, in its unit.
use Rattle.std.proofs.Common.{◌≡◌, sym, ap, ◌∙◌, subst, w64, SFits, to_z, of_z, rules}
use Rattle.std.proofs.lemmas.Int.{to_z-of_z}
use Rattle.std.proofs.lemmas.Result.{err_from_is_err_and}
use Rattle.std.specs.Int.{int_div_euclid}
use Rattle.arith.specs.Instants.{OnlyOne}
use Rattle.truncation.specs.Boundaries.{OnClock}
use Rattle.truncation.specs.Moments.{nanos_of}
use Rattle.truncation.specs.Truncations.{CutOn, Fits}
use Rattle.truncation.specs.Units.{KeepsUnits, scale_of}
use Rattle.truncation.proofs.Truncated.{on_ok, on_outside}
use Rattle.truncation.proofs.with_tz.instant_trunc_with_tz.Given.{Over}
use Rattle.truncation.proofs.with_tz.instant_trunc_with_tz.Goals as goal
use Rattle.truncation.proofs.with_tz.instant_trunc_with_tz.Goals.{In_ok-date_trunc_coarse_with_tz, at-returns-in_err-start, at-returns}

cut : (g : Over) (c : In_ok-date_trunc_coarse_with_tz g) → OnlyOne (OnClock (g.Z.Zone.offset c.args.zone.now) c.args.granularity c.args.instant) (nanos_of c.in_ok-date_trunc_coarse_with_tz.field-0) × KeepsUnits c.args.instant (nanos_of c.in_ok-date_trunc_coarse_with_tz.field-0)
cut g c =
    let t : nanos_of c.of-at.result ≡ c.args.instant = c.of-at.ensures ∙ to_z-of_z w64 c.args.instant c.ranges.instant in
    let a = nanos_of c.in_ok-date_trunc_coarse_with_tz.field-0 in
    subst (λ z. OnlyOne (OnClock (g.Z.Zone.offset c.args.zone.now) c.args.granularity z) a × KeepsUnits z a) t c.in_ok-date_trunc_coarse_with_tz.ensures

pub returns-in_err-start : goal.returns-in_err-start
returns-in_err-start g c =
    let o = g.Z.Zone.offset c.args.zone.now in
    let u = c.args.unit in
    let k = c.args.granularity in
    let y = err_from_is_err_and c.from_residual-in_err-start.result c.from_residual-in_err-start.ensures.1 in
    let n = c.in_err-start.ensures in
    subst (CutOn o u k c.args.instant) (sym y.1) (on_outside o u k c.args.instant _ (cut g (at-returns-in_err-start g c).In_ok-date_trunc_coarse_with_tz).0 y.0 n.0 (y.2 ∙ n.1))

pub returns : goal.returns
returns g c =
    let o = g.Z.Zone.offset c.args.zone.now in
    let u = c.args.unit in
    let f : SFits w64 c.in_ok-start.start = search rules in
    let s = to_z-of_z w64 c.in_ok-start.start f in
    let a = nanos_of c.in_ok-date_trunc_coarse_with_tz.field-0 in
    let r : to_z w64 (of_z w64 c.whole.result) ≡ int_div_euclid a (scale_of u) = to_z-of_z w64 c.whole.result (record { sfits = c.whole.type_inv }) ∙ c.whole.ensures ∙ ap (λ z. int_div_euclid z (scale_of u)) (s ∙ c.in_ok-start.ensures) in
    let h = cut g (at-returns g c).In_ok-date_trunc_coarse_with_tz in
    on_ok o u c.args.granularity c.args.instant a h.0 _ (h.1 u c.requires) (subst Fits c.in_ok-start.ensures f) r
