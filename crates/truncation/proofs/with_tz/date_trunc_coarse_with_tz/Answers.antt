-- The boundary of the reading is near enough to be asked about, and the place of its second decides.
use Rattle.std.proofs.Common.{◌≡◌, ℕ, ℤ, pos, ◌+ℤ◌, ◌-ℤ◌, ◌*ℤ◌, sym, refl, ap, ◌∙◌, subst, arith, w64, SFits, to_z, of_z, rules}
use Rattle.std.proofs.lemmas.Int.{ints, to_z-of_z}
use Rattle.arith.specs.Clock.{LawfulOffset, Lawful}
use Rattle.arith.specs.Greatest.{GreatestNotAfter}
use Rattle.zone.specs.Spans.{InSpan}
use Rattle.truncation.specs.Boundaries.{Boundary}
use Rattle.truncation.specs.Moments.{nanos_of, Chosen, OfRange}
use Rattle.truncation.specs.declared.granularity.Granularity.{Granularity}
use Rattle.truncation.specs.declared.moment.Moment.{Moment}
use Rattle.truncation.proofs.Anchors.{reading_near, in_reach}
use Rattle.truncation.proofs.OnClocks.{moment_on_clock}
use Rattle.truncation.proofs.with_tz.date_trunc_coarse_with_tz.Goals as goal

-- the offset at the source
here_is : (offset : ℤ → ℤ) → Lawful offset → (s here : ℤ) → OfRange s → InSpan (to_z w64 (of_z w64 s)) × (here ≡ offset (to_z w64 (of_z w64 s))) → (here ≡ offset s) × LawfulOffset here
here_is offset law s here range (_, e) =
    let f : SFits w64 s = omega (arith, ints) in
    let h : here ≡ offset s = e ∙ ap offset (to_z-of_z w64 s f) in
    (h, subst LawfulOffset (sym h) (law.each s))

in_64 : (o : ℤ) → LawfulOffset o → to_z w64 (of_z w64 o) ≡ o
in_64 o l = to_z-of_z w64 o (omega (arith, ints))

-- the boundary of the reading
of_reading : (g : Granularity) (s o b : ℤ) (n : ℕ) (m : Moment) → LawfulOffset o → (m.second ≡ s +ℤ to_z w64 (of_z w64 o)) × (m.nanos ≡ n) → GreatestNotAfter (Boundary g) (nanos_of m) b → GreatestNotAfter (Boundary g) (pos 1_000_000_000 *ℤ (s +ℤ o) +ℤ pos n) b
of_reading g s o b n m l (e, f) h = subst (λ z. GreatestNotAfter (Boundary g) z b) (ap (λ z. pos 1_000_000_000 *ℤ z +ℤ pos m.nanos) (e ∙ ap (λ z. s +ℤ z) (in_64 o l)) ∙ ap (λ k. pos 1_000_000_000 *ℤ (s +ℤ o) +ℤ pos k) f) h

pub returns-in_err-place : goal.returns-in_err-place
returns-in_err-place g c =
    let h = here_is _ (g.Z.Zone.laws c.args.zone.now) _ _ c.requires c.in_ok-here.ensures in
    let at = c.args.at in
    let found = c.in_ok-found.found in
    let near = reading_near at.second c.in_ok-here.here c.requires h.1 in
    let b = of_reading c.args.granularity at.second c.in_ok-here.here (nanos_of found) at.nanos c.of.result.at h.1 c.of.ensures c.in_ok-found.ensures in
    let reach = in_reach c.args.granularity _ found.second _ found.nanos near at.below found.below b in
    let f : SFits w64 found.second = search rules in
    absurd (c.in_err-place.ensures.0 (rw (to_z-of_z w64 found.second f) reach))

pub chosen-requires : goal.chosen-requires
chosen-requires g c =
    let h = here_is _ (g.Z.Zone.laws c.args.zone.now) _ _ c.requires c.in_ok-here.ensures in
    (c.in_ok-place.ensures.0, rw (in_64 c.in_ok-here.here h.1) h.1)

pub returns : goal.returns
returns g c =
    let o = g.Z.Zone.offset c.args.zone.now in
    let law = g.Z.Zone.laws c.args.zone.now in
    let h = here_is _ law _ _ c.requires c.in_ok-here.ensures in
    let at = c.args.at in
    let found = c.in_ok-found.found in
    let b = of_reading c.args.granularity at.second c.in_ok-here.here (nanos_of found) at.nanos c.of.result.at h.1 c.of.ensures c.in_ok-found.ensures in
    let f : SFits w64 found.second = search rules in
    let q = to_z-of_z w64 found.second f in
    let place = rw q at c.in_ok-place.ensures.1 in
    let e : to_z w64 (of_z w64 found.second) -ℤ to_z w64 (of_z w64 c.in_ok-here.here) ≡ found.second -ℤ c.in_ok-here.here = rw (q, in_64 c.in_ok-here.here h.1) refl in
    let chosen = subst (λ z. Chosen z c.in_ok-place.place c.chosen.result) e c.chosen.ensures in
    rw (to_z-of_z w64 c.chosen.result (record { sfits = c.chosen.type_inv })) (moment_on_clock o law c.args.granularity at.second c.in_ok-here.here found.second c.chosen.result at.nanos found.nanos at.below found.below h.0 b c.in_ok-place.place place chosen)
