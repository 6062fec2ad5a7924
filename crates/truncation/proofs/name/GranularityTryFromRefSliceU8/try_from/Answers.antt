-- The first of the ten that the name reads as, or none of them.
use Rattle.std.proofs.Common.{◌≡◌, ◌≢◌, ◌<◌, List, [], ◌∷◌, Some, None, Option, arith, ℕ, rules, sym, ◌∙◌}
use Rattle.std.specs.List.{AllWithin, HoldsAt}
use Rattle.std.specs.Option.{MatchOption, ok_or}
use Rattle.std.proofs.lemmas.Iterator.{YieldsList-from_slice, first_from_find}
use Rattle.std.proofs.lemmas.Iterator.Consumers.{YieldsList-at, YieldsList-from_copied}
use Rattle.calendar.specs.Faults.{found}
use Rattle.calendar.specs.declared.fault.Fault.{Fault}
use Rattle.calendar.specs.declared.fault.Cause.TheVariants.{UnknownName}
use Rattle.calendar.specs.declared.fault.Layer.TheVariants.{Truncation}
use Rattle.truncation.specs.Names.{Read, folded, name_of}
use Rattle.truncation.specs.declared.granularity.Granularity.{Granularity}
use Rattle.truncation.specs.declared.granularity.Granularity.TheVariants.{Microsecond, Millisecond, Second, Minute, Hour, Day, Week, Month, Quarter, Year}
use Rattle.truncation.proofs.name.GranularityTryFromRefSliceU8.try_from.Goals as goal

abbrev all : List Granularity
all = Microsecond ∷ Millisecond ∷ Second ∷ Minute ∷ Hour ∷ Day ∷ Week ∷ Month ∷ Quarter ∷ Year ∷ []

module _ (name letters : List ℕ) (e : folded name ≡ letters) where
  abbrev No : Granularity → Type 0
  No g = letters ≢ name_of g

  none_of : AllWithin No all 0 10 → (g : Granularity) → No g
  none_of h Microsecond = h 0 Microsecond (omega arith) (omega arith)
  none_of h Millisecond = h 1 Microsecond (omega arith) (omega arith)
  none_of h Second = h 2 Microsecond (omega arith) (omega arith)
  none_of h Minute = h 3 Microsecond (omega arith) (omega arith)
  none_of h Hour = h 4 Microsecond (omega arith) (omega arith)
  none_of h Day = h 5 Microsecond (omega arith) (omega arith)
  none_of h Week = h 6 Microsecond (omega arith) (omega arith)
  none_of h Month = h 7 Microsecond (omega arith) (omega arith)
  none_of h Quarter = h 8 Microsecond (omega arith) (omega arith)
  none_of h Year = h 9 Microsecond (omega arith) (omega arith)

  read : (r : Option Granularity) (f : Fault) → f ≡ found UnknownName Truncation → MatchOption r (AllWithin No all 0 10) (λ g. (letters ≡ name_of g) × (i : ℕ) × (i < 10) × HoldsAt (λ y. y ≡ g) all i × AllWithin No all 0 i) → Read name (ok_or r f)
  read None f k h = ((λ g n. none_of h g (sym e ∙ n)), k)
  read (Some g) f k h = e ∙ h.0

pub returns : goal.returns
returns c =
    let letters = c.in_ok-first.first ∷ folded c.in_ok-first.rest.now in
    let e : folded c.args.name.now ≡ letters = search rules in
    rw c.ok_or-2.ensures.value (read c.args.name.now letters e c.find.result c.found-unknown.result c.found-unknown.ensures
    (first_from_find _ _ c.find.result (λ g. letters ≡ name_of g) (No c.args.name.now letters e) c.find.ensures.ran
    (YieldsList-from_copied (YieldsList-at c.copied.ensures.source (YieldsList-from_slice all c.iter.ensures.rest)))
    (λ x q k. search rules) (λ x q k. search rules)))
