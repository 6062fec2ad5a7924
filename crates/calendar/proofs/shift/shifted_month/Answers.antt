-- The index of the month, in the years or out of them.
use Rattle.std.proofs.Common.{◌≡◌, true, false, ◌&&◌, ℤ, pos, ◌≤ℤ◌, ◌<ℤ◌, Option, Some, None, Result, MatchResult, refl, arith, w64, to_z, of_z}
use Rattle.std.specs.Cmp.{int_ranks}
use Rattle.std.specs.Ordering.{is_le, is_lt, int_cmp}
use Rattle.std.specs.Option.{SomeIff, ok_or}
use Rattle.std.proofs.lemmas.Result.{err_from_is_err_and}
use borrow.Author.Differences.{ints}
use Rattle.arith.specs.Shift.{month_index}
use Rattle.calendar.specs.declared.fault.Fault.{Fault}
use Rattle.calendar.proofs.shift.shifted_month.Goals as goal

kept : (P : Type 0) (v : ℤ) (o : Option ℤ) (d : Fault) (r : Result ℤ Fault) → SomeIff o P v → r ≡ ok_or o d → MatchResult r (λ x. x ≡ v) (λ e. (P → ⊥) × (e ≡ d))
kept P v None d r s h = rw h (s, refl)
kept P v (Some x) d r s h = rw h (s.1)

in_range : (a b x : ℤ) → true ≡ (is_le (int_cmp a x) && is_lt (int_cmp x b)) → (a ≤ℤ x) × (x <ℤ b)
in_range a b x e = grind (arith, int_ranks)

not_in_range : (a b x : ℤ) → false ≡ (is_le (int_cmp a x) && is_lt (int_cmp x b)) → a ≤ℤ x → x <ℤ b → ⊥
not_in_range a b x e l h = grind (arith, int_ranks)

pub returns-in_err-index : goal.returns-in_err-index
unfolding month_index
returns-in_err-index c =
    let p = err_from_is_err_and c.from_residual.result c.from_residual.ensures.1 in
    let k = rw c.in_err-index.was at (kept _ _ c.checked_add.result _ c.ok_or.result c.checked_add.ensures c.ok_or.ensures.value) in
    rw (p.1, p.2) (λ h. k.0 (omega (arith, ints)), k.1)

pub returns-then-not-contains : goal.returns-then-not-contains
unfolding month_index
returns-then-not-contains c =
    let k = rw c.in_ok-index.was at (kept _ _ c.checked_add.result _ c.ok_or.result c.checked_add.ensures c.ok_or.ensures.value) in
    let n = not_in_range (pos 12) (pos 120000) (to_z w64 (of_z w64 c.in_ok-index.index)) c.if-not-contains.ensures.value in
    (λ h. n (omega (arith, ints)) (omega (arith, ints)), refl)

pub returns : goal.returns
unfolding month_index
returns c =
    let k = rw c.in_ok-index.was at (kept _ _ c.checked_add.result _ c.ok_or.result c.checked_add.ensures c.ok_or.ensures.value) in
    let n = in_range (pos 12) (pos 120000) (to_z w64 (of_z w64 c.in_ok-index.index)) c.if-not-contains.ensures.value in
    (omega (arith, ints), omega (arith, ints), omega (arith, ints))
