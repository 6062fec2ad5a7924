use Rattle.std.proofs.Common.{◌≤◌, length, inl, inr, arith, rules}
use Rattle.vaultlog.proofs.Spelt.{rest_is}
use Rattle.vaultlog.proofs.instant.read_seconds.Goals as goal

pub returns-in_err-read_fraction-in-58-2 : goal.returns-in_err-read_fraction-in-58-2
returns-in_err-read_fraction-in-58-2 c =
    let no = simp rest_is at c.in_err-read_fraction-in-58-2.ensures in
    let l : 4 ≤ length c.args.text.now = search rules in
    rw c.from_residual-in_err-read_fraction-in-58-2.ensures
    (λ s n h. elim h [
      | inl x ↦ absurd (omega (arith, x.nothing))
      | inr (inl x) ↦ absurd (omega (arith, x.size))
      | inr (inr x) ↦ no n x.fraction
    ])
