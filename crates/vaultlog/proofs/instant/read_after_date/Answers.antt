use Rattle.std.proofs.Common.{◌≡◌, ◌-◌, length, get_or, inl, inr, arith, rules}
use Rattle.vaultlog.proofs.Spelt.{at_time, ends}
use Rattle.vaultlog.proofs.instant.read_after_date.Goals as goal

pub returns-in-84 : goal.returns-in-84
returns-in-84 c = at_time c.args.text.now c.in-84.len_at_least (search rules) (search rules) c.read_time.result c.read_time.ensures

pub returns-in_default-2 : goal.returns-in_default-2
returns-in_default-2 c =
    let n : get_or c.args.text.now (length c.args.text.now - 1) 0 ≡ 90 → ⊥ = search rules in
    λ t h. elim h [ inl x ↦ absurd (omega (arith, x.0)) | inr w ↦ n (ends c.args.text.now t w) ]
