use Rattle.std.proofs.Common.{inr, rules}
use Rattle.std.proofs.lemmas.Result.{err_from_is_err_and}
use Rattle.vaultlog.specs.Rows.{IsNumber}
use Rattle.vaultlog.proofs.row.read_row.Goals as goal

pub returns-in_err-value-2 : goal.returns-in_err-value-2
returns-in_err-value-2 c =
    let p = err_from_is_err_and c.from_residual-in_err-value-2.result c.from_residual-in_err-value-2.ensures.1 in
    let no : IsNumber c.args.text.now → ⊥ = search rules in
    let why = simp c.as_bytes-else-is_number.ensures.value at c.in_err-value-2.ensures in
    rw (p.1, p.2) (inr (no, why))
