use Rattle.vaultlog.proofs.Spelt.{rest_is}
use Rattle.vaultlog.proofs.instant.read_parts.Goals as goal

pub returns-in_err-time-in-45 : goal.returns-in_err-time-in-45
returns-in_err-time-in-45 c =
    let no = simp rest_is at c.in_err-time-in-45.ensures in
    rw c.from_residual-in_err-time-in-45.ensures (λ p h. no p.time h.time)
