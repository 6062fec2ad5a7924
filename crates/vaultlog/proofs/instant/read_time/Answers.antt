use Rattle.vaultlog.proofs.Spelt.{rest_is}
use Rattle.vaultlog.proofs.instant.read_time.Goals as goal

pub returns-in_err-second-in-58 : goal.returns-in_err-second-in-58
returns-in_err-second-in-58 c =
    let no = simp rest_is at c.in_err-second-in-58.ensures in
    rw c.from_residual-in_err-second-in-58.ensures (λ t h. no t.second t.nanos h.seconds)
