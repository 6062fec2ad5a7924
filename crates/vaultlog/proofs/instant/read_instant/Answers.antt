use Rattle.std.proofs.Common.{inr, rules}
use Rattle.std.proofs.lemmas.Result.{MatchResult-weaker}
use Rattle.vaultlog.specs.Spelling.{Spelled}
use Rattle.vaultlog.proofs.instant.read_instant.Goals as goal

pub returns : goal.returns
returns c =
    let spelled : Spelled c.args.text.now c.in_ok-parts.parts = search rules in
    MatchResult-weaker c.in_unit.result c.in_unit.ensures
    (λ v e. record { parts = c.in_ok-parts.parts; at = c.in_ok-date_time.field-0; spelled = spelled; holds = c.in_ok-date_time.ensures; instant = e })
    (λ e w. inr (inr (record { parts = c.in_ok-parts.parts; at = c.in_ok-date_time.field-0; spelled = spelled; holds = c.in_ok-date_time.ensures; why = w })))
