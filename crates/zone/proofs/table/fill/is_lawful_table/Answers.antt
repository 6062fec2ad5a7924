use Rattle.std.proofs.Common.{◌<◌, length, arith, rules, of_calls, Decides}
use Rattle.std.proofs.lemmas.Fn.{always_returns_same}
use Rattle.std.proofs.lemmas.Bool.Decides.{same_from_decides}
use Rattle.zone.specs.Tables.{LawfulChange, nth}
use Rattle.zone.proofs.Tables.{Following, is_following, Decides-following, Decides-following_table}
use Rattle.zone.proofs.table.fill.is_lawful_table.Goals as goal

pub returns-then-is_none_or : goal.returns-then-is_none_or
returns-then-is_none_or c =
    let starts : 0 < length c.args.changes.now → LawfulChange (nth c.args.changes.now 0) = λ l. search (rules, of_calls) in
    Decides-following_table _ _ _ (omega arith) (search rules) starts
    (c.is_sorted_by.ensures.cases is_following (always_returns_same _ _ _ (λ a r f k.
    let d : Decides r (Following a.0.now a.1.0.now) = search (rules, of_calls) in
    (same_from_decides _ _ d (Decides-following a.0.now a.1.0.now), search (rules, of_calls)))))
