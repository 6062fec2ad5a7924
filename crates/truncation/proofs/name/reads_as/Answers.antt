-- The first letters agree; both give the others, and `eq` compares them.
use Rattle.std.proofs.Common.{◌≡◌, ◌∷◌, ◌-◌, length, take, drop, refl, Decides}
use Rattle.std.proofs.lemmas.Iterator.{YieldsList-from_slice}
use Rattle.std.proofs.lemmas.Iterator.Consumers.{YieldsList-at, YieldsList-from_copied, YieldsList-from_first}
use Rattle.truncation.specs.Names.{folded}
use Rattle.truncation.proofs.Folds.{front_of}
use Rattle.truncation.proofs.Letters.{eq_from_yields_List}
use Rattle.truncation.proofs.name.reads_as.Goals as goal

pub returns-then-head-first : goal.returns-then-head-first
returns-then-head-first c =
    let w = c.args.word.now in
    let word : w ≡ c.args.first ∷ take (length w - 1) (drop 1 w) = front_of w c.args.first c.in-len1-up.len_at_least c.if-head-first.true in
    let rest : Decides c.eq.result (folded c.args.rest.now ≡ take (length w - 1) (drop 1 w)) =
    eq_from_yields_List (λ x y. y ≡ x) c.copied.result c.eq.result c.eq.ensures.ran
    (YieldsList-from_first (λ x. x) _ (folded c.args.rest.now) refl)
    (λ it e. YieldsList-at e (YieldsList-from_copied (YieldsList-at c.copied.ensures.source (YieldsList-from_slice (take (length w - 1) (drop 1 w)) c.iter.ensures.rest)))) in
    ((λ r. let same = rest.0 r in cc), (λ e. rest.1 (cc)))
