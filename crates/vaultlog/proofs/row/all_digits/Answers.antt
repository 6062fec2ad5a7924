use Rattle.std.proofs.Common.{ℕ, ◌<◌, List, [], ◌∷◌, sym, refl, ◌∙◌, arith, Decides, rules, tests}
use Rattle.std.proofs.lemmas.Bool.Decides.{Decides-and, nat_tests}
use Rattle.std.proofs.lemmas.Iterator.{YieldsList-from_slice}
use Rattle.std.proofs.lemmas.Iterator.Search.{all_from_yields_List}
use Rattle.std.specs.Char.{digit_value, is_ascii_digit}
use Rattle.std.specs.List.{list_all}
use Rattle.std.specs.Str.Parse.{AllDigits}
use Rattle.vaultlog.proofs.row.all_digits.Goals as goal

digit_decided : (b : ℕ) → Decides (is_ascii_digit b) (digit_value b < 10)
digit_decided b = (λ e. grind (arith, nat_tests), λ h. grind (arith, nat_tests))

digits_decided : (ds : List ℕ) → Decides (list_all is_ascii_digit ds) (AllDigits 10 ds)
digits_decided [] = (λ e. tt, λ h. refl)
digits_decided (b ∷ bs) = Decides-and (is_ascii_digit b) (list_all is_ascii_digit bs) (digit_decided b) (digits_decided bs)

pub returns-then-not-is_empty : goal.returns-then-not-is_empty
returns-then-not-is_empty c =
    let ds = c.args.digits.now in
    let e = all_from_yields_List is_ascii_digit _ _ c.all.result c.all.ensures.ran (YieldsList-from_slice ds cc) (λ x b q k. search (rules, tests)) in
    let d = digits_decided ds in
    (λ h. (search rules, d.0 (sym e ∙ h)), λ n. e ∙ d.1 n.1)
