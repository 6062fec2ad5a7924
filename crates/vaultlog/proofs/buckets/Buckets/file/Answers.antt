-- A count is written at the start: one more, or the greatest, which stood there.
use Rattle.std.proofs.Common.{◌≡◌, ◌+◌, ◌<◌, subst, arith, w64, SFits, rules}
use Rattle.std.proofs.lemmas.Grind.{common_steps}
use Rattle.std.proofs.lemmas.Int.{to_z-of_z}
use Rattle.std.proofs.lemmas.Result.{err_from_is_err_and}
use Rattle.std.specs.BTreeMap.Entry.{map_with_value}
use Rattle.vaultlog.proofs.Filed.{one_more, unchanged}
use Rattle.vaultlog.specs.Filing.{under, OneMore}
use Rattle.vaultlog.proofs.buckets.Buckets.file.Goals as goal

pub returns-in_err-count : goal.returns-in_err-count
returns-in_err-count c =
    let fits : SFits w64 c.args.start = c.ranges.start in
    let old = c.args.self.now.counts in
    let n = c.or_insert-count.result.now in
    let write = simp to_z-of_z at c.in_ok-self.ensures.update in
    let was = simp to_z-of_z at c.in_ok-self.ensures.value in
    let same : n ≡ under c.args.start old = grind (arith, common_steps) in
    let some : 0 < n = grind (arith, common_steps) in
    rw (err_from_is_err_and c.from_residual-in_err-count.result c.from_residual-in_err-count.ensures.1).1
    (unchanged old (map_with_value c.in_ok-self.field-0 n) c.args.start n c.entry.ensures.ordered (write.0 n) (write.2 n) same some _ (search rules))

pub returns : goal.returns
returns c =
    let fits : SFits w64 c.args.start = c.ranges.start in
    let old = c.args.self.now.counts in
    let n = c.in_ok-count.field-0 in
    let write = simp to_z-of_z at c.in_ok-self.ensures.update in
    let was = simp to_z-of_z at c.in_ok-self.ensures.value in
    let more : n ≡ under c.args.start old + 1 = grind (arith, common_steps) in
    let new = map_with_value c.in_ok-self.field-0 n in
    subst (OneMore old c.args.start) (search rules) (one_more old new c.args.start n c.entry.ensures.ordered (write.0 n) (write.1 n) more)
