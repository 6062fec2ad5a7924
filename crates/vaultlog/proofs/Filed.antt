-- What is filed once n is written at the start s.
use Rattle.std.proofs.Common.{◌≡◌, ℕ, ◌+◌, ◌<◌, false, List, Some, None, ℤ, BTreeMap, Option, sym, ap, ◌∙◌, arith, unwrap_or, ◌≢◌}
use Rattle.std.proofs.lemmas.Grind.{common_steps}
use Rattle.std.proofs.lemmas.Int.{ints}
use Rattle.std.proofs.lemmas.Iterator.Adapters.{option_map_id}
use Rattle.std.proofs.lemmas.Map.Entries.{sum_by-insert_entry}
use Rattle.std.proofs.lemmas.Map.Lookups.{btree_map_from_get, exact_signed}
use Rattle.std.specs.BTreeMap.{Updates, IsOrdered, get, insert_entry, is_at}
use Rattle.std.specs.Cmp.{int_cmp_total}
use Rattle.std.specs.Ordering.{int_cmp}
use Rattle.vaultlog.specs.Filing.{under, OneMore}

apart : (s t : ℤ) → t ≢ s → is_at (int_cmp s) t ≡ false
apart s t h = grind (arith, ints)

stands : (o : Option ℕ) (n : ℕ) → n ≡ unwrap_or o 0 → 0 < n → o ≡ Some n
stands None n e h = absurd (omega arith)
stands (Some m) n e h = ap Some (sym e)

module _ (old new : BTreeMap ℤ ℕ) (s : ℤ) (n : ℕ) (ordered : IsOrdered int_cmp old) (updates : Updates int_cmp old new s (Some n)) where
  pub one_more : new.entries ≡ insert_entry int_cmp old.entries s n → n ≡ under s old + 1 → OneMore old s new
  one_more entries more = record {
    rows =
        let sums = sum_by-insert_entry (λ x. x) int_cmp_total old.entries s n ordered in
        let was = ap (λ o. unwrap_or o 0) (option_map_id (get int_cmp old s)) in
        rw entries (omega arith);
    here = updates.1 ∙ ap Some more;
    others = λ t h. updates.2 t (apart s t h);
  }

  same_rows : get int_cmp old s ≡ Some n → (t : ℤ) → get int_cmp new t ≡ get int_cmp old t
  same_rows there t = grind (arith, ints, common_steps, updates.0 t)

  -- the count that stood there
  pub unchanged : IsOrdered int_cmp new → n ≡ under s old → 0 < n → (es : List (ℤ × ℕ)) → es ≡ new.entries → es ≡ old.entries
  unchanged after same some es e =
      e ∙ btree_map_from_get int_cmp_total new old after ordered (same_rows (stands (get int_cmp old s) n same some)) exact_signed
