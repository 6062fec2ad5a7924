-- Proof, and no definition: that the clock of a lawful table keeps the laws. It stands here because the member `laws` of a zone cites nothing else of its own crate.
use Rattle.std.specs.Prelude.{◌≡◌, ℕ, zero, suc, ◌<◌, ◌≤◌, List, [], ◌∷◌, length, ℤ, pos, ◌+ℤ◌, ◌≤ℤ◌, ◌<ℤ◌, refl}
use Rattle.std.proofs.Common.{sym, ◌∙◌, ⊎_elim, arith, lit<}
use Rattle.std.proofs.lemmas.Int.{ints, by_lt_z}
use Rattle.std.proofs.lemmas.Bool.{cases_lt}
use Rattle.arith.proofs.Floors.{floor_is}
use Rattle.arith.specs.Clock.{WholeMinutes, LawfulOffset, Lawful, minute}
use Rattle.zone.specs.Tables.{nth, Apart, OnMinutes, LawfulTable, Passed, offset_by, offset_after}
use Rattle.zone.specs.declared.table.Change.{Change}
use Rattle.arith.proofs.Windows.{Window, lawful_from_windows}

-- ---- the order of a table

pub ascending : (cs : List Change) → Apart cs → (j k : ℕ) → j < k → k < length cs → ((nth cs j).second +ℤ pos 172_800) ≤ℤ (nth cs k).second
ascending cs apart j zero h l = absurd (omega arith)
ascending cs apart j (suc k) h l = grind (arith, ints, apart k, ascending cs apart j k)

pub not_before : (cs : List Change) → Apart cs → (j k : ℕ) → j ≤ k → k < length cs → (nth cs j).second ≤ℤ (nth cs k).second
not_before cs apart j k h l = grind (arith, ints, ascending cs apart j k)

-- ---- the offset by the number of changes that are not after a second

behind : (c : Change) (cs : List Change) (s : ℤ) (n : ℕ) → Passed (c ∷ cs) s (suc n) → Passed cs s n
behind c cs s n p = record {
  most = omega arith;
  gone = λ k h. p.gone (suc k) (omega arith);
  left = λ k h l. p.left (suc k) (omega arith) (omega arith);
}

pub offset_passed : (first : ℤ) (cs : List Change) (s : ℤ) (n : ℕ) → Passed cs s n → offset_by first cs s ≡ offset_after first cs n
offset_passed first [] s zero p = refl
offset_passed first [] s (suc n) p = absurd (omega arith)
offset_passed first (c ∷ cs) s zero p = grind (arith, ints, p.left 0)
offset_passed first (c ∷ cs) s (suc zero) p = grind (arith, ints, p.gone 0, offset_passed c.offset cs s zero (behind c cs s zero p))
offset_passed first (c ∷ cs) s (suc (suc n)) p = grind (arith, ints, p.gone 0, offset_passed c.offset cs s (suc n) (behind c cs s (suc n) p))

-- ---- how many changes are not after a second

counted : (cs : List Change) → Apart cs → (s : ℤ) → (n : ℕ) × Passed cs s n
counted [] apart s = (0, record { most = omega arith; gone = λ k h. absurd (omega arith); left = λ k h l. absurd (omega arith) })
counted (c ∷ cs) apart s =
    let rest : Apart cs = λ k g. grind (arith, ints, apart (suc k)) in
    let deeper = counted cs rest s in
    by_lt_z s c.second
    (λ h. (0, record { most = omega arith; gone = λ k g. absurd (omega arith); left = λ k g l. grind (arith, ints, not_before (c ∷ cs) apart 0 k) }))
    (λ h. (
      suc deeper.0,
      record {
        most = omega arith;
        gone = elim [ zero ↦ (λ g. h) | suc k ↦ (λ g. deeper.1.gone k (omega arith)) ];
        left = elim [ zero ↦ (λ g l. absurd (omega arith)) | suc k ↦ (λ g l. deeper.1.left k (omega arith) (omega arith)) ];
      },
    ))

-- ---- two seconds of one minute stand on one side of a whole minute

same_side : (s t c : ℤ) → minute s ≡ minute t → WholeMinutes c → s <ℤ c → t <ℤ c
same_side s t c e m h = omega (arith, ints, floor_is s 60 (lit< tt), floor_is t 60 (lit< tt))

passed_in_minute : (cs : List Change) → OnMinutes cs → (s t : ℤ) (n : ℕ) → minute s ≡ minute t → Passed cs s n → Passed cs t n
passed_in_minute cs minutes s t n e p = record {
  most = p.most;
  gone = λ k h. grind (arith, ints, p.gone k, minutes k, same_side t s (nth cs k).second (sym e));
  left = λ k h l. same_side s t (nth cs k).second e (minutes k l) (p.left k h l);
}

module _ (first : ℤ) (cs : List Change) (t : LawfulTable first cs) where
  pub lawful_after : (n : ℕ) → n ≤ length cs → LawfulOffset (offset_after first cs n)
  lawful_after zero h = t.begins
  lawful_after (suc n) h = t.offsets n h

  pub each : (s : ℤ) → LawfulOffset (offset_by first cs s)
  each s =
      let p = counted cs t.apart s in
      rw (offset_passed first cs s p.0 p.1) (lawful_after p.0 p.1.most)

  steady : (s u : ℤ) → minute s ≡ minute u → offset_by first cs s ≡ offset_by first cs u
  steady s u e =
      let p = counted cs t.apart s in
      offset_passed first cs s p.0 p.1 ∙ sym (offset_passed first cs u p.0 (passed_in_minute cs t.minutes s u p.0 e p.1))

  -- n changes are not after a, and none or one more is not after s
  pub none_more : (a s : ℤ) (n : ℕ) → Passed cs a n → a ≤ℤ s → (n < length cs → s <ℤ (nth cs n).second) → Passed cs s n
  none_more a s n p from next = record {
    most = p.most;
    gone = λ k g. grind (arith, ints, p.gone k);
    left = λ k g l. grind (arith, ints, not_before cs t.apart n k);
  }

  pub one_more : (a s : ℤ) (n : ℕ) → Passed cs a n → n < length cs → s <ℤ (a +ℤ pos 172_800) → (nth cs n).second ≤ℤ s → Passed cs s (suc n)
  one_more a s n p more to h = record {
    most = omega arith;
    gone = λ k g. grind (arith, ints, not_before cs t.apart k n);
    left = λ k g l. grind (arith, ints, ascending cs t.apart n k, p.left n);
  }

  -- the two days from a on, where n changes are not after a: one more change at most comes in them
  abbrev pub changing : (a : ℤ) (n : ℕ) → Passed cs a n → n < length cs → Window (offset_by first cs) a
  changing a n p more = record {
    change = (nth cs n).second;
    old = offset_after first cs n;
    new = (nth cs n).offset;
    before = λ s from to h. offset_passed first cs s n (none_more a s n p from (λ _. h));
    after = λ s from to h. offset_passed first cs s (suc n) (one_more a s n p more to h);
  }

  abbrev pub settled : (a : ℤ) (n : ℕ) → Passed cs a n → length cs ≤ n → Window (offset_by first cs) a
  settled a n p none = record {
    change = a +ℤ pos 172_800;
    old = offset_after first cs n;
    new = offset_after first cs n;
    before = λ s from to h. offset_passed first cs s n (none_more a s n p from (λ l. absurd (omega arith)));
    after = λ s from to h. absurd (omega (arith, ints));
  }

  window : (a : ℤ) → Window (offset_by first cs) a
  window a =
      let p = counted cs t.apart a in
      ⊎_elim (changing a p.0 p.1) (settled a p.0 p.1) (cases_lt p.0 (length cs))

  pub table_lawful : Lawful (offset_by first cs)
  table_lawful = lawful_from_windows (offset_by first cs) each window steady
