-- The counts of the uids after each call.
use Rattle.std.proofs.Common.{◌≡◌, ◌<◌, ◌≤◌, ◌+◌, ◌-◌, ◌==◌, ℕ, true, cond, List, [], ◌∷◌, map, length, get_or, find, Some, refl, sym, ap, ◌∙◌, subst, arith, inl, inr}
use Rattle.std.proofs.Math.ListN.{set}
use Rattle.std.specs.List.{AllByRecursion, insert, remove, sum_by}
use Rattle.std.proofs.lemmas.List.Sums.{sum_by-append, sum_by-set, sum_by-insert, sum_by-remove}
use Rattle.std.proofs.lemmas.Bool.{cases_Bool, eqb-true}
use Rattle.slot_chain.specs.Ordered.{IsAt, IsGap}
use Rattle.slot_chain.proofs.Ordering.{rising_differ, found_at, found_in_gap, none_named, found_set, found_inserted, found_removed, keys_set, rising_inserted, rising_removed, all_inserted, all_removed}
use Rattle.operation_slots.specs.declared.counts.Counted.{Counted}
use Rattle.operation_slots.specs.Counted.{CountTable, seen, counted_uid, count_of, found_count, count_among, total, IsSome, IsCounts, Raises, Lowers}
use Rattle.slot_chain.specs.Linked.{AllDiffer}
use Rattle.operation_slots.proofs.Entries.{all_over}

few_rows : (rows : List Counted) → AllByRecursion IsSome rows → length rows ≤ sum_by count_of rows
few_rows [] h = omega arith
few_rows (k ∷ ks) h = let step = sum_by-append count_of (k ∷ []) ks in let one : 0 < k.count = h.0 in let rest = few_rows ks h.1 in omega (arith, step, one, rest)

pub rows_few : (rows : List Counted) (room : ℕ) → IsCounts rows → length rows ≤ total (seen rows room)
rows_few rows room kept = few_rows rows kept.some

module _ (rows : List Counted) (room uid at : ℕ) (kept : IsCounts rows) where
  differ : AllDiffer (map counted_uid rows)
  differ = rising_differ (map counted_uid rows) kept.order

  pub none_there : IsGap counted_uid rows uid at → count_among rows uid ≡ 0
  none_there gap = ap found_count (found_in_gap counted_uid rows uid at gap)

  module _ (row : Counted) (here : IsAt counted_uid rows uid at) (row_is : row ≡ get_or rows at row) where
    found : find (λ r. r.uid == uid) rows ≡ Some row
    found = found_at counted_uid rows uid at row differ here ∙ ap (λ (r : Counted). Some r) (sym row_is)

    pub count_is : count_among rows uid ≡ row.count
    count_is = ap found_count found

    pub within_all : row.count ≤ sum_by count_of rows
    within_all = omega (arith, sum_by-remove count_of rows at row here.within, ap count_of row_is)

    pub in_table : row.count ≤ total (seen rows room)
    in_table = within_all

    same : counted_uid (get_or rows at row) ≡ uid
    same = here.named row

    changed : (count : ℕ) (other : ℕ) → count_among (set rows at (record { uid = uid; count = count })) other ≡ cond (other == uid) count (count_among rows other)
    changed count other = ap found_count (found_set counted_uid rows at row (record { uid = uid; count = count }) other differ here.within same) ∙ elim (cases_Bool (other == uid)) [ inl e ↦ rw e refl | inr e ↦ rw e refl ]

    pub kept_changed : (count : ℕ) → 0 < count → IsCounts (set rows at (record { uid = uid; count = count }))
    kept_changed count some = record {
      order = rw (keys_set counted_uid rows at row (record { uid = uid; count = count }) here.within same) kept.order;
      some = all_over IsSome rows at (record { uid = uid; count = count }) some kept.some;
    }

    old_count : (other : ℕ) → (other == uid) ≡ true → count_among rows other ≡ row.count
    old_count other e = ap (count_among rows) (eqb-true other uid e) ∙ count_is

    pub raised : (old : CountTable) → seen rows room ≡ old → Raises old (seen (set rows at (record { uid = uid; count = row.count + 1 })) room) uid
    raised old view = subst (λ o. Raises o (seen (set rows at (record { uid = uid; count = row.count + 1 })) room) uid) view (record {
      counts = λ other. changed (row.count + 1) other ∙ elim (cases_Bool (other == uid)) [
        | inl e ↦ rw e (ap (λ (n : ℕ). n + 1) (sym (old_count other e)))
        | inr e ↦ rw e refl
      ];
      all = omega (arith, sum_by-set count_of rows at (record { uid = uid; count = row.count + 1 }) row here.within, ap count_of row_is);
      room = omega arith;
    })

    pub lowered : (old : CountTable) → seen rows room ≡ old → 0 < row.count → Lowers old (seen (set rows at (record { uid = uid; count = row.count - 1 })) room) uid
    lowered old view some = subst (λ o. Lowers o (seen (set rows at (record { uid = uid; count = row.count - 1 })) room) uid) view (record {
      counts = λ other. changed (row.count - 1) other ∙ elim (cases_Bool (other == uid)) [
        | inl e ↦ rw e (ap (λ (n : ℕ). n - 1) (sym (old_count other e)))
        | inr e ↦ rw e refl
      ];
      all = omega (arith, some, sum_by-set count_of rows at (record { uid = uid; count = row.count - 1 }) row here.within, ap count_of row_is);
      room = omega arith;
    })

    pub kept_removed : IsCounts (remove rows at)
    kept_removed = record { order = rising_removed counted_uid rows at kept.order; some = all_removed counted_uid IsSome rows at kept.some }

    pub removed : (old : CountTable) (later : ℕ) → seen rows room ≡ old → room ≤ later → row.count - 1 ≡ 0 → 0 < row.count → Lowers old (seen (remove rows at) later) uid
    removed old later view grown last some = subst (λ o. Lowers o (seen (remove rows at) later) uid) view (record {
      counts = λ other. ap found_count (found_removed counted_uid rows at row uid other differ here.within same) ∙ elim (cases_Bool (other == uid)) [
        | inl e ↦ rw e (sym last ∙ ap (λ (n : ℕ). n - 1) (sym (old_count other e)))
        | inr e ↦ rw e refl
      ];
      all = omega (arith, last, some, sum_by-remove count_of rows at row here.within, ap count_of row_is);
      room = grown;
    })

  pub kept_inserted : IsGap counted_uid rows uid at → IsCounts (insert rows at (record { uid = uid; count = 1 }))
  kept_inserted gap = record {
    order = rising_inserted counted_uid rows at (record { uid = uid; count = 1 }) gap kept.order;
    some = all_inserted counted_uid IsSome rows at (record { uid = uid; count = 1 }) kept.some (omega arith);
  }

  pub inserted : (old : CountTable) (later : ℕ) → seen rows room ≡ old → room ≤ later → IsGap counted_uid rows uid at → Raises old (seen (insert rows at (record { uid = uid; count = 1 })) later) uid
  inserted old later view grown gap =
      let absent = found_in_gap counted_uid rows uid at gap in
      subst (λ o. Raises o (seen (insert rows at (record { uid = uid; count = 1 })) later) uid) view (record {
        counts = λ other. ap found_count (found_inserted counted_uid rows at (record { uid = uid; count = 1 }) other (none_named counted_uid uid rows absent)) ∙ elim (cases_Bool (other == uid)) [
          | inl e ↦ rw e (ap (λ (n : ℕ). n + 1) (sym (ap (count_among rows) (eqb-true other uid e) ∙ none_there gap)))
          | inr e ↦ rw e refl
        ];
        all = sum_by-insert count_of rows at (record { uid = uid; count = 1 });
        room = grown;
      })
