-- The numbers of the rows in groups, while rows come, change and go; a token that is shown to a group; a client that is busy.
use Rattle.std.proofs.Common.{◌≡◌, ◌<◌, ◌≤◌, ◌+◌, ◌==◌, ◌&&◌, ◌||◌, ℕ, suc, Bool, true, false, not, cond, List, [], ◌∷◌, ◌++◌, map, filter, length, find, Option, Some, None, is_some, refl, sym, ap, ◌∙◌, subst, arith, inl, inr}
use Rattle.std.specs.List.{AllByRecursion, list_any}
use Rattle.std.specs.Option.{option_map_or}
use Rattle.std.proofs.lemmas.Bool.{cases_Bool, eqb-true, eq-eqb, ne_eqb}
use Rattle.std.proofs.lemmas.List.{length_push}
use Rattle.slot_chain.specs.Linked.{NoneIs, AllDiffer}
use Rattle.slot_chain.proofs.Ordering.{none_changed, none_out}
use Rattle.auth_tokens.specs.declared.token.AuthToken.{AuthToken}
use Rattle.group_index.specs.declared.index.Grouped.{Grouped}
use Rattle.group_index.specs.Grouped.{GroupTable, count_in, has, number_of, numbers_in, without}
use Rattle.rule_model.specs.Entries.{gives}
use Rattle.live_tables.specs.declared.operations.OperationRow.{OperationRow}
use Rattle.live_tables.specs.Numbered.{row_number}
use Rattle.live_tables.specs.Operations.{has_row, is_for_row, shown_if, with_all_shown, with_row, with_shown}
use Rattle.live_tables.specs.Places.{Grows, IsIndexOf, Shrinks, challenge_group, has_group, is_in_group}
use Rattle.live_tables.proofs.Places.{all_weaker, filter_push, found_each, map_push, only_one}

-- ---- a row comes

all_numbers : (n : ℕ) (p : OperationRow → Bool) (rows : List OperationRow) → AllByRecursion (λ row. row.number < n) rows → AllByRecursion (λ m. m < n) (map row_number (filter p rows))
all_numbers n p [] h = tt
all_numbers n p (r ∷ rs) h = elim (cases_Bool (p r)) [ inl e ↦ rw e (h.0, all_numbers n p rs h.1) | inr e ↦ rw e (all_numbers n p rs h.1) ]

module _ (group_of : OperationRow → Option ℕ) where
  -- a group has lesser numbers than the next one
  pub all_less : (index : GroupTable) (rows : List OperationRow) (n group : ℕ) → IsIndexOf group_of index rows → AllByRecursion (λ row. row.number < n) rows
      → AllByRecursion (λ m. m < n) (numbers_in index group)
  all_less index rows n group is h = subst (AllByRecursion (λ m. m < n)) (sym (is.numbers group)) (all_numbers n (is_in_group group_of group) rows h)

  few_numbers : (rows : List OperationRow) → length (filter (has_group group_of) rows) ≤ length rows
  few_numbers [] = omega arith
  few_numbers (r ∷ rs) = elim (cases_Bool (has_group group_of r)) [ inl e ↦ rw e (omega (arith, few_numbers rs)) | inr e ↦ rw e (omega (arith, few_numbers rs)) ]

  pub few : (index : GroupTable) (rows : List OperationRow) → IsIndexOf group_of index rows → count_in index ≤ length rows
  few index rows is = omega (arith, is.count, few_numbers rows)

  pub none_indexed : (index : GroupTable) → ((group : ℕ) → numbers_in index group ≡ []) → count_in index ≡ 0 → IsIndexOf group_of index []
  none_indexed index numbers count = record { numbers = numbers; count = count }

  module _ (old new : GroupTable) (rows : List OperationRow) (row : OperationRow) (is : IsIndexOf group_of old rows) where
    more_numbers : (group : Option ℕ) → group_of row ≡ group → Grows group row.number old new → (other : ℕ)
        → numbers_in new other ≡ map row_number (filter (is_in_group group_of other) (rows ++ row ∷ []))
    more_numbers None own grows other =
        let no : is_in_group group_of other row ≡ false = ap (λ (g : Option ℕ). gives g other) own in
        ap (λ (o : GroupTable). numbers_in o other) grows ∙ is.numbers other ∙ ap (map row_number) (sym (filter_push (is_in_group group_of other) rows row ∙ rw no refl))
    more_numbers (Some group) own grows other = elim (cases_Bool (group == other)) [
      | inl e ↦ (let inside : is_in_group group_of other row ≡ true = ap (λ (g : Option ℕ). gives g other) own ∙ e in
          grows.numbers other ∙ rw e (ap (λ (l : List ℕ). l ++ row.number ∷ []) (is.numbers other)
          ∙ sym (map_push row_number (filter (is_in_group group_of other) rows) row)
          ∙ ap (map row_number) (sym (filter_push (is_in_group group_of other) rows row ∙ rw inside refl))))
      | inr e ↦ (let no : is_in_group group_of other row ≡ false = ap (λ (g : Option ℕ). gives g other) own ∙ e in
          grows.numbers other ∙ rw e (is.numbers other ∙ ap (map row_number) (sym (filter_push (is_in_group group_of other) rows row ∙ rw no refl))))
    ]

    more_count : (group : Option ℕ) → group_of row ≡ group → Grows group row.number old new → count_in new ≡ length (filter (has_group group_of) (rows ++ row ∷ []))
    more_count None own grows =
        let no : has_group group_of row ≡ false = ap is_some own in
        ap count_in grows ∙ is.count ∙ ap length (sym (filter_push (has_group group_of) rows row ∙ rw no refl))
    more_count (Some group) own grows =
        let inside : has_group group_of row ≡ true = ap is_some own in
        let pushed : filter (has_group group_of) (rows ++ row ∷ []) ≡ filter (has_group group_of) rows ++ row ∷ [] = filter_push (has_group group_of) rows row ∙ rw inside refl in
        omega (arith, grows.count, is.count, length_push (filter (has_group group_of) rows) row, ap length pushed)

    pub index_more : Grows (group_of row) row.number old new → IsIndexOf group_of new (rows ++ row ∷ [])
    index_more grows = record { numbers = more_numbers (group_of row) refl grows; count = more_count (group_of row) refl grows }

  -- ---- a row goes

  without_rows : (n : ℕ) (p : OperationRow → Bool) (rows : List OperationRow)
      → without n (map row_number (filter p rows)) ≡ map row_number (filter p (filter (λ row. not (has_row n row)) rows))
  without_rows n p [] = refl
  without_rows n p (r ∷ rs) = elim (cases_Bool (p r)) [
    | inl e ↦ elim (cases_Bool (r.number == n)) [
      | inl f ↦ rw (e, f) (without_rows n p rs)
      | inr f ↦ rw (e, f) (rw e (ap (λ (l : List ℕ). r.number ∷ l) (without_rows n p rs)))
    ]
    | inr e ↦ elim (cases_Bool (r.number == n)) [
      | inl f ↦ rw (e, f) (without_rows n p rs)
      | inr f ↦ rw (e, f) (rw e (without_rows n p rs))
    ]
  ]

  -- those of another group stay
  others_stay : (n : ℕ) (p : OperationRow → Bool) (rows : List OperationRow) → AllByRecursion (λ row. row.number ≡ n → p row ≡ false) rows
      → map row_number (filter p rows) ≡ map row_number (filter p (filter (λ row. not (has_row n row)) rows))
  others_stay n p [] h = refl
  others_stay n p (r ∷ rs) h = elim (cases_Bool (r.number == n)) [
    | inl f ↦ rw (h.0 (eqb-true r.number n f), f) (others_stay n p rs h.1)
    | inr f ↦ elim (cases_Bool (p r)) [
      | inl e ↦ rw (e, f) (rw e (ap (λ (l : List ℕ). r.number ∷ l) (others_stay n p rs h.1)))
      | inr e ↦ rw (e, f) (rw e (others_stay n p rs h.1))
    ]
  ]

  has_own : (n : ℕ) (row : OperationRow) (p : OperationRow → Bool) (rows : List OperationRow) → find (has_row n) rows ≡ Some row → p row ≡ true
      → list_any (λ m. m == n) (map row_number (filter p rows)) ≡ true
  has_own n row p [] found passes = absurd cc
  has_own n row p (r ∷ rs) found passes = elim (cases_Bool (r.number == n)) [
    | inl f ↦ (let found' : Some r ≡ Some row = rw f at found in
        let same : r ≡ row = cc in
        let e : p r ≡ true = ap p same ∙ passes in
        rw (e, f) refl)
    | inr f ↦ (let rest = has_own n row p rs (rw f at found) passes in
        elim (cases_Bool (p r)) [ inl e ↦ rw (e, f) rest | inr e ↦ rw e rest ])
  ]

  one_less : (n : ℕ) (row : OperationRow) (s : OperationRow → Bool) (rows : List OperationRow) → AllDiffer (map row_number rows) → find (has_row n) rows ≡ Some row
      → length (filter s (filter (λ r. not (has_row n r)) rows)) + cond (s row) 1 0 ≡ length (filter s rows)
  one_less n row s [] differ found = absurd cc
  one_less n row s (r ∷ rs) differ found = elim (cases_Bool (r.number == n)) [
    | inl f ↦ (let found' : Some r ≡ Some row = rw f at found in
        let same : r ≡ row = cc in
        let stay : filter (λ k. not (has_row n k)) rs ≡ rs = none_out row_number n rs (subst (λ (m : ℕ). NoneIs m (map row_number rs)) (eqb-true r.number n f) differ.0) in
        elim (cases_Bool (s r)) [
          | inl e ↦ (let own : s row ≡ true = ap s (sym same) ∙ e in rw (f, e, own, stay) (omega arith))
          | inr e ↦ (let own : s row ≡ false = ap s (sym same) ∙ e in rw (f, e, own, stay) (omega arith))
        ])
    | inr f ↦ (let rest = one_less n row s rs differ.1 (rw f at found) in
        elim (cases_Bool (s r)) [ inl e ↦ rw (f, e) (omega (arith, rest)) | inr e ↦ rw (f, e) rest ])
  ]

  module _ (old new : GroupTable) (rows : List OperationRow) (n : ℕ) (row : OperationRow) (is : IsIndexOf group_of old rows) (differ : AllDiffer (map row_number rows)) (found : find (has_row n) rows ≡ Some row) where
    -- the row of the number is in no other group
    apart : (other : ℕ) → is_in_group group_of other row ≡ false → AllByRecursion (λ r. r.number ≡ n → is_in_group group_of other r ≡ false) rows
    apart other none = all_weaker (λ r. r.number ≡ n → r ≡ row) (λ r. r.number ≡ n → is_in_group group_of other r ≡ false) rows
        (λ r only same. ap (is_in_group group_of other) (only same) ∙ none) (only_one row_number rows n row differ found)

    stays : (other : ℕ) → is_in_group group_of other row ≡ false → numbers_in old other ≡ map row_number (filter (is_in_group group_of other) (filter (λ r. not (has_row n r)) rows))
    stays other none = is.numbers other ∙ others_stay n (is_in_group group_of other) rows (apart other none)

    less_numbers : (group : Option ℕ) → group_of row ≡ group → Shrinks group n old new → (other : ℕ)
        → numbers_in new other ≡ map row_number (filter (is_in_group group_of other) (filter (λ r. not (has_row n r)) rows))
    less_numbers None own shrinks other = ap (λ (o : GroupTable). numbers_in o other) shrinks ∙ stays other (ap (λ (g : Option ℕ). gives g other) own)
    less_numbers (Some group) own shrinks other = elim (cases_Bool (group == other)) [
      | inl e ↦ shrinks.numbers other ∙ rw e (ap (without n) (is.numbers other) ∙ without_rows n (is_in_group group_of other) rows)
      | inr e ↦ shrinks.numbers other ∙ rw e (stays other (ap (λ (g : Option ℕ). gives g other) own ∙ e))
    ]

    less_count : (group : Option ℕ) → group_of row ≡ group → Shrinks group n old new → count_in new ≡ length (filter (has_group group_of) (filter (λ r. not (has_row n r)) rows))
    less_count None own shrinks =
        let no : has_group group_of row ≡ false = ap is_some own in
        let less = one_less n row (has_group group_of) rows differ found in
        omega (arith, ap count_in shrinks, is.count, rw no at less)
    less_count (Some group) own shrinks =
        let inside : has_group group_of row ≡ true = ap is_some own in
        let in_it : is_in_group group_of group row ≡ true = ap (λ (g : Option ℕ). gives g group) own ∙ eq-eqb group group refl in
        let there : has old group n ≡ true = ap (list_any (λ m. m == n)) (is.numbers group) ∙ has_own n row (is_in_group group_of group) rows found in_it in
        let less = one_less n row (has_group group_of) rows differ found in
        omega (arith, rw there at shrinks.count, is.count, rw inside at less)

    pub index_less : Shrinks (group_of row) n old new → IsIndexOf group_of new (filter (λ r. not (has_row n r)) rows)
    index_less shrinks = record { numbers = less_numbers (group_of row) refl shrinks; count = less_count (group_of row) refl shrinks }

  -- ---- rows change, and keep their numbers and groups

  module _ (n : ℕ) (f : OperationRow → OperationRow) (number : (row : OperationRow) → row_number (f row) ≡ row_number row) (group : (row : OperationRow) → group_of (f row) ≡ group_of row) where
    same_numbers : (p : Option ℕ → Bool) (rows : List OperationRow) → map row_number (filter (λ row. p (group_of row)) (with_row n f rows)) ≡ map row_number (filter (λ row. p (group_of row)) rows)
    same_numbers p [] = refl
    same_numbers p (r ∷ rs) =
        let rest = same_numbers p rs in
        elim (cases_Bool (r.number == n)) [
          | inl t ↦ elim (cases_Bool (p (group_of r))) [
            | inl e ↦ (let e' : p (group_of (f r)) ≡ true = ap p (group r) ∙ e in rw (t, e, e') (λ i. number r i ∷ rest i))
            | inr e ↦ (let e' : p (group_of (f r)) ≡ false = ap p (group r) ∙ e in rw (t, e, e') rest)
          ]
          | inr t ↦ elim (cases_Bool (p (group_of r))) [
            | inl e ↦ rw t (rw e (ap (λ (l : List ℕ). r.number ∷ l) rest))
            | inr e ↦ rw t (rw e rest)
          ]
        ]

    numbers_length : (rows : List OperationRow) → length (map row_number rows) ≡ length rows
    numbers_length [] = refl
    numbers_length (r ∷ rs) = ap suc (numbers_length rs)

    pub index_same : (index : GroupTable) (rows : List OperationRow) → IsIndexOf group_of index rows → IsIndexOf group_of index (with_row n f rows)
    index_same index rows is = record {
      numbers = λ other. is.numbers other ∙ sym (same_numbers (λ g. gives g other) rows);
      count = is.count ∙ sym (numbers_length (filter (has_group group_of) rows)) ∙ ap length (sym (same_numbers is_some rows)) ∙ numbers_length (filter (has_group group_of) (with_row n f rows));
    }

-- ---- a token is shown

pub shown_number : (token : AuthToken) (row : OperationRow) → row_number (shown_if token row) ≡ row_number row
shown_number token row = elim (cases_Bool (is_for_row token row)) [ inl e ↦ rw e refl | inr e ↦ rw e refl ]

pub shown_client : (token : AuthToken) (row : OperationRow) → ◌≡◌ {A = Option ℕ} (Some (shown_if token row).client) (Some row.client)
shown_client token row = elim (cases_Bool (is_for_row token row)) [ inl e ↦ rw e refl | inr e ↦ rw e refl ]

pub shown_challenge : (token : AuthToken) (row : OperationRow) → challenge_group (shown_if token row) ≡ challenge_group row
shown_challenge token row = elim (cases_Bool (is_for_row token row)) [ inl e ↦ rw e refl | inr e ↦ rw e refl ]

-- the rows of these numbers do not have the first one's
module _ (token : AuthToken) where
  past_first : (numbers : List ℕ) (r : OperationRow) (rs : List OperationRow) → NoneIs r.number numbers → with_all_shown token numbers (r ∷ rs) ≡ r ∷ with_all_shown token numbers rs
  past_first [] r rs none = refl
  past_first (n ∷ ns) r rs none =
      let other : (r.number == n) ≡ false = ne_eqb r.number n (λ (e : r.number ≡ n). none.0 (sym e)) in
      rw other (past_first ns r (with_row n (shown_if token) rs) none.1)

  none_shown : (n : ℕ) (numbers : List ℕ) (rows : List OperationRow) → NoneIs n (map row_number rows) → NoneIs n (map row_number (with_all_shown token numbers rows))
  none_shown n [] rows none = none
  none_shown n (m ∷ ms) rows none = none_shown n ms (with_row m (shown_if token) rows) (none_row rows none)
    where
      none_row : (rows : List OperationRow) → NoneIs n (map row_number rows) → NoneIs n (map row_number (with_row m (shown_if token) rows))
      none_row [] none = tt
      none_row (r ∷ rs) none = elim (cases_Bool (r.number == m)) [
        | inl e ↦ rw e ((λ (s : row_number (shown_if token r) ≡ n). none.0 (sym (shown_number token r) ∙ s)), none_row rs none.1)
        | inr e ↦ rw e (none.0, none_row rs none.1)
      ]

  none_filtered : (n : ℕ) (p : OperationRow → Bool) (rows : List OperationRow) → NoneIs n (map row_number rows) → NoneIs n (map row_number (filter p rows))
  none_filtered n p [] none = tt
  none_filtered n p (r ∷ rs) none = elim (cases_Bool (p r)) [ inl e ↦ rw e (none.0, none_filtered n p rs none.1) | inr e ↦ rw e (none_filtered n p rs none.1) ]

  is_not_for : (row : OperationRow) → gives row.challenge token.challenge ≡ false → shown_if token row ≡ row
  is_not_for row e = rw e refl

  -- shown to those that have its challenge is shown to all
  pub all_shown : (rows : List OperationRow) → AllDiffer (map row_number rows)
      → with_all_shown token (map row_number (filter (is_in_group challenge_group token.challenge) rows)) rows ≡ with_shown token rows
  all_shown [] differ = refl
  all_shown (r ∷ rs) differ =
      let rest = all_shown rs differ.1 in
      let numbers : List ℕ = map row_number (filter (is_in_group challenge_group token.challenge) rs) in
      let none : NoneIs r.number numbers = none_filtered r.number (is_in_group challenge_group token.challenge) rs differ.0 in
      elim (cases_Bool (gives r.challenge token.challenge)) [
        | inl e ↦ (let own : (r.number == r.number) ≡ true = eq-eqb r.number r.number refl in
            let stay : with_row r.number (shown_if token) rs ≡ rs = none_changed row_number r.number (shown_if token) rs differ.0 in
            let first : with_row r.number (shown_if token) (r ∷ rs) ≡ shown_if token r ∷ rs = rw own (ap (λ (l : List OperationRow). shown_if token r ∷ l) stay) in
            let none' : NoneIs (row_number (shown_if token r)) numbers = subst (λ (m : ℕ). NoneIs m numbers) (sym (shown_number token r)) none in
            let list : map row_number (filter (is_in_group challenge_group token.challenge) (r ∷ rs)) ≡ r.number ∷ numbers = rw e refl in
            ap (λ (ns : List ℕ). with_all_shown token ns (r ∷ rs)) list
            ∙ ap (with_all_shown token numbers) first
            ∙ past_first numbers (shown_if token r) rs none'
            ∙ ap (λ (l : List OperationRow). shown_if token r ∷ l) rest)
        | inr e ↦ (let list : map row_number (filter (is_in_group challenge_group token.challenge) (r ∷ rs)) ≡ numbers = rw e refl in
            ap (λ (ns : List ℕ). with_all_shown token ns (r ∷ rs)) list
            ∙ past_first numbers r rs none
            ∙ (λ i. sym (is_not_for r e) i ∷ rest i))
      ]

  pub indexes_shown : (group_of : OperationRow → Option ℕ) → ((row : OperationRow) → group_of (shown_if token row) ≡ group_of row) → (index : GroupTable) (numbers : List ℕ) (rows : List OperationRow)
      → IsIndexOf group_of index rows → IsIndexOf group_of index (with_all_shown token numbers rows)
  indexes_shown group_of group index [] rows is = is
  indexes_shown group_of group index (n ∷ ns) rows is =
      indexes_shown group_of group index ns (with_row n (shown_if token) rows) (index_same group_of n (shown_if token) (shown_number token) group index rows is)

pub shown_on : (token : AuthToken) (numbers rest : List Grouped) (pair : Grouped) (old new whole : List OperationRow) → numbers ≡ pair ∷ rest → new ≡ with_row pair.number (shown_if token) old
    → with_all_shown token (map number_of numbers) old ≡ whole → with_all_shown token (map number_of rest) new ≡ whole
shown_on token numbers rest pair old new whole is now before =
    ap (with_all_shown token (map number_of rest)) now ∙ sym (ap (λ (ns : List Grouped). with_all_shown token (map number_of ns) old) is) ∙ before

-- ---- a client is busy

busy_each : (rows : List OperationRow) (p : OperationRow → Bool) (xs : List OperationRow) → AllByRecursion (λ row. find (has_row row.number) rows ≡ Some row) xs
    → list_any (λ n. option_map_or (λ (row : OperationRow). row.busy) (find (has_row n) rows) false) (map row_number (filter p xs)) ≡ list_any (λ row. p row && row.busy) xs
busy_each rows p [] h = refl
busy_each rows p (x ∷ xs) h =
    let rest = busy_each rows p xs h.1 in
    elim (cases_Bool (p x)) [
      | inl e ↦ rw e (rw h.0 (ap (λ (b : Bool). x.busy || b) rest))
      | inr e ↦ rw e rest
    ]

pub busy_is : (rows : List OperationRow) (p : OperationRow → Bool) → AllDiffer (map row_number rows)
    → list_any (λ n. option_map_or (λ (row : OperationRow). row.busy) (find (has_row n) rows) false) (map row_number (filter p rows)) ≡ list_any (λ row. p row && row.busy) rows
busy_is rows p differ = busy_each rows p rows (found_each row_number rows differ)
