-- Rows stay rows where a key is put behind them, where keys are taken out, and where one changes in place; and what is found then.
use Rattle.std.proofs.Common.{◌≡◌, ℕ, ◌+◌, Bool, true, false, not, cond, if◌then◌else◌, List, [], ◌∷◌, ◌++◌, length, Option, Some, None, refl, sym, ap, ◌∙◌, subst, arith, inl, inr}
use Rattle.std.specs.Prelude.{find, map, IfSome}
use Rattle.std.specs.Option.{option_map}
use Rattle.std.specs.List.{AllByRecursion, filter}
use Rattle.std.specs.Ordering.{is_eq}
use Rattle.std.proofs.lemmas.Bool.{both_ways, cases_Bool, eqb-true, eq-eqb, ne_eqb, not_from_false}
use Rattle.std.proofs.lemmas.Option.{none-some, same_Some}
use Rattle.grants.proofs.Finding.{all_more, all_front, all_last, all_push, all_filter, find_none, keeps_all, found_has}
use Rattle.journal_records.specs.declared.record.KeyRecord.{KeyRecord}
use Rattle.journal_records.specs.LastingPart.{has_id, is_owned}
use Rattle.journal_records.specs.Effects.{with_blob, with_use}
use Rattle.journal_records.proofs.KeyLists.{KeepsNames, blob_names, use_names}
use Rattle.key_maps.specs.Names.{Name, key_name, is_at_name}
use Rattle.key_maps.specs.Rows.{AreRows, IsBefore, IsFit, NonePass}
use Rattle.key_maps.proofs.NameOrder.{name_test, name_congr}

pub later_id : (id : ℕ) (key later : KeyRecord) → has_id id key ≡ true → IsBefore key later → has_id id later ≡ false
later_id id key later here before = ne_eqb later.id id (λ e. omega (arith, e, eqb-true key.id id here, before.0))

-- a later key is not at the name of an earlier one
pub later_name : (name : Name) (key later : KeyRecord) → IsFit key → IsFit later → is_at_name name key ≡ true → IsBefore key later → is_at_name name later ≡ false
later_name name key later fit fit' here before =
    ap is_eq (name_congr name (key_name key) (key_name later) here)
    ∙ name_test key.domain key.nspace key.alias later fit.0 fit'.0 ∙ before.1

pub all_fit : (rows : List KeyRecord) → AreRows rows → AllByRecursion IsFit rows
all_fit [] t = tt
all_fit (key ∷ rows) t = (t.0, all_fit rows t.2)

pub front_rows : (rows more : List KeyRecord) → AreRows (rows ++ more) → AreRows rows
front_rows [] more t = tt
front_rows (key ∷ rows) more t = (t.0, all_front (IsBefore key) rows more t.1, front_rows rows more t.2)

pub before_last : (rows : List KeyRecord) (last : KeyRecord) → AreRows (rows ++ last ∷ []) → AllByRecursion (λ key. IsBefore key last) rows
before_last [] last t = tt
before_last (key ∷ rows) last t = (all_last (IsBefore key) rows last t.1, before_last rows last t.2)

pub fit_last : (rows : List KeyRecord) (last : KeyRecord) → AreRows (rows ++ last ∷ []) → IsFit last
fit_last [] last t = t.0
fit_last (key ∷ rows) last t = fit_last rows last t.2

pub rows_more : (rows : List KeyRecord) (last : KeyRecord) → AreRows rows → IsFit last → AllByRecursion (λ key. IsBefore key last) rows → AreRows (rows ++ last ∷ [])
rows_more [] last t fit a = (fit, tt, tt)
rows_more (key ∷ rows) last t fit a = (t.0, all_push (IsBefore key) rows last t.1 a.0, rows_more rows last t.2 fit a.1)

pub rows_filter : (p : KeyRecord → Bool) (rows : List KeyRecord) → AreRows rows → AreRows (filter p rows)
rows_filter p [] t = tt
rows_filter p (key ∷ rows) t =
    elim (p key) as (λ b. AreRows (cond b (key ∷ filter p rows) (filter p rows))) [ true ↦ (t.0, all_filter (IsBefore key) p rows t.1, rows_filter p rows t.2) | false ↦ rows_filter p rows t.2 ]

-- ---- a key behind the others

pub id_push : (id : ℕ) (rows : List KeyRecord) (last : KeyRecord) → AreRows (rows ++ last ∷ []) → find (has_id id) (rows ++ last ∷ []) ≡ cond (has_id id last) (Some last) (find (has_id id) rows)
id_push id [] last t = refl
id_push id (key ∷ rows) last t =
    elim (cases_Bool (has_id id key)) [
      | inl here ↦ rw (here, later_id id key last here (all_last (IsBefore key) rows last t.1)) refl
      | inr there ↦ rw there (id_push id rows last t.2)
    ]

pub name_push : (name : Name) (rows : List KeyRecord) (last : KeyRecord) → AreRows (rows ++ last ∷ []) → find (is_at_name name) (rows ++ last ∷ []) ≡ cond (is_at_name name last) (Some last) (find (is_at_name name) rows)
name_push name [] last t = refl
name_push name (key ∷ rows) last t =
    elim (cases_Bool (is_at_name name key)) [
      | inl here ↦ rw (here, later_name name key last t.0 (fit_last rows last t.2) here (all_last (IsBefore key) rows last t.1)) refl
      | inr there ↦ rw there (name_push name rows last t.2)
    ]

pub absent_before : (name : Name) (rows : List KeyRecord) (last : KeyRecord) → AreRows (rows ++ last ∷ []) → is_at_name name last ≡ true → find (is_at_name name) rows ≡ None
absent_before name [] last t h = refl
absent_before name (key ∷ rows) last t h =
    elim (cases_Bool (is_at_name name key)) [
      | inl here ↦ absurd (both_ways (is_at_name name last) (later_name name key last t.0 (fit_last rows last t.2) here (all_last (IsBefore key) rows last t.1)) h)
      | inr there ↦ rw there (absent_before name rows last t.2 h)
    ]

pub count_push : (domain nspace : ℕ) (rows : List KeyRecord) (last : KeyRecord) → length (filter (is_owned domain nspace) (rows ++ last ∷ [])) ≡ length (filter (is_owned domain nspace) rows) + (if is_owned domain nspace last then 1 else 0)
count_push domain nspace [] last = elim (cases_Bool (is_owned domain nspace last)) [ inl yes_owned ↦ rw yes_owned refl | inr other ↦ rw other refl ]
count_push domain nspace (key ∷ rows) last =
    elim (cases_Bool (is_owned domain nspace key)) [
      | inl owned ↦ rw owned (omega (arith, count_push domain nspace rows last))
      | inr other ↦ rw other (count_push domain nspace rows last)
    ]

-- ---- a key that is taken out

pub others_stay : (id : ℕ) (key : KeyRecord) (rows : List KeyRecord) → has_id id key ≡ true → AllByRecursion (IsBefore key) rows → filter (λ later. not (has_id id later)) rows ≡ rows
others_stay id key rows here a =
    keeps_all (λ later. not (has_id id later)) rows (all_more (IsBefore key) (λ later. not (has_id id later) ≡ true) (λ later before. not_from_false (has_id id later) (later_id id key later here before)) rows a)

pub none_behind : (name : Name) (key : KeyRecord) (rows : List KeyRecord) → IsFit key → AreRows rows → is_at_name name key ≡ true → AllByRecursion (IsBefore key) rows → AllByRecursion (λ later. is_at_name name later ≡ false) rows
none_behind name key [] fit t here a = tt
none_behind name key (later ∷ rows) fit t here a = (later_name name key later fit t.0 here a.0, none_behind name key rows fit t.2 here a.1)

pub name_without : (id : ℕ) (name : Name) (rows : List KeyRecord) (out : KeyRecord) → AreRows rows → find (has_id id) rows ≡ Some out → find (is_at_name name) (filter (λ key. not (has_id id key)) rows) ≡ cond (is_at_name name out) None (find (is_at_name name) rows)
name_without id name [] out t e = absurd (none-some out e)
name_without id name (key ∷ rows) out t e =
    elim (cases_Bool (has_id id key)) [
      | inl here ↦
          let same : key ≡ out = same_Some key out (rw here at e) in
          rw (here, ← same, others_stay id key rows here t.1) (elim (cases_Bool (is_at_name name key)) [ inl passes ↦ rw passes (find_none (is_at_name name) rows (none_behind name key rows t.0 t.2 passes t.1)) | inr fails ↦ rw fails refl ])
      | inr there ↦
          let found : find (has_id id) rows ≡ Some out = rw there at e in
          rw there (elim (cases_Bool (is_at_name name key)) [
            | inl passes ↦ rw (passes, later_name name key out t.0 (found_has IsFit (has_id id) rows out (all_fit rows t.2) found) passes (found_has (IsBefore key) (has_id id) rows out t.1 found)) refl
            | inr fails ↦ rw fails (name_without id name rows out t.2 found)
          ])
    ]

pub count_without : (id domain nspace : ℕ) (rows : List KeyRecord) (out : KeyRecord) → AreRows rows → find (has_id id) rows ≡ Some out → length (filter (is_owned domain nspace) (filter (λ key. not (has_id id key)) rows)) + (if is_owned domain nspace out then 1 else 0) ≡ length (filter (is_owned domain nspace) rows)
count_without id domain nspace [] out t e = absurd (none-some out e)
count_without id domain nspace (key ∷ rows) out t e =
    elim (cases_Bool (has_id id key)) [
      | inl here ↦
          let same : key ≡ out = same_Some key out (rw here at e) in
          rw (here, ← same, others_stay id key rows here t.1) (elim (cases_Bool (is_owned domain nspace key)) [ inl owned ↦ rw owned (omega arith) | inr other ↦ rw other (omega arith) ])
      | inr there ↦
          let found : find (has_id id) rows ≡ Some out = rw there at e in
          rw there (elim (cases_Bool (is_owned domain nspace key)) [
            | inl owned ↦ rw owned (omega (arith, count_without id domain nspace rows out t.2 found))
            | inr other ↦ rw other (count_without id domain nspace rows out t.2 found)
          ])
    ]

-- ---- what is found by a name is found by its number

pub id_from_found : (p : KeyRecord → Bool) (rows : List KeyRecord) (key : KeyRecord) → AreRows rows → find p rows ≡ Some key → find (has_id key.id) rows ≡ Some key
id_from_found p [] key t e = absurd (none-some key e)
id_from_found p (first ∷ rows) key t e =
    elim (cases_Bool (p first)) [
      | inl passes ↦ let same : first ≡ key = same_Some first key (rw passes at e) in rw (← same) (rw (eq-eqb first.id first.id refl) refl)
      | inr fails ↦
          let found : find p rows ≡ Some key = rw fails at e in
          rw (ne_eqb first.id key.id (λ same. omega (arith, same, (found_has (IsBefore first) p rows key t.1 found).0))) (id_from_found p rows key t.2 found)
    ]

-- what a look-up finds, its number finds again
pub found_again : (p : KeyRecord → Bool) (rows : List KeyRecord) (found : Option KeyRecord) → found ≡ find p rows → AreRows rows → IfSome found (λ key. find (has_id key.id) rows ≡ Some key)
found_again p rows None e t = tt
found_again p rows (Some key) e t = id_from_found p rows key t (sym e)

-- ---- a key that changes in place

-- the key of a number alone changes, in its blob, its list and its uses left
pub record ChangesKey (id : ℕ) (f : KeyRecord → KeyRecord) : Type 0 where
  pub others : (key : KeyRecord) → has_id id key ≡ false → f key ≡ key
  pub names : KeepsNames f

pub use_changes : (id : ℕ) → ChangesKey id (with_use id)
use_changes id = record { others = λ key other. rw other refl; names = use_names id }

pub blob_changes : (id : ℕ) (blob list : List ℕ) → ChangesKey id (with_blob id blob list)
blob_changes id blob list = record { others = λ key other. rw other refl; names = blob_names id blob list }

-- a test that looks at neither of these
abbrev pub IsBlind : (KeyRecord → Bool) → Type 0
IsBlind p = (key : KeyRecord) (blob list : List ℕ) (left : ℕ) → p (record key { blob = blob; list = list; left = left }) ≡ p key

blind_changed : (f : KeyRecord → KeyRecord) (p : KeyRecord → Bool) → KeepsNames f → IsBlind p → (key : KeyRecord) → p (f key) ≡ p key
blind_changed f p same blind key = ap p (same key) ∙ blind key (f key).blob (f key).list (f key).left

pub find_changed : (f : KeyRecord → KeyRecord) (p : KeyRecord → Bool) → KeepsNames f → IsBlind p → (rows : List KeyRecord) → find p (map f rows) ≡ option_map f (find p rows)
find_changed f p same blind [] = refl
find_changed f p same blind (key ∷ rows) =
    rw (blind_changed f p same blind key) (elim (cases_Bool (p key)) [ inl passes ↦ rw passes refl | inr fails ↦ rw fails (find_changed f p same blind rows) ])

pub length_changed : (f : KeyRecord → KeyRecord) (p : KeyRecord → Bool) → KeepsNames f → IsBlind p → (rows : List KeyRecord) → length (filter p (map f rows)) ≡ length (filter p rows)
length_changed f p same blind [] = refl
length_changed f p same blind (key ∷ rows) =
    rw (blind_changed f p same blind key) (elim (cases_Bool (p key)) [ inl passes ↦ rw passes (omega (arith, length_changed f p same blind rows)) | inr fails ↦ rw fails (length_changed f p same blind rows) ])

-- what a test of a key says where the key keeps its name
changed_has : (P : KeyRecord → Type 0) (f : KeyRecord → KeyRecord) → KeepsNames f → (key : KeyRecord) → P (record key { blob = (f key).blob; list = (f key).list; left = (f key).left }) → P (f key)
changed_has P f same key has = subst P (sym (same key)) has

changed_before : (f : KeyRecord → KeyRecord) → KeepsNames f → (key later : KeyRecord) → IsBefore key later → IsBefore (f key) (f later)
changed_before f same key later before =
    changed_has (λ first. IsBefore first (f later)) f same key (changed_has (λ second. IsBefore (record key { blob = (f key).blob; list = (f key).list; left = (f key).left }) second) f same later before)

all_changed : (f : KeyRecord → KeyRecord) → KeepsNames f → (key : KeyRecord) (rows : List KeyRecord) → AllByRecursion (IsBefore key) rows → AllByRecursion (IsBefore (f key)) (map f rows)
all_changed f same key [] a = tt
all_changed f same key (later ∷ rows) a = (changed_before f same key later a.0, all_changed f same key rows a.1)

pub rows_changed : (f : KeyRecord → KeyRecord) → KeepsNames f → (rows : List KeyRecord) → AreRows rows → AreRows (map f rows)
rows_changed f same [] t = tt
rows_changed f same (key ∷ rows) t = (changed_has IsFit f same key t.0, all_changed f same key rows t.1, rows_changed f same rows t.2)

-- no key has this number
pub changes_none : (id : ℕ) (f : KeyRecord → KeyRecord) → ChangesKey id f → (rows : List KeyRecord) → NonePass (has_id id) rows → map f rows ≡ rows
changes_none id f is [] a = refl
changes_none id f is (key ∷ rows) a = rw (is.others key a.0, changes_none id f is rows a.1) refl
