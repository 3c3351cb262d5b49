-- What granting a row, and taking rows out, make of the table.
use Rattle.std.proofs.Common.{◌≡◌, ℕ, ◌<◌, ◌≤◌, Bool, true, false, not, ◌==◌, if◌then◌else◌, List, [], ◌∷◌, ◌++◌, Option, Some, None, refl, sym, ap, ◌∙◌, arith, inl, inr}
use Rattle.std.specs.Prelude.{find, map, length, is_some, IsSome, IsSomeAnd}
use Rattle.std.specs.Option.{option_or}
use Rattle.std.specs.List.{AllByRecursion, filter}
use Rattle.std.proofs.lemmas.Bool.{both_ways, cases_Bool, cases_lt, and_parts, eqb-true, eq-eqb, ne_eqb, not_from_false}
use Rattle.std.proofs.lemmas.Option.{none-some}
use Rattle.grants.specs.declared.row.GrantRow.{GrantRow}
use Rattle.grants.specs.Rows.{IsTable, IsBefore, is_numbered, is_for, is_of, with_bits}
use Rattle.grants.specs.Table.{Table, numbered, shared, IsOrderly, IsNew, IsHeld, IsNext, AreBelow, IsAddedBelow, IsHolderRow, AddsGrant, SetsBits, DropsGrant, HasNone, granted, granted_of, unless}
use Rattle.grants.specs.Newest.{listed}
use Rattle.grants.proofs.Finding.{all_more, all_push, find_none, keeps_all, all_from_none, found_has, found_passes}
use Rattle.grants.proofs.Ordered.{later_number, before_last, find_push, bits_keep_all, bits_keep_number, numbered_from_held, ends_after, table_filter}
use Rattle.grants.proofs.Whole.{append_none, once_by_number, once_by_key, find_left, find_whole, before_new, number_push, number_rebit, key_rebit, bits_in_maps, bits_of_newest}

-- ---- a grant

none_from : (found : Option GrantRow) → is_some found ≡ false → found ≡ None
none_from None e = refl
none_from (Some row) e = absurd (both_ways true e refl)

pub rows_in_maps : (row : GrantRow) (rows new : List GrantRow) (newest : Option GrantRow) → IsTable (rows ++ listed newest) → new ≡ map (with_bits row.key row.uid row.bits) rows → is_some (find (is_for row.key row.uid) rows) ≡ true → new ++ listed newest ≡ map (with_bits row.key row.uid row.bits) (rows ++ listed newest)
rows_in_maps row rows new newest t e found = rw e (bits_in_maps row.key row.uid row.bits rows newest t found)

some_or : (found more : Option GrantRow) → is_some found ≡ true → is_some (option_or found more) ≡ true
some_or None more e = absurd (both_ways false refl e)
some_or (Some row) more e = refl

pub held_in_maps : (row : GrantRow) (rows : List GrantRow) (newest : Option GrantRow) → is_some (find (is_for row.key row.uid) rows) ≡ true → is_some (find (is_for row.key row.uid) (rows ++ listed newest)) ≡ true
held_in_maps row rows newest found =
    rw (find_whole (is_for row.key row.uid) rows newest) (some_or (find (is_for row.key row.uid) rows) (find (is_for row.key row.uid) (listed newest)) found)

pub is_newest : (row : GrantRow) (rows : List GrantRow) (last : GrantRow) → is_some (find (is_for row.key row.uid) rows) ≡ false → (find (is_for row.key row.uid) (rows ++ last ∷ []) ≡ None → 0 < 0) → is_for row.key row.uid last ≡ true
is_newest row rows last absent room =
    elim (cases_Bool (is_for row.key row.uid last)) [
      | inl same ↦ same
      | inr other ↦ absurd (omega (arith, room (find_whole (is_for row.key row.uid) rows (Some last) ∙ rw (none_from (find (is_for row.key row.uid) rows) absent, other) refl)))
    ]

pub rows_at_newest : (row : GrantRow) (rows new : List GrantRow) (last : GrantRow) → new ≡ map (with_bits row.key row.uid row.bits) rows → is_for row.key row.uid last ≡ true → new ++ (record last { bits = row.bits }) ∷ [] ≡ map (with_bits row.key row.uid row.bits) (rows ++ last ∷ [])
rows_at_newest row rows new last e same = rw e (bits_of_newest row.key row.uid row.bits rows last same)

pub held_at_newest : (row : GrantRow) (rows : List GrantRow) (last : GrantRow) → is_some (find (is_for row.key row.uid) rows) ≡ false → is_for row.key row.uid last ≡ true → is_some (find (is_for row.key row.uid) (rows ++ last ∷ [])) ≡ true
held_at_newest row rows last absent same =
    rw (find_whole (is_for row.key row.uid) rows (Some last), none_from (find (is_for row.key row.uid) rows) absent, same) refl

pub rows_unchanged : (row : GrantRow) (rows new : List GrantRow) → new ≡ map (with_bits row.key row.uid row.bits) rows → is_some (find (is_for row.key row.uid) rows) ≡ false → new ≡ rows ++ []
rows_unchanged row rows new e absent =
    e ∙ bits_keep_all row.key row.uid row.bits rows (all_from_none (is_for row.key row.uid) rows (none_from (find (is_for row.key row.uid) rows) absent)) ∙ sym (append_none rows)

pub new_in_maps : (row : GrantRow) (rows : List GrantRow) → is_some (find (is_for row.key row.uid) rows) ≡ false → find (is_for row.key row.uid) (rows ++ []) ≡ None
new_in_maps row rows absent = ap (find (is_for row.key row.uid)) (append_none rows) ∙ none_from (find (is_for row.key row.uid) rows) absent

abbrev AllBelow : ℕ → List GrantRow → Type 0
AllBelow number rows = AllByRecursion (λ row. row.grant < number) rows

all_below : (number : ℕ) (rows : List GrantRow) → ((other : ℕ) → number ≤ other → find (is_numbered other) rows ≡ None) → AllBelow number rows
all_below number [] h = tt
all_below number (row ∷ rows) h = (
  elim (cases_lt row.grant number) [
    | inl below ↦ below
    | inr above ↦ absurd (both_ways (is_numbered row.grant row) (all_from_none (is_numbered row.grant) (row ∷ rows) (h row.grant above)).0 (eq-eqb row.grant row.grant refl))
  ],
  all_below number rows (λ other le. find_none (is_numbered other) rows (all_from_none (is_numbered other) (row ∷ rows) (h other le)).1),
)

none_above : (number : ℕ) (rows : List GrantRow) → AllBelow number rows → (other : ℕ) → number ≤ other → find (is_numbered other) rows ≡ None
none_above number rows a other le =
    find_none (is_numbered other) rows (all_more (λ row. row.grant < number) (λ row. is_numbered other row ≡ false) (λ row below. ne_eqb row.grant other (λ e. omega (arith, e, below, le))) rows a)

-- each row held goes before one that is added
pub before_added : (table : Table) (row : GrantRow) → IsNew table row → IsNext table row → AllByRecursion (λ held. IsBefore held row) table.rows
before_added table row new next = before_new table.rows row (all_below row.grant table.rows next) (all_from_none (is_for row.key row.uid) table.rows new)

-- what the look-ups find then
pub added_by_number : (old new : Table) (row : GrantRow) → IsNew old row → IsNext old row → AddsGrant old new row → (number : ℕ) → numbered new number ≡ (if is_numbered number (granted old row) then Some (granted old row) else numbered old number)
added_by_number old new row is_new next added number = rw (added, is_new) (number_push number old.rows row (before_added old row is_new next))

pub added_by_key : (old new : Table) (row : GrantRow) → IsNew old row → IsNext old row → AddsGrant old new row → (key uid : ℕ) → shared new key uid ≡ (if is_for key uid row then Some (granted old row) else shared old key uid)
added_by_key old new row is_new next added key uid = rw (added, is_new) (find_push key uid old.rows row (before_added old row is_new next))

bits_by_number_at : (old new : Table) (row : GrantRow) (found : Option GrantRow) → IsOrderly old → shared old row.key row.uid ≡ found → IsSome found → SetsBits old new row → (number : ℕ) → numbered new number ≡ (if is_numbered number (granted_of found row) then Some (granted_of found row) else numbered old number)
bits_by_number_at old new row None t e held set number = absurd (both_ways false refl held)
bits_by_number_at old new row (Some other) t e held set number = rw set (number_rebit row.key row.uid row.bits number old.rows other t e)

pub bits_by_number : (old new : Table) (row : GrantRow) → IsOrderly old → IsHeld old row → SetsBits old new row → (number : ℕ) → numbered new number ≡ (if is_numbered number (granted old row) then Some (granted old row) else numbered old number)
bits_by_number old new row t held set number = bits_by_number_at old new row (shared old row.key row.uid) t refl held set number

bits_by_key_at : (old new : Table) (row : GrantRow) (found : Option GrantRow) → shared old row.key row.uid ≡ found → IsSome found → SetsBits old new row → (key uid : ℕ) → shared new key uid ≡ (if is_for key uid row then Some (granted_of found row) else shared old key uid)
bits_by_key_at old new row None e held set key uid = absurd (both_ways false refl held)
bits_by_key_at old new row (Some other) e held set key uid = rw set (key_rebit row.key row.uid row.bits key uid old.rows other e)

pub bits_by_key : (old new : Table) (row : GrantRow) → IsHeld old row → SetsBits old new row → (key uid : ℕ) → shared new key uid ≡ (if is_for key uid row then Some (granted old row) else shared old key uid)
bits_by_key old new row held set key uid = bits_by_key_at old new row (shared old row.key row.uid) refl held set key uid

-- ---- rows that are taken out

pub left_by_number : (out : GrantRow → Bool) (old new : Table) → IsOrderly old → new.rows ≡ filter (λ row. not (out row)) old.rows → (number : ℕ) → numbered new number ≡ unless out (numbered old number)
left_by_number out old new t e number = rw e (find_left out (is_numbered number) old.rows (once_by_number number old.rows t))

pub left_by_key : (out : GrantRow → Bool) (old new : Table) → IsOrderly old → new.rows ≡ filter (λ row. not (out row)) old.rows → (key uid : ℕ) → shared new key uid ≡ unless out (shared old key uid)
left_by_key out old new t e key uid = rw e (find_left out (is_for key uid) old.rows (once_by_key key uid old.rows t))

filter_whole : (p : GrantRow → Bool) (rows more : List GrantRow) → filter p (rows ++ more) ≡ filter p rows ++ filter p more
filter_whole p [] more = refl
filter_whole p (row ∷ rows) more = elim (cases_Bool (p row)) [ inl stays ↦ rw (stays, filter_whole p rows more) refl | inr gone ↦ rw gone (filter_whole p rows more) ]

-- nothing is taken out where nothing is found
pub none_out : (p : GrantRow → Bool) (rows : List GrantRow) → find p rows ≡ None → rows ≡ filter (λ row. not (p row)) rows
none_out p rows e = sym (keeps_all (λ row. not (p row)) rows (all_more (λ row. p row ≡ false) (λ row. not (p row) ≡ true) (λ row h. not_from_false (p row) h) rows (all_from_none p rows e)))

pub out_of_maps : (number : ℕ) (rows new : List GrantRow) (newest : Option GrantRow) (out : GrantRow) → IsTable (rows ++ listed newest) → find (is_numbered number) rows ≡ Some out → new ≡ filter (λ row. not (is_numbered number row)) rows → new ++ listed newest ≡ filter (λ row. not (is_numbered number row)) (rows ++ listed newest)
out_of_maps number rows new None out t found e = rw (e, filter_whole (λ row. not (is_numbered number row)) rows []) refl
out_of_maps number rows new (Some last) out t found e =
    let before : IsBefore out last = found_has (λ row. IsBefore row last) (is_numbered number) rows out (before_last rows last t) found in
    rw (e, filter_whole (λ row. not (is_numbered number row)) rows (last ∷ []), later_number number out last (found_passes (is_numbered number) rows out found) before) refl

pub out_at_newest : (number : ℕ) (rows new : List GrantRow) (last : GrantRow) → find (is_numbered number) rows ≡ None → is_numbered number last ≡ true → new ≡ filter (λ row. not (is_numbered number row)) rows → new ++ [] ≡ filter (λ row. not (is_numbered number row)) (rows ++ last ∷ [])
out_at_newest number rows new last absent here e = rw (e, filter_whole (λ row. not (is_numbered number row)) rows (last ∷ []), here) refl

pub none_in_whole : (number : ℕ) (rows : List GrantRow) (newest : Option GrantRow) → find (is_numbered number) rows ≡ None → find (is_numbered number) (listed newest) ≡ None → find (is_numbered number) (rows ++ listed newest) ≡ None
none_in_whole number rows newest absent other = rw (find_whole (is_numbered number) rows newest, absent, other) refl

pub newest_found : (rows : List GrantRow) (last : GrantRow) → IsTable (rows ++ last ∷ []) → find (is_numbered last.grant) (rows ++ last ∷ []) ≡ Some last
newest_found rows last t = number_push last.grant rows last (before_last rows last t) ∙ rw (eq-eqb last.grant last.grant refl) refl

pub found_in_maps : (number : ℕ) (rows : List GrantRow) (newest : Option GrantRow) (out : GrantRow) → find (is_numbered number) rows ≡ Some out → find (is_numbered number) (rows ++ listed newest) ≡ Some out
found_in_maps number rows newest out e = find_whole (is_numbered number) rows newest ∙ rw e refl

pub none_at_newest : (number : ℕ) (newest : Option GrantRow) (last : GrantRow) → newest ≡ Some last → (last.grant ≡ number → ⊥) → find (is_numbered number) (listed newest) ≡ None
none_at_newest number newest last e apart = rw (e, ne_eqb last.grant number apart) refl

pub stays_whole : (number : ℕ) (rows new : List GrantRow) (newest : Option GrantRow) → find (is_numbered number) rows ≡ None → find (is_numbered number) (listed newest) ≡ None → new ≡ filter (λ row. not (is_numbered number row)) rows → new ++ listed newest ≡ filter (λ row. not (is_numbered number row)) (rows ++ listed newest)
stays_whole number rows new newest absent other e =
    ap (λ front. front ++ listed newest) (e ∙ sym (none_out (is_numbered number) rows absent)) ∙ none_out (is_numbered number) (rows ++ listed newest) (none_in_whole number rows newest absent other)

pub found_at_newest : (number : ℕ) (rows : List GrantRow) (last : GrantRow) → find (is_numbered number) rows ≡ None → last.grant ≡ number → find (is_numbered number) (rows ++ last ∷ []) ≡ Some last
found_at_newest number rows last absent here = find_whole (is_numbered number) rows (Some last) ∙ rw (absent, eq-eqb last.grant number here) refl

-- ---- the end of a key, a row at a time

pub ends_one : (key number : ℕ) (old new : Table) → IsOrderly old → IsSomeAnd (numbered old number) (λ row. row.key ≡ key) → DropsGrant old new number → filter (λ row. not (is_of key row)) new.rows ≡ filter (λ row. not (is_of key row)) old.rows
ends_one key number old new t found out = ends_at (numbered old number) refl found
  where
    ends_at : (row : Option GrantRow) → numbered old number ≡ row → IsSomeAnd row (λ row. row.key ≡ key) → filter (λ row. not (is_of key row)) new.rows ≡ filter (λ row. not (is_of key row)) old.rows
    ends_at None e h = absurd h
    ends_at (Some row) e h = rw out (ends_after number key old.rows row t e h)

shorter_at : (number : ℕ) (rows : List GrantRow) (row : GrantRow) → find (is_numbered number) rows ≡ Some row → length (filter (λ r. not (is_numbered number r)) rows) < length rows
shorter_at number [] row e = absurd (none-some row e)
shorter_at number (first ∷ rows) row e =
    elim (cases_Bool (is_numbered number first)) [
      | inl here ↦ rw here (omega (arith, left_at_most number rows))
      | inr other ↦ rw other (omega (arith, shorter_at number rows row (rw other at e)))
    ]
  where
    left_at_most : (number : ℕ) (rows : List GrantRow) → length (filter (λ r. not (is_numbered number r)) rows) ≤ length rows
    left_at_most number [] = omega arith
    left_at_most number (first ∷ rows) = elim (cases_Bool (is_numbered number first)) [ inl here ↦ rw here (omega (arith, left_at_most number rows)) | inr other ↦ rw other (omega (arith, left_at_most number rows)) ]

pub fewer : (key number : ℕ) (old new : Table) → IsSomeAnd (numbered old number) (λ row. row.key ≡ key) → DropsGrant old new number → length new.rows < length old.rows
fewer key number old new found out = fewer_at (numbered old number) refl found
  where
    fewer_at : (row : Option GrantRow) → numbered old number ≡ row → IsSomeAnd row (λ row. row.key ≡ key) → length new.rows < length old.rows
    fewer_at None e h = absurd h
    fewer_at (Some row) e h = rw out (shorter_at number old.rows row e)

pub orderly_after : (number : ℕ) (old new : Table) → IsOrderly old → DropsGrant old new number → IsOrderly new
orderly_after number old new t out = rw out (table_filter (λ row. not (is_numbered number row)) old.rows t)

pub none_left : (key : ℕ) (table : Table) → HasNone table key → table.rows ≡ filter (λ row. not (is_of key row)) table.rows
none_left key table h = sym (keeps_all (λ row. not (is_of key row)) table.rows (all_more (λ row. is_of key row ≡ false) (λ row. not (is_of key row) ≡ true) (λ row e. not_from_false (is_of key row) e) table.rows h))

-- ---- the numbers that are held stay below

bits_below_at : (key uid bits number : ℕ) (rows : List GrantRow) → AllByRecursion (λ row. row.grant < number) rows → AllByRecursion (λ row. row.grant < number) (map (with_bits key uid bits) rows)
bits_below_at key uid bits number [] a = tt
bits_below_at key uid bits number (row ∷ rows) a = (rw (bits_keep_number key uid bits row) a.0, bits_below_at key uid bits number rows a.1)

pub bits_below : (old new : Table) (row : GrantRow) → SetsBits old new row → (number : ℕ) → AreBelow old number → IsAddedBelow old row number → AreBelow new number
bits_below old new row set number below added = λ other le. rw set (none_above number (map (with_bits row.key row.uid row.bits) old.rows) (bits_below_at row.key row.uid row.bits number old.rows (all_below number old.rows below)) other le)

pub added_below : (old new : Table) (row : GrantRow) → IsNew old row → AddsGrant old new row → (number : ℕ) → AreBelow old number → IsAddedBelow old row number → AreBelow new number
added_below old new row is_new set number below added = λ other le. rw set (none_above number (old.rows ++ row ∷ []) (all_push (λ held. held.grant < number) old.rows row (all_below number old.rows below) (added is_new)) other le)

-- ---- what is found

pub number_found : (number : ℕ) (rows : List GrantRow) (row : GrantRow) → find (is_numbered number) rows ≡ Some row → row.grant ≡ number
number_found number rows row e = eqb-true row.grant number (found_passes (is_numbered number) rows row e)

pub holder_found : (key uid : ℕ) (table : Table) (row : GrantRow) → IsOrderly table → shared table key uid ≡ Some row → IsHolderRow table key uid row
holder_found key uid table row t e =
    let parts = and_parts (row.key == key) (row.uid == uid) (found_passes (is_for key uid) table.rows row e) in
    record { of_key = eqb-true row.key key parts.0; to_uid = eqb-true row.uid uid parts.1; same = numbered_from_held key uid table.rows row t e }

pub held_in_whole : (key uid : ℕ) (rows : List GrantRow) (newest : Option GrantRow) (row : GrantRow) → find (is_for key uid) rows ≡ Some row → find (is_for key uid) (rows ++ listed newest) ≡ Some row
held_in_whole key uid rows newest row e = find_whole (is_for key uid) rows newest ∙ rw e refl
