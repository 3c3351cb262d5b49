-- The newest key behind those of the maps.
use Rattle.std.proofs.Common.{◌≡◌, ℕ, ◌+◌, ◌<◌, ◌≤◌, Bool, true, false, not, ◌==◌, List, [], ◌∷◌, ◌++◌, length, Option, Some, None, refl, sym, ap, ◌∙◌, arith, inl, inr}
use Rattle.std.specs.Prelude.{find, map, is_some, IsSome}
use Rattle.std.specs.Option.{option_or}
use Rattle.std.specs.List.{filter}
use Rattle.std.specs.Str.{bytes_eq}
use Rattle.std.proofs.lemmas.Bool.{both_ways, cases_Bool, cases_lt, and_parts, eqb-true, eq-eqb, ne_eqb, not_from_false}
use Rattle.std.proofs.lemmas.Slice.Eq.{bytes_eq-Decides}
use Rattle.grants.proofs.Finding.{all_from_none, all_more, keeps_all, found_has, found_passes}
use Rattle.journal_records.specs.declared.record.KeyRecord.{KeyRecord}
use Rattle.journal_records.specs.LastingPart.{has_id, is_owned, is_named}
use Rattle.key_maps.specs.Names.{name_of, is_at_name}
use Rattle.key_maps.specs.Rows.{AreRows, IsBefore, NonePass}
use Rattle.key_maps.specs.Table.{listed}
use Rattle.key_maps.proofs.NameOrder.{name_test}
use Rattle.key_maps.proofs.KeyRows.{ChangesKey, before_last, changes_none, later_id}
use Rattle.tags.specs.declared.limits.TheConstants.{ALIAS_BYTES}

pub append_none : (rows : List KeyRecord) → rows ++ [] ≡ rows
append_none [] = refl
append_none (key ∷ rows) = ap (λ rest. key ∷ rest) (append_none rows)

pub find_whole : (p : KeyRecord → Bool) (rows : List KeyRecord) (newest : Option KeyRecord) → find p (rows ++ listed newest) ≡ option_or (find p rows) (find p (listed newest))
find_whole p [] newest = refl
find_whole p (key ∷ rows) newest = elim (cases_Bool (p key)) [ inl found ↦ rw found refl | inr other ↦ rw other (find_whole p rows newest) ]

filter_whole : (p : KeyRecord → Bool) (rows more : List KeyRecord) → filter p (rows ++ more) ≡ filter p rows ++ filter p more
filter_whole p [] more = refl
filter_whole p (key ∷ rows) more = elim (cases_Bool (p key)) [ inl stays ↦ rw (stays, filter_whole p rows more) refl | inr gone ↦ rw gone (filter_whole p rows more) ]

map_whole : (f : KeyRecord → KeyRecord) (rows more : List KeyRecord) → map f (rows ++ more) ≡ map f rows ++ map f more
map_whole f [] more = refl
map_whole f (key ∷ rows) more = ap (λ rest. f key ∷ rest) (map_whole f rows more)

pub length_whole : (rows : List KeyRecord) (newest : Option KeyRecord) → length (rows ++ listed newest) ≡ length rows + length (listed newest)
length_whole [] newest = omega arith
length_whole (key ∷ rows) newest = omega (arith, length_whole rows newest)

-- nothing is taken out where nothing is found
pub none_out : (p : KeyRecord → Bool) (rows : List KeyRecord) → NonePass p rows → filter (λ key. not (p key)) rows ≡ rows
none_out p rows a = keeps_all (λ key. not (p key)) rows (all_more (λ key. p key ≡ false) (λ key. not (p key) ≡ true) (λ key h. not_from_false (p key) h) rows a)

found_is : (id : ℕ) (rows : List KeyRecord) → is_some (find (has_id id) rows) ≡ true → (key : KeyRecord) × (find (has_id id) rows ≡ Some key)
found_is id rows e = at (find (has_id id) rows) refl e
  where
    at : (found : Option KeyRecord) → find (has_id id) rows ≡ found → is_some found ≡ true → (key : KeyRecord) × (find (has_id id) rows ≡ Some key)
    at None f some = absurd cc
    at (Some key) f some = (key, f)

none_is : (found : Option KeyRecord) → is_some found ≡ false → found ≡ None
none_is None e = refl
none_is (Some key) e = absurd cc

-- where the maps have a number the newest key has another
newest_other : (id : ℕ) (rows : List KeyRecord) (newest : Option KeyRecord) → AreRows (rows ++ listed newest) → is_some (find (has_id id) rows) ≡ true → NonePass (has_id id) (listed newest)
newest_other id rows None t e = tt
newest_other id rows (Some last) t e =
    let found = found_is id rows e in
    (later_id id found.0 last (found_passes (has_id id) rows found.0 found.1) (found_has (λ key. IsBefore key last) (has_id id) rows found.0 (before_last rows last t) found.1), tt)

abbrev without : ℕ → List KeyRecord → List KeyRecord
without id rows = filter (λ key. not (has_id id key)) rows

pub out_of_maps : (id : ℕ) (rows new : List KeyRecord) (newest : Option KeyRecord) → AreRows (rows ++ listed newest) → is_some (find (has_id id) rows) ≡ true → new ≡ without id rows → new ++ listed newest ≡ without id (rows ++ listed newest)
out_of_maps id rows new newest t e is =
    ap (λ front. front ++ listed newest) is ∙ ap (λ behind. without id rows ++ behind) (sym (none_out (has_id id) (listed newest) (newest_other id rows newest t e))) ∙ sym (filter_whole (λ key. not (has_id id key)) rows (listed newest))

pub out_at_newest : (id : ℕ) (rows new : List KeyRecord) (last : KeyRecord) → last.id ≡ id → new ≡ without id rows → new ++ [] ≡ without id (rows ++ last ∷ [])
out_at_newest id rows new last here is =
    rw (is, filter_whole (λ key. not (has_id id key)) rows (last ∷ []), eq-eqb last.id id here) refl

pub stays_whole : (id : ℕ) (rows new : List KeyRecord) (newest : Option KeyRecord) → NonePass (has_id id) (listed newest) → new ≡ without id rows → new ++ listed newest ≡ without id (rows ++ listed newest)
stays_whole id rows new newest other is =
    ap (λ front. front ++ listed newest) is ∙ ap (λ behind. without id rows ++ behind) (sym (none_out (has_id id) (listed newest) other)) ∙ sym (filter_whole (λ key. not (has_id id key)) rows (listed newest))

pub other_newest : (id : ℕ) (last : KeyRecord) → (last.id ≡ id → ⊥) → NonePass (has_id id) (listed (Some last))
other_newest id last apart = (ne_eqb last.id id apart, tt)

-- the key of a number changes in place: in the maps, in neither, or at the newest
module _ (id : ℕ) (f : KeyRecord → KeyRecord) (is : ChangesKey id f) where
  pub changed_in_maps : (rows new : List KeyRecord) (newest : Option KeyRecord) → AreRows (rows ++ listed newest) → is_some (find (has_id id) rows) ≡ true → new ≡ map f rows → new ++ listed newest ≡ map f (rows ++ listed newest)
  changed_in_maps rows new newest t e same =
      ap (λ front. front ++ listed newest) same ∙ ap (λ behind. map f rows ++ behind) (sym (changes_none id f is (listed newest) (newest_other id rows newest t e))) ∙ sym (map_whole f rows (listed newest))

  pub changed_elsewhere : (rows new : List KeyRecord) (newest : Option KeyRecord) → NonePass (has_id id) (listed newest) → new ≡ map f rows → new ++ listed newest ≡ map f (rows ++ listed newest)
  changed_elsewhere rows new newest other same =
      ap (λ front. front ++ listed newest) same ∙ ap (λ behind. map f rows ++ behind) (sym (changes_none id f is (listed newest) other)) ∙ sym (map_whole f rows (listed newest))

  pub changed_at_newest : (rows new : List KeyRecord) (last changed : KeyRecord) → changed ≡ f last → new ≡ map f rows → new ++ changed ∷ [] ≡ map f (rows ++ last ∷ [])
  changed_at_newest rows new last changed one same = rw (one, same) (sym (map_whole f rows (last ∷ [])))

  -- no key of the maps has the number
  pub changed_none : (rows : List KeyRecord) → is_some (find (has_id id) rows) ≡ false → rows ≡ map f rows
  changed_none rows none = sym (changes_none id f is rows (all_from_none (has_id id) rows (none_is (find (has_id id) rows) none)))

-- ---- look-ups by an owner and an alias

alias_fits : (domain nspace : ℕ) (alias : List ℕ) (key : KeyRecord) → is_named domain nspace alias key ≡ true → key.alias ≡ alias
alias_fits domain nspace alias key e = (bytes_eq-Decides key.alias alias).0 (and_parts (is_owned domain nspace key) (bytes_eq key.alias alias) e).1

pub named_is : (domain nspace : ℕ) (alias : List ℕ) (rows : List KeyRecord) → AreRows rows → length alias ≤ ALIAS_BYTES → find (is_at_name (name_of domain nspace alias)) rows ≡ find (is_named domain nspace alias) rows
named_is domain nspace alias [] t le = refl
named_is domain nspace alias (key ∷ rows) t le = rw (name_test domain nspace alias key le t.0.0, named_is domain nspace alias rows t.2 le) refl

pub none_so_long : (domain nspace : ℕ) (alias : List ℕ) (rows : List KeyRecord) → AreRows rows → ALIAS_BYTES < length alias → find (is_named domain nspace alias) rows ≡ None
none_so_long domain nspace alias [] t lt = refl
none_so_long domain nspace alias (key ∷ rows) t lt =
    elim (cases_Bool (is_named domain nspace alias key)) [
      | inl named ↦ absurd (omega (arith, ap length (alias_fits domain nspace alias key named), t.0.0, lt))
      | inr other ↦ rw other (none_so_long domain nspace alias rows t.2 lt)
    ]

-- a key that is found by an owner and an alias has an alias that fits
pub found_short : (domain nspace : ℕ) (alias : List ℕ) (rows : List KeyRecord) → AreRows rows → IsSome (find (is_named domain nspace alias) rows) → length alias ≤ ALIAS_BYTES
found_short domain nspace alias rows t some =
    elim (cases_lt ALIAS_BYTES (length alias)) [
      | inl long ↦ absurd (both_ways (is_some (find (is_named domain nspace alias) rows)) (ap is_some (none_so_long domain nspace alias rows t long)) some)
      | inr short ↦ short
    ]

pub owned_parts : (domain nspace : ℕ) (key : KeyRecord) → is_owned domain nspace key ≡ true → (key.domain ≡ domain) × (key.nspace ≡ nspace)
owned_parts domain nspace key e =
    let parts = and_parts (key.domain == domain) (key.nspace == nspace) e in
    (eqb-true key.domain domain parts.0, eqb-true key.nspace nspace parts.1)

pub count_whole : (domain nspace : ℕ) (rows : List KeyRecord) → length (filter (is_owned domain nspace) (rows ++ [])) ≡ length (filter (is_owned domain nspace) rows)
count_whole domain nspace rows = ap (λ keys. length (filter (is_owned domain nspace) keys)) (append_none rows)
