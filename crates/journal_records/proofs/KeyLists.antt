-- Keys that differ, and grants of live keys: behind the others, taken out, and used.
use Rattle.std.proofs.Common.{◌≡◌, ℕ, Bool, true, false, cond, not, ◌==◌, ◌||◌, List, [], ◌∷◌, ◌++◌, refl, sym, subst, inl, inr}
use Rattle.std.specs.Prelude.{map}
use Rattle.std.specs.List.{AllByRecursion, filter}
use Rattle.std.specs.Str.{bytes_eq}
use Rattle.std.proofs.lemmas.Bool.{cases_Bool, both_ways, and_from, and_parts, or_cases, or_left, or_parts, or_right, eqb-true, eq-eqb, false_from_ne_true}
use Rattle.std.proofs.lemmas.Slice.Eq.{bytes_eq-Decides}
use Rattle.grants.specs.declared.row.GrantRow.{GrantRow}
use Rattle.grants.specs.Rows.{is_for}
use Rattle.grants.proofs.Finding.{all_push, all_filter}
use Rattle.journal_records.specs.declared.record.KeyRecord.{KeyRecord}
use Rattle.journal_records.specs.Effects.{with_blob, with_use}
use Rattle.journal_records.specs.LastingPart.{has_id, is_named, is_owned, some_has_id}
use Rattle.journal_records.specs.Storable.{AreKeys, IsKeyBefore}
use Rattle.journal_records.proofs.Lists.{all_mid}

-- two keys have one name, or not, whichever is asked of the other
same_name : (key other : KeyRecord) → is_named key.domain key.nspace key.alias other ≡ true → is_named other.domain other.nspace other.alias key ≡ true
same_name key other e =
    let parts = and_parts (is_owned key.domain key.nspace other) (bytes_eq other.alias key.alias) e in
    let owner = and_parts (other.domain == key.domain) (other.nspace == key.nspace) parts.0 in
    and_from (is_owned other.domain other.nspace key) (bytes_eq key.alias other.alias)
    (and_from (key.domain == other.domain) (key.nspace == other.nspace) (eq-eqb key.domain other.domain (sym (eqb-true other.domain key.domain owner.0))) (eq-eqb key.nspace other.nspace (sym (eqb-true other.nspace key.nspace owner.1))))
    ((bytes_eq-Decides key.alias other.alias).1 (sym ((bytes_eq-Decides other.alias key.alias).0 parts.1)))

pub other_name : (key other : KeyRecord) → is_named key.domain key.nspace key.alias other ≡ false → is_named other.domain other.nspace other.alias key ≡ false
other_name key other e = false_from_ne_true (is_named other.domain other.nspace other.alias key)
    (λ same. both_ways (is_named key.domain key.nspace key.alias other) e (same_name other key same))

-- the same of two grants
same_pair : (row other : GrantRow) → is_for row.key row.uid other ≡ true → is_for other.key other.uid row ≡ true
same_pair row other e =
    let parts = and_parts (other.key == row.key) (other.uid == row.uid) e in
    and_from (row.key == other.key) (row.uid == other.uid) (eq-eqb row.key other.key (sym (eqb-true other.key row.key parts.0))) (eq-eqb row.uid other.uid (sym (eqb-true other.uid row.uid parts.1)))

pub other_pair : (row other : GrantRow) → is_for row.key row.uid other ≡ false → is_for other.key other.uid row ≡ false
other_pair row other e = false_from_ne_true (is_for other.key other.uid row)
    (λ same. both_ways (is_for row.key row.uid other) e (same_pair other row same))

-- ---- keys that differ

pub keys_more : (keys : List KeyRecord) (last : KeyRecord) → AreKeys keys → AllByRecursion (λ key. IsKeyBefore key last) keys → AreKeys (keys ++ last ∷ [])
keys_more [] last t a = (tt, tt)
keys_more (key ∷ keys) last t a = (all_push (IsKeyBefore key) keys last t.0 a.0, keys_more keys last t.1 a.1)

pub keys_filter : (p : KeyRecord → Bool) (keys : List KeyRecord) → AreKeys keys → AreKeys (filter p keys)
keys_filter p [] t = tt
keys_filter p (key ∷ keys) t =
    elim (p key) as (λ b. AreKeys (cond b (key ∷ filter p keys) (filter p keys))) [ true ↦ (all_filter (IsKeyBefore key) p keys t.0, keys_filter p keys t.1) | false ↦ keys_filter p keys t.1 ]

-- those before a key
pub keys_before : (keys : List KeyRecord) (key : KeyRecord) (later : List KeyRecord) → AreKeys (keys ++ key ∷ later) → AllByRecursion (λ held. IsKeyBefore held key) keys
keys_before [] key later t = tt
keys_before (first ∷ keys) key later t = (all_mid (IsKeyBefore first) keys key later t.0, keys_before keys key later t.1)

-- a key changes in its blob, its list and its uses left alone
abbrev pub KeepsNames : (KeyRecord → KeyRecord) → Type 0
KeepsNames f = (key : KeyRecord) → f key ≡ record key { blob = (f key).blob; list = (f key).list; left = (f key).left }

pub use_names : (id : ℕ) → KeepsNames (with_use id)
use_names id key = elim (cases_Bool (has_id id key)) [ inl one ↦ rw one refl | inr other ↦ rw other refl ]

pub blob_names : (id : ℕ) (blob list : List ℕ) → KeepsNames (with_blob id blob list)
blob_names id blob list key = elim (cases_Bool (has_id id key)) [ inl one ↦ rw one refl | inr other ↦ rw other refl ]

names_before : (f : KeyRecord → KeyRecord) → KeepsNames f → (key later : KeyRecord) → IsKeyBefore key later → IsKeyBefore (f key) (f later)
names_before f same key later before =
    subst (λ (first : KeyRecord). IsKeyBefore first (f later)) (sym (same key))
    (subst (λ (second : KeyRecord). IsKeyBefore (record key { blob = (f key).blob; list = (f key).list; left = (f key).left }) second) (sym (same later)) before)

all_named : (f : KeyRecord → KeyRecord) → KeepsNames f → (key : KeyRecord) (keys : List KeyRecord) → AllByRecursion (IsKeyBefore key) keys → AllByRecursion (IsKeyBefore (f key)) (map f keys)
all_named f same key [] a = tt
all_named f same key (later ∷ keys) a = (names_before f same key later a.0, all_named f same key keys a.1)

pub keys_named : (f : KeyRecord → KeyRecord) → KeepsNames f → (keys : List KeyRecord) → AreKeys keys → AreKeys (map f keys)
keys_named f same [] t = tt
keys_named f same (key ∷ keys) t = (all_named f same key keys t.0, keys_named f same keys t.1)

-- ---- live keys

pub live_more : (id : ℕ) (keys : List KeyRecord) (last : KeyRecord) → some_has_id id keys ≡ true → some_has_id id (keys ++ last ∷ []) ≡ true
live_more id [] last live = absurd (cc)
live_more id (key ∷ keys) last live = elim (or_cases (has_id id key) (some_has_id id keys) live) [
  | inl first ↦ or_left (has_id id key) (some_has_id id (keys ++ last ∷ [])) first
  | inr later ↦ or_right (has_id id key) (some_has_id id (keys ++ last ∷ [])) (live_more id keys last later)
]

-- a live key that does not end stays one
pub live_left : (id : ℕ) (ends : KeyRecord → Bool) (keys : List KeyRecord) → some_has_id id keys ≡ true → some_has_id id (filter ends keys) ≡ false
    → some_has_id id (filter (λ key. not (ends key)) keys) ≡ true
live_left id ends [] live none = absurd (cc)
live_left id ends (key ∷ keys) live none = elim (cases_Bool (ends key)) [
  | inl ended ↦
      let out : (has_id id key || some_has_id id (filter ends keys)) ≡ false = rw ended at none in
      let parts = or_parts (has_id id key) (some_has_id id (filter ends keys)) out in
      let later : some_has_id id keys ≡ true = rw parts.0 at live in
      rw ended (live_left id ends keys later parts.1)
  | inr stays ↦
      let rest : some_has_id id (filter ends keys) ≡ false = rw stays at none in
      rw stays (elim (or_cases (has_id id key) (some_has_id id keys) live) [
        | inl first ↦ or_left (has_id id key) (some_has_id id (filter (λ key. not (ends key)) keys)) first
        | inr later ↦ or_right (has_id id key) (some_has_id id (filter (λ key. not (ends key)) keys)) (live_left id ends keys later rest)
      ])
]

pub live_named : (f : KeyRecord → KeyRecord) → KeepsNames f → (id : ℕ) (keys : List KeyRecord) → some_has_id id (map f keys) ≡ some_has_id id keys
live_named f same id [] = refl
live_named f same id (key ∷ keys) = (λ i. has_id id (same key i) || live_named f same id keys i)

-- the number of a live key is one of theirs
pub live_has : (P : ℕ → Type 0) (id : ℕ) (keys : List KeyRecord) → AllByRecursion (λ (key : KeyRecord). P key.id) keys → some_has_id id keys ≡ true → P id
live_has P id [] a live = absurd (cc)
live_has P id (key ∷ keys) a live = elim (or_cases (has_id id key) (some_has_id id keys) live) [
  | inl first ↦ subst P (eqb-true key.id id first) a.0
  | inr later ↦ live_has P id keys a.1 later
]
