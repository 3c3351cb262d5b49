-- Each kind of body: what was read is spelled so, and what is spelled is read again.
use Rattle.std.proofs.Common.{◌≡◌, ⊎_elim, ℕ, ◌≤◌, true, false, leb, List, ◌∷◌, ◌++◌, length, drop, get_or, Option, Some, None, refl, sym, ap, subst, ◌∙◌, append_assoc, arith}
use Rattle.std.specs.Option.{option_and_then}
use Rattle.std.proofs.lemmas.Bool.{leb-true, le-leb}
use Rattle.byteorder.specs.Endian.{big_bytes}
use Rattle.byte_strings.specs.Readers.{Reader, counted_at, row_of}
use Rattle.grants.specs.declared.row.GrantRow.{GrantRow}
use Rattle.byte_strings.specs.Codecs.{IsBytes, Takes, IsRead, IsAgain}
use Rattle.byte_strings.proofs.Fields.{bind_some, some_is, chosen, byte_codec, u32_codec, u64_codec, counted_u32_codec, counted_parts, counted_again, wide4}
use Rattle.byte_strings.proofs.Rows.{field_read, last_read, field_again, last_again, rows_read, whole_takes, whole_again}
use Rattle.journal_records.specs.declared.change.Change.{Change}
use Rattle.journal_records.specs.declared.change.Change.TheVariants.{Create, Delete, Use, Grant, Ungrant, Clear, Removed, Upgrade}
use Rattle.journal_records.specs.declared.record.TheConstants.{AREA_KINDS}
use Rattle.journal_records.specs.declared.record.KeyRecord.{KeyRecord}
use Rattle.journal_records.specs.declared.record.Record.{Record}
use Rattle.journal_records.specs.declared.record.Record.TheVariants as records
use Rattle.journal_records.specs.Spelling.{counted, body_of, tail_of, record_body, record_tail, kind_of, AreFields, IsChange, AreRecordFields, IsShortRecord, IsRecord}
use Rattle.journal_records.specs.Reading.{created_at, deleted_at, used_at, granted_at, ungranted_at, cleared_at, removed_at, upgraded_at, kinds, next_at, held_at, held_grant_at, rows, is_row, changed_at, fields_of, fields_within, body_at, body_in, record_at, change_of, only, change_at}

-- ---- what was read is spelled so

-- the text is the body of the change
abbrev IsBody : List ℕ → Change → Type 0
IsBody text change = (text ≡ body_of change) × AreFields change

-- a row gives the fields behind this kind
abbrev IsKind : ℕ → Reader Change → Type 0
IsKind kind row = IsRead row (λ text change. IsBody (kind ∷ text) change)

created_read : IsKind 1 created_at
unfolding created_at
created_read =
    field_read u64_codec (λ id i. field_read byte_codec (λ domain d. field_read u64_codec (λ nspace n.
    field_read counted_u32_codec (λ alias a. field_read counted_u32_codec (λ blob b. field_read counted_u32_codec (λ list l.
    last_read u32_codec _ (λ limit m. (refl, (i, d, n, a, b, l, m)))))))))

deleted_read : IsKind 2 deleted_at
deleted_read = last_read u64_codec _ (λ id i. (refl, i))

used_read : IsKind 3 used_at
used_read = last_read u64_codec _ (λ id i. (refl, i))

granted_read : IsKind 4 granted_at
unfolding granted_at
granted_read =
    field_read u64_codec (λ grant g. field_read u64_codec (λ key k. field_read u32_codec (λ uid u.
    last_read u32_codec _ (λ bits b. (refl, (g, k, u, b))))))

ungranted_read : IsKind 5 ungranted_at
ungranted_read = last_read u64_codec _ (λ grant g. (refl, g))

cleared_read : IsKind 6 cleared_at
cleared_read = field_read byte_codec (λ domain d. last_read u64_codec _ (λ nspace n. (refl, (d, n))))

removed_read : IsKind 7 removed_at
removed_read = last_read u32_codec _ (λ user u. (refl, u))

upgraded_read : IsKind 11 upgraded_at
unfolding upgraded_at
upgraded_read =
    field_read u64_codec (λ id i. field_read counted_u32_codec (λ blob b. last_read counted_u32_codec _ (λ list l. (refl, (i, b, l)))))

kinds_read : (kind : ℕ) → IsRead (row_of kind kinds) (λ text change. IsBody (kind ∷ text) change)
kinds_read kind =
    rows_read IsBody kinds kind
    (created_read, (deleted_read, (used_read, (granted_read, (ungranted_read, (cleared_read, (removed_read, (upgraded_read, tt))))))))

-- the text is the body of the record
abbrev IsRecordBody : List ℕ → Record → Type 0
IsRecordBody text it = (text ≡ record_body it) × AreRecordFields it

-- a row gives the fields behind this kind
abbrev IsRowKind : ℕ → Reader Record → Type 0
IsRowKind kind row = IsRead row (λ text it. IsRecordBody (kind ∷ text) it)

changed_read : (kind : ℕ) → IsRowKind kind (changed_at kind)
changed_read kind = record {
  takes = λ bytes it rest fits e.
      let b = bind_some (λ (x : Change × List ℕ). Some (records.Change x.0, x.1)) (row_of kind kinds bytes) (it, rest) e in
      let t = (kinds_read kind).takes bytes b.0.0 b.0.1 fits b.1 in
      subst (λ (q : Record × List ℕ). (text : List ℕ) × Takes bytes text q.1 × IsRecordBody (kind ∷ text) q.0) (some_is (records.Change b.0.0, b.0.1) (it, rest) b.2) (t.0, t.1, t.2);
}

next_read : IsRowKind 8 next_at
unfolding next_at
next_read = field_read u64_codec (λ key k. last_read u64_codec _ (λ grant g. (refl, (k, g))))

-- the uses left stand behind a key's other fields
pub nested : (id nspace alias blob list limit left : List ℕ) (domain : ℕ)
    → (id ++ (domain ∷ (nspace ++ (alias ++ (blob ++ (list ++ limit)))))) ++ left ≡ id ++ (domain ∷ (nspace ++ (alias ++ (blob ++ (list ++ (limit ++ left))))))
nested id nspace alias blob list limit left domain = simp (append_assoc)

held_read : IsRowKind 9 held_at
unfolding held_at
held_read =
    field_read u64_codec (λ id i. field_read byte_codec (λ domain d. field_read u64_codec (λ nspace n.
    field_read counted_u32_codec (λ alias a. field_read counted_u32_codec (λ blob b. field_read counted_u32_codec (λ list l.
    field_read u32_codec (λ limit m. last_read u32_codec _ (λ left u. (
      ap (λ (t : List ℕ). 9 ∷ t) (sym (nested (big_bytes 8 id) (big_bytes 8 nspace) (counted alias) (counted blob) (counted list) (big_bytes 4 limit) (big_bytes 4 left) domain)),
      (i, d, n, a, b, l, m, u),
    )))))))))

held_grant_read : IsRowKind 10 held_grant_at
unfolding held_grant_at
held_grant_read =
    field_read u64_codec (λ grant g. field_read u64_codec (λ key k. field_read u32_codec (λ uid u.
    last_read u32_codec _ (λ bits b. (refl, (g, k, u, b))))))

fields_read : (kind : ℕ) → IsRowKind kind (fields_of kind)
fields_read kind = record {
  takes = λ bytes it rest fits e. ⊎_elim
      (λ (p : (is_row kind ≡ true) × (row_of kind rows bytes ≡ Some (it, rest))).
      (rows_read IsRecordBody rows kind (next_read, (held_read, (held_grant_read, tt)))).takes bytes it rest fits p.1)
      (λ (p : (is_row kind ≡ false) × (changed_at kind bytes ≡ Some (it, rest))). (changed_read kind).takes bytes it rest fits p.1)
      (chosen (is_row kind) (row_of kind rows bytes) (changed_at kind bytes) (Some (it, rest)) e);
}

-- the kind is not greater than the greatest
abbrev IsWithin : ℕ → List ℕ → Record → Type 0
IsWithin greatest text it = IsRecordBody text it × (kind_of it ≤ greatest)

within_read : (greatest kind : ℕ) → IsRead (fields_within greatest kind) (λ text it. IsWithin greatest (kind ∷ text) it)
within_read greatest kind = record {
  takes = λ bytes it rest fits e. ⊎_elim
      (λ (p : (leb kind greatest ≡ true) × (fields_of kind bytes ≡ Some (it, rest))).
      let t = (fields_read kind).takes bytes it rest fits p.1 in
      let same : kind ≡ kind_of it = ap (λ (l : List ℕ). get_or l 0 0) t.2.0 in
      (t.0, t.1, (t.2, omega (arith, same, leb-true kind greatest p.0))))
      (λ (p : (leb kind greatest ≡ false) × (◌≡◌ {A = Option (Record × List ℕ)} None (Some (it, rest)))). absurd (let never = p.1 in cc))
      (chosen (leb kind greatest) (fields_of kind bytes) None (Some (it, rest)) e);
}

body_read : (greatest : ℕ) → IsRead (body_at greatest) (IsWithin greatest)
unfolding body_at
body_read greatest = field_read byte_codec (λ kind k. within_read greatest kind)

pub record_takes : (greatest : ℕ) (bytes : List ℕ) (it : Record) (left : List ℕ) → IsBytes bytes → record_at greatest bytes ≡ Some (it, left)
    → (bytes ≡ record_tail it ++ left) × IsRecord greatest it
unfolding record_at record_tail
record_takes greatest bytes it left fits e =
    let a = bind_some (λ (body : List ℕ × List ℕ). option_and_then (λ (x : Record). Some (x, body.1)) (body_in greatest body.0)) (counted_at 4 bytes) (it, left) e in
    let body = a.0 in
    let b = bind_some (λ (x : Record). Some (x, body.1)) (body_in greatest body.0) (it, left) a.2 in
    let t = counted_parts 4 wide4 bytes body.0 body.1 fits a.1 in
    let is = whole_takes (body_read greatest) body.0 b.0 t.2 b.1 in
    let pair = some_is (b.0, body.1) (it, left) b.2 in
    let short : IsShortRecord b.0 = omega (arith, ap length is.0.0, t.1) in
    subst (λ (p : Record × List ℕ). (bytes ≡ counted (record_body p.0) ++ p.1) × IsRecord greatest p.0) pair
    (t.0.parts ∙ ap (λ (l : List ℕ). counted l ++ body.1) is.0.0, (is.0.1, short, is.1))

-- a record that is a change
only_change : (it : Record) (rest left : List ℕ) (change : Change) → only (change_of it) rest ≡ Some (change, left) → (it ≡ records.Change change) × (rest ≡ left)
only_change (records.Change other) rest left change e =
    let pair = some_is (other, rest) (change, left) e in
    (ap (λ (p : Change × List ℕ). records.Change p.0) pair, ap (λ (p : Change × List ℕ). p.1) pair)
only_change (records.Next key grant) rest left change e = absurd (cc)
only_change (records.Held key) rest left change e = absurd (cc)
only_change (records.HeldGrant row) rest left change e = absurd (cc)

pub change_takes : (bytes : List ℕ) (change : Change) (left : List ℕ) → IsBytes bytes → change_at bytes ≡ Some (change, left)
    → (bytes ≡ tail_of change ++ left) × IsChange change
unfolding change_at
change_takes bytes change left fits e =
    let b = bind_some (λ (x : Record × List ℕ). only (change_of x.0) x.1) (record_at AREA_KINDS bytes) (change, left) e in
    let t = record_takes AREA_KINDS bytes b.0.0 b.0.1 fits b.1 in
    let is = only_change b.0.0 b.0.1 left change b.2 in
    let whole = subst (λ (it : Record). (bytes ≡ record_tail it ++ b.0.1) × IsRecord AREA_KINDS it) is.0 t in
    (whole.0 ∙ ap (λ (l : List ℕ). tail_of change ++ l) is.1, (whole.1.0, whole.1.1))

-- ---- what is spelled is read again

-- a row reads the fields of the change behind its kind
abbrev IsReadAgain : Reader Change → Change → Type 0
IsReadAgain row change = IsAgain row (drop 1 (body_of change)) change

created_again : (id domain nspace limit : ℕ) (alias blob list : List ℕ) → AreFields (Create id domain nspace alias blob list limit) → IsReadAgain created_at (Create id domain nspace alias blob list limit)
unfolding created_at
created_again id domain nspace limit alias blob list h =
    field_again u64_codec _ id h.0 (field_again byte_codec _ domain h.1 (field_again u64_codec _ nspace h.2
    (field_again counted_u32_codec _ alias h.3 (field_again counted_u32_codec _ blob h.4 (field_again counted_u32_codec _ list h.5
    (last_again u32_codec _ limit h.6))))))

granted_again : (row : GrantRow) → AreFields (Grant row) → IsReadAgain granted_at (Grant row)
unfolding granted_at
granted_again row h =
    field_again u64_codec _ row.grant h.0 (field_again u64_codec _ row.key h.1 (field_again u32_codec _ row.uid h.2 (last_again u32_codec _ row.bits h.3)))

cleared_again : (domain nspace : ℕ) → AreFields (Clear domain nspace) → IsReadAgain cleared_at (Clear domain nspace)
cleared_again domain nspace h = field_again byte_codec _ domain h.0 (last_again u64_codec _ nspace h.1)

upgraded_again : (id : ℕ) (blob list : List ℕ) → AreFields (Upgrade id blob list) → IsReadAgain upgraded_at (Upgrade id blob list)
unfolding upgraded_at
upgraded_again id blob list h = field_again u64_codec _ id h.0 (field_again counted_u32_codec _ blob h.1 (last_again counted_u32_codec _ list h.2))

held_again : (key : KeyRecord) → AreRecordFields (records.Held key) → IsAgain held_at (drop 1 (record_body (records.Held key))) (records.Held key)
unfolding held_at
held_again key h =
    subst (λ (text : List ℕ). IsAgain held_at text (records.Held key))
    (sym (nested (big_bytes 8 key.id) (big_bytes 8 key.nspace) (counted key.alias) (counted key.blob) (counted key.list) (big_bytes 4 key.limit) (big_bytes 4 key.left) key.domain))
    (field_again u64_codec _ key.id h.0 (field_again byte_codec _ key.domain h.1 (field_again u64_codec _ key.nspace h.2
    (field_again counted_u32_codec _ key.alias h.3 (field_again counted_u32_codec _ key.blob h.4 (field_again counted_u32_codec _ key.list h.5
    (field_again u32_codec _ key.limit h.6 (last_again u32_codec _ key.left h.7))))))))

next_again : (key grant : ℕ) → AreRecordFields (records.Next key grant) → IsAgain next_at (drop 1 (record_body (records.Next key grant))) (records.Next key grant)
unfolding next_at
next_again key grant h = field_again u64_codec _ key h.0 (last_again u64_codec _ grant h.1)

held_grant_again : (row : GrantRow) → AreRecordFields (records.HeldGrant row) → IsAgain held_grant_at (drop 1 (record_body (records.HeldGrant row))) (records.HeldGrant row)
unfolding held_grant_at
held_grant_again row h =
    field_again u64_codec _ row.grant h.0 (field_again u64_codec _ row.key h.1 (field_again u32_codec _ row.uid h.2 (last_again u32_codec _ row.bits h.3)))

-- behind its kind, where that is not greater than the greatest
within_again : (greatest kind : ℕ) (text : List ℕ) (it : Record) → kind ≤ greatest → IsAgain (fields_of kind) text it → IsAgain (body_at greatest) (kind ∷ text) it
unfolding body_at
within_again greatest kind text it less row = record { again = λ rest. rw (le-leb kind greatest less) (row.again rest) }

-- a change, as a record
changed_again : (read : Reader Change) (text : List ℕ) (change : Change) → IsAgain read text change
    → IsAgain (λ bytes. option_and_then (λ (x : Change × List ℕ). Some (records.Change x.0, x.1)) (read bytes)) text (records.Change change)
changed_again read text change row = record { again = λ rest. ap (option_and_then (λ (x : Change × List ℕ). Some (records.Change x.0, x.1))) (row.again rest) }

body_again : (greatest : ℕ) (it : Record) → AreRecordFields it → kind_of it ≤ greatest → IsAgain (body_at greatest) (record_body it) it
body_again greatest (records.Change (Create id domain nspace alias blob list limit)) h less =
    within_again greatest 1 _ _ less (changed_again created_at _ _ (created_again id domain nspace limit alias blob list h))
body_again greatest (records.Change (Delete id)) h less = within_again greatest 2 _ _ less (changed_again deleted_at _ _ (last_again u64_codec (λ a. Delete a) id h))
body_again greatest (records.Change (Use id)) h less = within_again greatest 3 _ _ less (changed_again used_at _ _ (last_again u64_codec (λ a. Use a) id h))
body_again greatest (records.Change (Grant row)) h less = within_again greatest 4 _ _ less (changed_again granted_at _ _ (granted_again row h))
body_again greatest (records.Change (Ungrant grant)) h less = within_again greatest 5 _ _ less (changed_again ungranted_at _ _ (last_again u64_codec (λ a. Ungrant a) grant h))
body_again greatest (records.Change (Clear domain nspace)) h less = within_again greatest 6 _ _ less (changed_again cleared_at _ _ (cleared_again domain nspace h))
body_again greatest (records.Change (Removed user)) h less = within_again greatest 7 _ _ less (changed_again removed_at _ _ (last_again u32_codec (λ a. Removed a) user h))
body_again greatest (records.Change (Upgrade id blob list)) h less = within_again greatest 11 _ _ less (changed_again upgraded_at _ _ (upgraded_again id blob list h))
body_again greatest (records.Next key grant) h less = within_again greatest 8 _ _ less (next_again key grant h)
body_again greatest (records.Held key) h less = within_again greatest 9 _ _ less (held_again key h)
body_again greatest (records.HeldGrant row) h less = within_again greatest 10 _ _ less (held_grant_again row h)

pub record_again : (greatest : ℕ) (it : Record) (left : List ℕ) → IsRecord greatest it → record_at greatest (record_tail it ++ left) ≡ Some (it, left)
unfolding record_at record_tail
record_again greatest it left h = rw (counted_again 4 (record_body it) left h.1, whole_again (body_again greatest it h.0 h.2)) refl

-- an area may hold each kind of change
pub change_kind : (change : Change) → kind_of (records.Change change) ≤ AREA_KINDS
change_kind (Create id domain nspace alias blob list limit) = omega arith
change_kind (Delete id) = omega arith
change_kind (Use id) = omega arith
change_kind (Grant row) = omega arith
change_kind (Ungrant grant) = omega arith
change_kind (Clear domain nspace) = omega arith
change_kind (Removed user) = omega arith
change_kind (Upgrade id blob list) = omega arith

pub change_again : (change : Change) (left : List ℕ) → IsChange change → change_at (tail_of change ++ left) ≡ Some (change, left)
unfolding change_at
change_again change left h = rw (record_again AREA_KINDS (records.Change change) left (h.0, h.1, change_kind change)) refl
