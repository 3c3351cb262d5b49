-- The rows of a table, gathered one behind the other.
use Rattle.std.proofs.Common.{◌≡◌, ℕ, ◌+◌, ◌*◌, ◌^◌, ◌<◌, ◌≤◌, ◌&&◌, true, false, List, [], ◌∷◌, ◌++◌, length, Option, Some, refl, sym, ap, ◌∙◌, subst, arith, rules, length-append}
use Rattle.std.specs.Prelude.{map, reverse, nat_le, IfSome, IsSome}
use Rattle.std.specs.List.{AllByRecursion}
use Rattle.std.specs.Option.{option_map}
use Rattle.std.specs.Str.{is_utf8}
use Rattle.std.proofs.lemmas.Bool.{and_parts, leb-true}
use Rattle.std.proofs.lemmas.List.{append-nil, map-append, reverse-append}
use Rattle.ks_outside.specs.declared.disk.Disk.{Ghosts}
use Rattle.ks_outside.specs.Images.{Goes}
use Rattle.ks_outside.proofs.Goings.{goes_none, goes_on}
use Rattle.grants.specs.declared.row.GrantRow.{GrantRow}
use Rattle.grants.specs.Rows.{IsBefore, IsTable}
use Rattle.grants.proofs.Finding.{all_more}
use Rattle.tags.specs.Descriptor.{is_alias}
use Rattle.tags.specs.declared.limits.TheConstants.{ALIAS_BYTES}
use Rattle.journal_records.specs.declared.record.HeldNumbers.{HeldNumbers}
use Rattle.journal_records.specs.declared.record.KeyRecord.{KeyRecord}
use Rattle.journal_records.specs.declared.record.Record.{Record}
use Rattle.journal_records.specs.declared.writing.TheConstants.{GRANT_ROW}
use Rattle.journal_records.specs.LastingPart.{Lasting}
use Rattle.journal_records.specs.Lookups.{key_of_id}
use Rattle.journal_records.specs.Spelling.{key_of, numbers_of}
use Rattle.journal_records.specs.Storable.{AreKeys, IsKeyBefore, IsStorable, IsStorableGrant, IsStorableKey, key_row_length, key_rows_length}
use Rattle.journal_records.proofs.Lists.{all_mid}
use Rattle.journal_compact.specs.Gathering.{IsGathering, end_of}
use Rattle.journal_compact.specs.declared.gathering.Gathered.{Gathered}
use Rattle.held_rows.specs.declared.row.HeldRow.{HeldRow}
use Rattle.held_rows.specs.Rows.{grant_after, grant_of, held_row, key_after}
use Rattle.journal_compact.proofs.Walk.{IsAt, Rise, at_next, at_start, first_told, found_by, next_is}

-- some rows were gathered, up to a number, behind what was there at the start
pub record IsTelling {D X : Type 0} (g : Ghosts D) (number : X → ℕ) (held : X → Record) (total : List X → ℕ) (begin now : D) (all : List X) (past : ℕ) (from rows : Gathered) (old bytes : List ℕ) : Type 0 where
  pub before : List X
  pub left : List X
  pub walk : IsAt number all past before left
  pub size : length bytes ≡ length old
  pub count : rows.count < length bytes
  pub end : end_of rows ≡ end_of from + total before
  pub gathers : (start : D) (at most : ℕ) (told : List Record) → IsGathering g start begin at most from old told → end_of from + total all < at + most
      → IsGathering g start now at most rows bytes (reverse (map held before) ++ told)
  pub goes : Goes g begin now false

-- one row more
told_more : {X : Type 0} (held : X → Record) (before : List X) (x : X) (told : List Record) → held x ∷ (reverse (map held before) ++ told) ≡ reverse (map held (before ++ x ∷ [])) ++ told
told_more held before x told = ap (λ (rows : List Record). rows ++ told) (sym (ap (λ (rows : List Record). reverse rows) (map-append held before (x ∷ [])) ∙ reverse-append (map held before) (held x ∷ [])))

module _ {D X : Type 0} (g : Ghosts D) (number : X → ℕ) (held : X → Record) (total : List X → ℕ) (size : X → ℕ) (none : total [] ≡ 0)
    (more : (before : List X) (x : X) (left : List X) → total (before ++ x ∷ left) ≡ total before + size x + total left) (begin : D) (all : List X) (from : Gathered) (old : List ℕ) where
  pub telling_none : AllByRecursion (λ x. 0 < number x) all → from.count < length old → IsTelling g number held total begin begin all 0 from from old old
  telling_none some count = record {
    before = [];
    left = all;
    walk = at_start number all some;
    size = refl;
    count = count;
    end = omega (arith, none);
    gathers = λ start at most told is fits. is;
    goes = goes_none g begin;
  }

  module _ (mid new : D) (past : ℕ) (rows later : Gathered) (bytes next : List ℕ) (is : IsTelling g number held total begin mid all past from rows old bytes) where
    -- the row fits
    pub row_within : (x : X) (left : List X) → is.left ≡ x ∷ left → end_of rows + size x ≤ end_of from + total all
    row_within x left first =
        let whole : total all ≡ total is.before + size x + total left = ap total (is.walk.is ∙ ap (λ (xs : List X). is.before ++ xs) first) ∙ more is.before x left in
        omega (arith, whole, is.end)

    pub telling_on : (x : X) (left : List X) → is.left ≡ x ∷ left → Rise number all → length next ≡ length bytes → later.count < length next → end_of later ≡ end_of rows + size x
        → ((start : D) (at most : ℕ) (told : List Record) → IsGathering g start mid at most rows bytes told → end_of rows + size x < at + most → IsGathering g start new at most later next (held x ∷ told))
        → Goes g mid new false → IsTelling g number held total begin new all (number x) from later old next
    telling_on x left first rise long count end put goes = record {
      before = is.before ++ x ∷ [];
      left = left;
      walk = at_next number all past is.before x left rise (subst (λ (xs : List X). IsAt number all past is.before xs) first is.walk);
      size = long ∙ is.size;
      count = count;
      end = omega (arith, end, is.end, more is.before x [], none);
      gathers = λ start at most told was fits. subst (λ (all_told : List Record). IsGathering g start new at most later next all_told) (told_more held is.before x told)
          (put start at most (reverse (map held is.before) ++ told) (is.gathers start at most told was fits) (omega (arith, fits, row_within x left first)));
      goes = goes_on g begin mid new false is.goes goes;
    }

    -- all were told
    pub all_told : is.left ≡ [] → is.before ≡ all
    all_told last = sym (is.walk.is ∙ ap (λ (xs : List X). is.before ++ xs) last ∙ append-nil is.before)

    pub telling_ends : is.left ≡ [] → end_of rows ≡ end_of from + total all
    telling_ends last = is.end ∙ ap (λ (xs : List X). end_of from + total xs) (all_told last)

    pub telling_gathers : is.left ≡ [] → (start : D) (at most : ℕ) (told : List Record) → IsGathering g start begin at most from old told → end_of from + total all < at + most
        → IsGathering g start mid at most rows bytes (reverse (map held all) ++ told)
    telling_gathers last start at most told was fits = subst (λ (xs : List X). IsGathering g start mid at most rows bytes (reverse (map held xs) ++ told)) (all_told last) (is.gathers start at most told was fits)

-- ---- keys

abbrev pub id_of : KeyRecord → ℕ
id_of key = key.id

pub keys_rise : (keys : List KeyRecord) → AreKeys keys → Rise id_of keys
keys_rise [] are = tt
keys_rise (key ∷ keys) are = (all_more (IsKeyBefore key) (λ (later : KeyRecord). key.id < later.id) (λ later before. before.0) keys are.0, keys_rise keys are.1)

pub keys_some : (next : ℕ) (keys : List KeyRecord) → AllByRecursion (IsStorableKey next) keys → AllByRecursion (λ (key : KeyRecord). 0 < key.id) keys
keys_some next keys are = all_more (IsStorableKey next) (λ (key : KeyRecord). 0 < key.id) (λ key is. omega (arith, is.numbered.0)) keys are

pub keys_more : (before : List KeyRecord) (key : KeyRecord) (left : List KeyRecord) → key_rows_length (before ++ key ∷ left) ≡ key_rows_length before + key_row_length key + key_rows_length left
keys_more [] key left = omega arith
keys_more (first ∷ before) key left = omega (arith, keys_more before key left)

alias_long : (alias : List ℕ) → is_alias alias ≡ true → length alias ≤ ALIAS_BYTES
alias_long alias e =
    let some = and_parts (nat_le 1 (length alias)) (nat_le (length alias) ALIAS_BYTES && is_utf8 alias) e in
    leb-true (length alias) ALIAS_BYTES (and_parts (nat_le (length alias) ALIAS_BYTES) (is_utf8 alias) some.1).0

-- the longest row of a key
pub key_fits : (next : ℕ) (key : KeyRecord) → IsStorableKey next key → key_row_length key ≤ 10766
key_fits next key is = omega (arith, alias_long key.alias is.alias, is.blob, is.list)

-- the key whose row is next
pub record IsNextKey (part : Lasting) (left : List KeyRecord) (past : ℕ) (numbers : HeldNumbers) : Type 0 where
  pub key : KeyRecord
  pub rest : List KeyRecord
  pub first : left ≡ key ∷ rest
  pub numbers_are : numbers_of key ≡ numbers
  pub number : key.id ≡ numbers.id
  pub found : key_of_id part numbers.id ≡ Some key
  pub behind : past < numbers.id
  pub below : numbers.id < 2 ^ 63
  pub fits : key_row_length key ≤ 10766

pub next_key : (part : Lasting) (past : ℕ) (before left : List KeyRecord) (numbers : HeldNumbers) → IsStorable part → IsAt id_of part.keys past before left
    → option_map numbers_of (key_after part past) ≡ Some numbers → IsNextKey part left past numbers
next_key part past before left numbers is walk told =
    let next = first_told numbers_of left numbers (sym (ap (λ (o : Option KeyRecord). option_map numbers_of o) (next_is id_of part.keys past before left walk)) ∙ told) in
    let here : IsAt id_of part.keys past before (next.x ∷ next.rest) = subst (λ (xs : List KeyRecord). IsAt id_of part.keys past before xs) next.is walk in
    let number : next.x.id ≡ numbers.id = ap (λ (n : HeldNumbers). n.id) next.told in
    let storable : IsStorableKey part.next_key next.x = all_mid (IsStorableKey part.next_key) before next.x next.rest (subst (λ (xs : List KeyRecord). AllByRecursion (IsStorableKey part.next_key) xs) here.is is.keys) in
    record {
      key = next.x;
      rest = next.rest;
      first = next.is;
      numbers_are = next.told;
      number = number;
      found = subst (λ (n : ℕ). key_of_id part n ≡ Some next.x) number (found_by id_of part.keys past before next.x next.rest here);
      behind = omega (arith, here.ahead.0, number);
      below = omega (arith, storable.numbered.1, is.next_key.1, number);
      fits = key_fits part.next_key next.x storable;
    }

pub some_found : {X : Type 0} (found : Option X) (x : X) → found ≡ Some x → IsSome found
some_found {X} found x is = let some : IsSome (Some x) = search rules in subst (λ (o : Option X). IsSome o) (sym is) some

pub key_is : (part : Lasting) (numbers : HeldNumbers) (key : KeyRecord) (alias blob list : List ℕ) → numbers_of key ≡ numbers → key_of_id part numbers.id ≡ Some key
    → IfSome (key_of_id part numbers.id) (λ (k : KeyRecord). alias ≡ k.alias) → IfSome (key_of_id part numbers.id) (λ (k : KeyRecord). blob ≡ k.blob)
    → IfSome (key_of_id part numbers.id) (λ (k : KeyRecord). list ≡ k.list) → key_of numbers alias blob list ≡ key
key_is part numbers key alias blob list same found is_alias is_blob is_list =
    let a : alias ≡ key.alias = subst (λ (o : Option KeyRecord). IfSome o (λ (k : KeyRecord). alias ≡ k.alias)) found is_alias in
    let b : blob ≡ key.blob = subst (λ (o : Option KeyRecord). IfSome o (λ (k : KeyRecord). blob ≡ k.blob)) found is_blob in
    let l : list ≡ key.list = subst (λ (o : Option KeyRecord). IfSome o (λ (k : KeyRecord). list ≡ k.list)) found is_list in
    λ i. key_of (sym same i) (a i) (b i) (l i)

-- ---- grants

abbrev pub number_of : GrantRow → ℕ
number_of row = row.grant

abbrev pub row_length : GrantRow → ℕ
row_length row = GRANT_ROW

pub grants_rise : (rows : List GrantRow) → IsTable rows → Rise number_of rows
grants_rise [] are = tt
grants_rise (row ∷ rows) are = (all_more (IsBefore row) (λ (later : GrantRow). row.grant < later.grant) (λ later before. before.0) rows are.0, grants_rise rows are.1)

pub grants_some : (next : ℕ) (keys : List KeyRecord) (rows : List GrantRow) → AllByRecursion (IsStorableGrant next keys) rows → AllByRecursion (λ (row : GrantRow). 0 < row.grant) rows
grants_some next keys rows are = all_more (IsStorableGrant next keys) (λ (row : GrantRow). 0 < row.grant) (λ row is. omega (arith, is.numbered.0)) rows are

-- the grant whose row is next
pub record IsNextGrant (left : List GrantRow) (past : ℕ) (row : HeldRow) : Type 0 where
  pub grant : GrantRow
  pub rest : List GrantRow
  pub first : left ≡ grant ∷ rest
  pub is : grant ≡ grant_of row
  pub number : grant.grant ≡ row.grant
  pub behind : past < row.grant
  pub below : row.grant < 2 ^ 63

pub next_grant : (part : Lasting) (past : ℕ) (before left : List GrantRow) (row : HeldRow) → IsStorable part → IsAt number_of part.grants past before left
    → option_map held_row (grant_after part past) ≡ Some row → IsNextGrant left past row
next_grant part past before left row is walk told =
    let next = first_told held_row left row (sym (ap (λ (o : Option GrantRow). option_map held_row o) (next_is number_of part.grants past before left walk)) ∙ told) in
    let here : IsAt number_of part.grants past before (next.x ∷ next.rest) = subst (λ (xs : List GrantRow). IsAt number_of part.grants past before xs) next.is walk in
    let number : next.x.grant ≡ row.grant = ap (λ (r : HeldRow). r.grant) next.told in
    let storable = all_mid (IsStorableGrant part.next_grant part.keys) before next.x next.rest (subst (λ (xs : List GrantRow). AllByRecursion (IsStorableGrant part.next_grant part.keys) xs) here.is is.grants) in
    record {
      grant = next.x;
      rest = next.rest;
      first = next.is;
      is = ap grant_of next.told;
      number = number;
      behind = omega (arith, here.ahead.0, number);
      below = omega (arith, storable.numbered.1, is.next_grant.1, number);
    }

abbrev pub grants_length : List GrantRow → ℕ
grants_length rows = GRANT_ROW * length rows

pub grants_more : (before : List GrantRow) (row : GrantRow) (left : List GrantRow) → grants_length (before ++ row ∷ left) ≡ grants_length before + row_length row + grants_length left
grants_more before row left = omega (arith, length-append before (row ∷ left))
