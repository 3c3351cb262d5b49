-- A snapshot, from its first row to its closing byte.
use Rattle.std.proofs.Common.{◌≡◌, ℕ, ◌+◌, ◌-◌, ◌*◌, ◌≤◌, List, [], ◌∷◌, ◌++◌, length, take, refl, sym, ap, ◌∙◌, arith, append_assoc}
use Rattle.std.specs.Prelude.{map, reverse}
use Rattle.std.specs.List.{AllByRecursion}
use Rattle.std.proofs.lemmas.List.{reverse-append}
use Rattle.ks_outside.specs.declared.disk.Disk.{Ghosts}
use Rattle.journal_records.specs.declared.record.KeyRecord.{KeyRecord}
use Rattle.journal_records.specs.declared.record.Record.{Record}
use Rattle.journal_records.specs.declared.record.Record.TheVariants as records
use Rattle.journal_records.specs.LastingPart.{Lasting}
use Rattle.journal_records.specs.Spelling.{record_closed}
use Rattle.journal_records.specs.Storable.{IsStorable, IsStorableKey, held_grant, held_key, key_rows_length, snapshot, snapshot_length}
use Rattle.journal_records.proofs.Lists.{last_is}
use Rattle.journal_compact.specs.Gathering.{IsGathering}
use Rattle.journal_compact.proofs.Adding.{begun, framed_of}
use Rattle.journal_compact.proofs.Telling.{key_fits}

-- its first row
abbrev pub first_row : Lasting → Record
first_row part = records.Next part.next_key part.next_grant

-- and all of them, the newest first
pub all_rows : (part : Lasting) → reverse (map held_grant part.grants) ++ (reverse (map held_key part.keys) ++ first_row part ∷ []) ≡ reverse (snapshot part)
all_rows part =
    sym (
    last_is (first_row part) (map held_key part.keys ++ map held_grant part.grants)
    ∙ ap (λ (rows : List Record). rows ++ first_row part ∷ []) (reverse-append (map held_key part.keys) (map held_grant part.grants))
    ∙ append_assoc (reverse (map held_grant part.grants)) (reverse (map held_key part.keys)) (first_row part ∷ [])
    )

keys_within : (next : ℕ) (keys : List KeyRecord) → AllByRecursion (IsStorableKey next) keys → key_rows_length keys ≤ 10766 * length keys
keys_within next [] are = omega arith
keys_within next (key ∷ keys) are = omega (arith, key_fits next key are.0, keys_within next keys are.1)

-- it is shorter than an area
pub snapshot_within : (part : Lasting) → IsStorable part → snapshot_length part ≤ 707526678
snapshot_within part is = omega (arith, keys_within part.next_key part.keys is.keys, is.key_count, is.grant_count)

-- the first row is gathered
pub first_gathered : {D : Type 0} (g : Ghosts D) (disk : D) (part : Lasting) (at : ℕ) (numbers : ℕ × ℕ) (n : ℕ) (bytes : List ℕ) → numbers ≡ (part.next_key, part.next_grant) → n ≡ 23 → n ≤ length bytes
    → take n bytes ≡ record_closed (records.Next numbers.0 numbers.1) → IsGathering g disk disk at (snapshot_length part + 1) (record { place = at; count = n - 1 }) bytes (first_row part ∷ [])
first_gathered g disk part at numbers n bytes are size within front =
    let next : records.Next numbers.0 numbers.1 ≡ first_row part = ap (λ (two : ℕ × ℕ). records.Next two.0 two.1) are in
    begun g disk at (snapshot_length part + 1) (record { place = at; count = n - 1 }) bytes (first_row part) refl
    (framed_of (first_row part) bytes n within (front ∙ ap record_closed next)) (omega (arith, size))
