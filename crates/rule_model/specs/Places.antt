-- Whether the lasting part has a place for one key more, and for one grant more.
use Rattle.std.specs.Prelude.{ℕ, Bool, true, ◌&&◌, ◌||◌, ◌==◌, nat_lt, length, Option, Some, None}
use Rattle.tags.specs.declared.descriptor.Descriptor.{Descriptor}
use Rattle.key_domains.specs.Domains.{domain_blob}
use Rattle.grants.specs.declared.row.GrantRow.{GrantRow}
use Rattle.journal_records.specs.LastingPart.{Lasting}
use Rattle.journal_records.specs.Needs.{has_place_for, is_number_left}
use Rattle.rule_model.specs.Changes.{alias_of, grant_at, owner_for}
use Rattle.tags.specs.declared.limits.TheConstants.{MOST_GRANTS}

-- A number is left for a new key, and at most 65,536 keys are live with it; the one under its name makes place. A key that is made
-- in BLOB takes none.
abbrev pub has_key_place : Lasting → ℕ → Descriptor → Bool
has_key_place part uid key =
    (key.domain == domain_blob) ||
    (is_number_left part.next_key && has_place_for (owner_for uid key.domain key.nspace).0 (owner_for uid key.domain key.nspace).1 (alias_of key) part)

-- a key's grant to a uid that has one takes no place; for a new one a number is left, and at most 65,536 are held with it
abbrev pub has_grant_place : Lasting → ℕ → ℕ → Bool
has_grant_place part key uid = is_held (grant_at part key uid) where
  is_held : Option GrantRow → Bool
  is_held (Some held) = true
  is_held None = is_number_left part.next_grant && nat_lt (length part.grants) MOST_GRANTS
