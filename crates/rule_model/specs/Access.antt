-- What a caller's descriptor finds among the keys and grants that last, and what the caller may do with it.
use Rattle.std.specs.Prelude.{ℕ, ◌/◌, List, Option, Some, None, unwrap_or}
use Rattle.std.specs.Option.{option_and_then, option_map}
use Rattle.tags.specs.declared.descriptor.Descriptor.{Descriptor}
use Rattle.tags.specs.declared.policy.PolicyRow.{PolicyRow}
use Rattle.tags.specs.Policy.{bits_of}
use Rattle.key_domains.specs.declared.access.Access.{Access}
use Rattle.key_domains.specs.declared.access.Access.TheVariants.{Found, Blob, Nothing}
use Rattle.key_domains.specs.Access.{access}
use Rattle.key_domains.specs.View.{view_of}
use Rattle.journal_records.specs.declared.record.KeyRecord.{KeyRecord}
use Rattle.journal_records.specs.LastingPart.{Lasting}
use Rattle.journal_records.specs.Lookups.{key_of_id, named_in, numbered_in, granted_in, shared_in}
use Rattle.rule_model.specs.declared.facts.Caller.{Caller}
use Rattle.tags.specs.declared.limits.TheConstants.{USER_UIDS}

-- the uid of a caller; the rules let none through that has none
abbrev pub owner_of : Caller → ℕ
owner_of caller = unwrap_or caller.uid 0

-- the user of a caller: each has 100,000 uids
abbrev pub user_of : Caller → ℕ
user_of caller = owner_of caller / USER_UIDS

-- what a uid's descriptor finds
abbrev pub access_of : List PolicyRow → Lasting → ℕ → Descriptor → Access
access_of policy part uid key =
    access policy uid key (view_of (named_in part) (numbered_in part) (granted_in part) (shared_in part) key uid)

-- what a caller's descriptor finds; one that is not connected finds nothing
abbrev pub access_by : List PolicyRow → Lasting → Caller → Descriptor → Access
access_by policy part caller key = by_uid caller.uid where
  by_uid : Option ℕ → Access
  by_uid None = Nothing
  by_uid (Some uid) = access_of policy part uid key

-- the stored key that was found
abbrev pub key_in : Lasting → Access → Option KeyRecord
key_in part (Found row bits) = key_of_id part row.id
key_in part (Blob bits) = None
key_in part Nothing = None

-- its number
abbrev pub id_of : Option KeyRecord → Option ℕ
id_of found = option_map (λ (key : KeyRecord). key.id) found

-- the number of the key that a caller's descriptor finds
abbrev pub id_by : List PolicyRow → Lasting → Caller → Descriptor → Option ℕ
id_by policy part caller key = id_of (key_in part (access_by policy part caller key))

-- what the caller may do with it
abbrev pub bits_in : Access → ℕ
bits_in (Found row bits) = bits
bits_in (Blob bits) = bits
bits_in Nothing = 0

-- the bits of the policy's row of a caller's uid and a namespace
abbrev pub row_for : List PolicyRow → Caller → ℕ → Option ℕ
row_for policy caller nspace = option_and_then (λ uid. bits_of policy uid nspace) caller.uid
