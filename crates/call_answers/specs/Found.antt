-- What the one look-up of a descriptor finds, by its domain.
use Rattle.std.specs.Prelude.{◌≡◌, ℕ, List, ◌==◌, Option, Some, None, IfSome, find, if◌then◌else◌}
use Rattle.std.specs.Option.{option_and_then, option_map}
use Rattle.tags.specs.declared.descriptor.Descriptor.{Descriptor}
use Rattle.key_domains.specs.declared.access.Access.{Access}
use Rattle.key_domains.specs.declared.access.Access.TheVariants.{Found, Blob, Nothing}
use Rattle.key_domains.specs.declared.view.KeyDatabaseView.{KeyDatabaseView}
use Rattle.key_domains.specs.Domains.{domain_app, domain_grant, domain_selinux, domain_key_id}
use Rattle.grants.specs.declared.row.GrantRow.{GrantRow}
use Rattle.grants.specs.Rows.{is_numbered}
use Rattle.journal_records.specs.declared.record.KeyRecord.{KeyRecord}
use Rattle.journal_records.specs.LastingPart.{Lasting}
use Rattle.journal_records.specs.Lookups.{granted_in, key_of_id, key_of_name, row_of, shared_in}

-- a key that was found is found again by its number
abbrev pub IsFoundAgain : Lasting → Option KeyRecord → Type 0
IsFoundAgain part found = IfSome found (λ key. key_of_id part key.id ≡ Some key)

-- nothing was looked up
abbrev pub no_view : KeyDatabaseView
no_view = record { named = None; numbered = None; granted = None; shared = None }

-- the key of an owner and an alias, where there is an alias
abbrev pub key_by_alias : Lasting → ℕ → ℕ → Option (List ℕ) → Option KeyRecord
key_by_alias part domain nspace alias = option_and_then (key_of_name part domain nspace) alias

abbrev pub view_named : Option KeyRecord → KeyDatabaseView
view_named key = record no_view { named = option_map row_of key }

-- the bits of the grant of a key to a uid
abbrev pub shared_of : Lasting → ℕ → Option KeyRecord → Option ℕ
shared_of part uid key = option_and_then (λ (held : KeyRecord). shared_in part held.id uid) key

abbrev pub view_numbered : Lasting → ℕ → Option KeyRecord → KeyDatabaseView
view_numbered part uid key = record no_view { numbered = option_map row_of key; shared = shared_of part uid key }

abbrev pub view_granted : Lasting → ℕ → KeyDatabaseView
view_granted part grant = record no_view { granted = granted_in part grant }

-- the key of a grant
abbrev pub key_granted : Lasting → ℕ → Option KeyRecord
key_granted part grant = option_and_then (λ (row : GrantRow). key_of_id part row.key) (find (is_numbered grant) part.grants)

module _ (part : Lasting) (uid : ℕ) (key : Descriptor) where
  -- what access reads of it
  abbrev pub view_for : KeyDatabaseView
  view_for =
      if key.domain == domain_app then view_named (key_by_alias part domain_app uid key.alias)
      else (if key.domain == domain_grant then view_granted part key.nspace
      else (if key.domain == domain_selinux then view_named (key_by_alias part domain_selinux key.nspace key.alias)
      else (if key.domain == domain_key_id then view_numbered part uid (key_of_id part key.nspace)
      else no_view)))

  -- the key
  abbrev pub key_for : Option KeyRecord
  key_for =
      if key.domain == domain_app then key_by_alias part domain_app uid key.alias
      else (if key.domain == domain_grant then key_granted part key.nspace
      else (if key.domain == domain_selinux then key_by_alias part domain_selinux key.nspace key.alias
      else (if key.domain == domain_key_id then key_of_id part key.nspace
      else None)))

-- the key that access gives, of the one that was looked up
abbrev pub given : Access → Option KeyRecord → Option KeyRecord
given (Found row bits) found = found
given (Blob bits) found = None
given Nothing found = None
