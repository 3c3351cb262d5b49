-- What a descriptor and a uid find by their look-ups.
use Rattle.std.specs.Prelude.{ℕ, List, Option, None, Some, ◌==◌, if◌then◌else◌}
use Rattle.std.specs.Option.{option_and_then}
use Rattle.key_domains.specs.Domains.{domain_app, domain_selinux}
use Rattle.tags.specs.declared.descriptor.Descriptor.{Descriptor}
use Rattle.key_domains.specs.declared.view.KeyRow.{KeyRow}
use Rattle.key_domains.specs.declared.view.GrantedRow.{GrantedRow}
use Rattle.key_domains.specs.declared.view.KeyDatabaseView.{KeyDatabaseView}

-- whose keys a descriptor names by an alias: in APP the caller's uid, whatever its nspace; in SELINUX the namespace
abbrev pub owner_of : Descriptor → ℕ → Option (ℕ × ℕ)
owner_of descriptor uid =
    if descriptor.domain == domain_app then Some (domain_app, uid)
    else (if descriptor.domain == domain_selinux then Some (domain_selinux, descriptor.nspace) else None)

-- the key of that owner and the descriptor's alias
abbrev pub named_by : (ℕ → ℕ → List ℕ → Option KeyRow) → Descriptor → ℕ → Option KeyRow
named_by named descriptor uid =
    option_and_then (λ owner. option_and_then (λ alias. named owner.0 owner.1 alias) descriptor.alias) (owner_of descriptor uid)

-- the four look-ups: by owner and alias, by number, by the grant's number, and the grant of the numbered key to the uid
abbrev pub view_of : (ℕ → ℕ → List ℕ → Option KeyRow) → (ℕ → Option KeyRow) → (ℕ → Option GrantedRow) → (ℕ → ℕ → Option ℕ) → Descriptor → ℕ → KeyDatabaseView
view_of named numbered granted shared descriptor uid = record {
  named = named_by named descriptor uid;
  numbered = numbered descriptor.nspace;
  granted = granted descriptor.nspace;
  shared = option_and_then (λ (key : KeyRow). shared key.id uid) (numbered descriptor.nspace);
}
