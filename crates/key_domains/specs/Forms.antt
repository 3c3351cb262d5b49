-- The forms of a descriptor by its domain (Android's `KeyDescriptor`).
use Rattle.std.specs.Prelude.{ℕ, Bool, ◌&&◌, ◌||◌, ◌==◌, is_some, Option}
use Rattle.tags.specs.declared.descriptor.Descriptor.{Descriptor}
use Rattle.tags.specs.Descriptor.{has_alias}
use Rattle.tags.specs.Values.{implies}
use Rattle.key_domains.specs.Domains.{domain_app, domain_blob, domain_grant, domain_key_id, domain_selinux}

-- APP and SELINUX find a key by its alias, GRANT and KEY_ID by a number
abbrev pub is_by_alias : ℕ → Bool
is_by_alias domain = (domain == domain_app) || (domain == domain_selinux)

abbrev pub is_by_number : ℕ → Bool
is_by_number domain = (domain == domain_grant) || (domain == domain_key_id)

-- the domain is APP or SELINUX with an alias of 1 to 256 bytes of UTF-8, or GRANT or KEY_ID
abbrev pub names_key : Descriptor → Bool
names_key descriptor = (is_by_alias descriptor.domain && has_alias descriptor) || is_by_number descriptor.domain

-- BLOB with a blob, of any bytes
abbrev pub hands_blob : Descriptor → Bool
hands_blob descriptor = (descriptor.domain == domain_blob) && is_some descriptor.blob

-- the form of a stored key's descriptor, or BLOB with a blob
abbrev pub names_any_key : Descriptor → Bool
names_any_key descriptor = names_key descriptor || hands_blob descriptor

-- SELINUX: the policy has a row of the caller's uid and the namespace
abbrev pub is_in_policy : ℕ → Option ℕ → Bool
is_in_policy domain row = implies (domain == domain_selinux) (is_some row)
