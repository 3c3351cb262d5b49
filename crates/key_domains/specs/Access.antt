-- Which key a descriptor finds for a caller, and what the caller may do with it.
use Rattle.std.specs.Prelude.{ℕ, List, Option, None, Some, ◌==◌, if◌then◌else◌}
use Rattle.key_domains.specs.Domains.{domain_app, domain_grant, domain_selinux, domain_blob, domain_key_id}
use Rattle.tags.specs.declared.policy.PolicyRow.{PolicyRow}
use Rattle.tags.specs.declared.descriptor.Descriptor.{Descriptor}
use Rattle.key_domains.specs.declared.access.Access.{Access}
use Rattle.key_domains.specs.declared.access.Access.TheVariants.{Found, Blob, Nothing}
use Rattle.key_domains.specs.declared.view.KeyRow.{KeyRow}
use Rattle.key_domains.specs.declared.view.GrantedRow.{GrantedRow}
use Rattle.key_domains.specs.declared.view.KeyDatabaseView.{KeyDatabaseView}
use Rattle.key_domains.specs.CallerBits.{caller_bits, OfApp, OfNamespace, OfBlob, ByGrant, ByNumber}

-- a key that a look-up found, with these bits
abbrev pub found : Option KeyRow → ℕ → Access
found None bits = Nothing
found (Some key) bits = Found key bits

module _ (policy : List PolicyRow) (uid : ℕ) where
  -- the key of a grant, where its grantee is the caller
  abbrev pub by_grant : Option GrantedRow → Access
  by_grant None = Nothing
  by_grant (Some grant) = if grant.uid == uid then Found grant.key (caller_bits policy uid (ByGrant grant.bits)) else Nothing

  -- the key of a number, whoever asks; what a stranger lacks are bits
  abbrev pub by_number : Option KeyRow → Option ℕ → Access
  by_number None shared = Nothing
  by_number (Some key) shared = Found key (caller_bits policy uid (ByNumber key shared))

  -- By the descriptor's domain. In BLOB the key is the blob that is handed in: it is always found, whatever lives.
  abbrev pub access : Descriptor → KeyDatabaseView → Access
  access descriptor keys =
      if descriptor.domain == domain_app then found keys.named (caller_bits policy uid OfApp)
      else (if descriptor.domain == domain_grant then by_grant keys.granted
      else (if descriptor.domain == domain_selinux then found keys.named (caller_bits policy uid (OfNamespace descriptor.nspace))
      else (if descriptor.domain == domain_blob then Blob (caller_bits policy uid (OfBlob descriptor.nspace))
      else (if descriptor.domain == domain_key_id then by_number keys.numbered keys.shared
      else Nothing))))
