-- What a caller may do with a key, by the way it comes to it.
use Rattle.std.specs.Prelude.{ℕ, List, Option, ◌+◌, ◌==◌, ◌&&◌, unwrap_or, if◌then◌else◌}
use Rattle.key_domains.specs.Domains.{domain_app, domain_selinux}
use Rattle.tags.specs.declared.policy.PolicyRow.{PolicyRow}
use Rattle.tags.specs.Policy.{bits_of}
use Rattle.key_domains.specs.declared.permission.Permission.TheVariants.{Delete, GetInfo, Grant, Rebind, ReqForcedOp, Update, Use}
use Rattle.key_domains.specs.declared.view.KeyRow.{KeyRow}
use Rattle.key_domains.specs.Bits.{bit_of, has, joined}

-- the bits of the policy's first row of a uid and a namespace; none where it has no such row
abbrev pub row_bits : List PolicyRow → ℕ → ℕ → ℕ
row_bits policy uid nspace = unwrap_or (bits_of policy uid nspace) 0

-- what an owner may do with an app's key
abbrev pub owner_bits : ℕ
owner_bits = bit_of Delete + bit_of GetInfo + bit_of Grant + bit_of Rebind + bit_of Update + bit_of Use

-- that, and REQ_FORCED_OP where the policy's row of the uid and namespace 0 has it
abbrev pub app_bits : List PolicyRow → ℕ → ℕ
app_bits policy uid =
    if has (row_bits policy uid 0) ReqForcedOp then joined owner_bits (bit_of ReqForcedOp) else owner_bits

-- what a caller may do with a key as its owner: an app with its own, and whom the policy has with those of a namespace
abbrev pub owned_bits : List PolicyRow → ℕ → KeyRow → ℕ
owned_bits policy uid key =
    if (key.domain == domain_app) && (key.nspace == uid) then app_bits policy uid
    else (if key.domain == domain_selinux then row_bits policy uid key.nspace else 0)

-- the ways to a key: an app by its alias, a namespace by its alias, a blob that is handed in for a namespace, a grant with its
-- bits, a key's number with the bits of a grant of it, where there is one
pub data Way : Type 0 where
  OfApp : Way
  OfNamespace : ℕ → Way
  OfBlob : ℕ → Way
  ByGrant : ℕ → Way
  ByNumber : KeyRow → Option ℕ → Way

-- the caller's bits
abbrev pub caller_bits : List PolicyRow → ℕ → Way → ℕ
caller_bits policy uid OfApp = app_bits policy uid
caller_bits policy uid (OfNamespace nspace) = row_bits policy uid nspace
caller_bits policy uid (OfBlob nspace) = row_bits policy uid nspace
caller_bits policy uid (ByGrant bits) = bits
caller_bits policy uid (ByNumber key granted) = joined (owned_bits policy uid key) (unwrap_or granted 0)
