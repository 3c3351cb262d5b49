-- The parts of the rules of table A: the forms of the calls' arguments, and what the policy's row allows.
use Rattle.std.specs.Prelude.{ℕ, Bool, ◌&&◌, ◌||◌, ◌==◌, nat_le, Option, is_some, Result, Ok, Err, if◌then◌else◌}
use Rattle.tags.specs.declared.descriptor.Descriptor.{Descriptor}
use Rattle.tags.specs.Descriptor.{has_alias}
use Rattle.tags.specs.Values.{implies, passes}
use Rattle.tags.specs.declared.code.Code.{Code}
use Rattle.tags.specs.declared.code.Code.TheVariants.{InvalidTag}
use Rattle.key_domains.specs.declared.permission.Permission.{Permission}
use Rattle.key_domains.specs.declared.permission.Permission.TheVariants.{GetInfo, ManageBlob, Rebind}
use Rattle.key_domains.specs.Bits.{has}
use Rattle.key_domains.specs.Domains.{domain_app, domain_blob, domain_key_id, domain_selinux}
use Rattle.key_domains.specs.Forms.{is_by_alias}
use Rattle.tags.specs.declared.limits.TheConstants.{BLOB_BYTES, KEPT_LIST_BYTES, MOST_USER}
use Rattle.call_rules.specs.declared.facts.UpgradeFacts.{UpgradeFacts}

-- what an upgrade takes: in BLOB the right to hand in blobs, and else that to make a key anew
abbrev pub upgrade_permission : ℕ → Permission
upgrade_permission domain = if domain == domain_blob then ManageBlob else Rebind

-- neither version of the opened list is greater than the device's
abbrev pub is_no_newer : UpgradeFacts → Bool
is_no_newer facts = nat_le facts.key_os facts.os && nat_le facts.key_patch facts.patch

-- the new list and the new blob have no more bytes than a key's may have
abbrev pub has_room : UpgradeFacts → Bool
has_room facts = nat_le facts.list KEPT_LIST_BYTES && nat_le facts.blob BLOB_BYTES

-- the code of a list that does not read
abbrev pub fault_of : {T : Type 0} → Result T Code → Code
fault_of (Ok done) = InvalidTag
fault_of (Err code) = code

-- the domain is APP, SELINUX or KEY_ID, whatever the alias
abbrev pub is_shared : ℕ → Bool
is_shared domain = is_by_alias domain || (domain == domain_key_id)

-- the domain is APP or SELINUX
abbrev pub is_owned : ℕ → Bool
is_owned domain = is_by_alias domain

-- the greatest uid, and the greatest user, of which each has 100,000 uids
abbrev pub most_uid : ℕ
most_uid = 4294967295

-- the domain is APP and the nspace a uid, or the domain is SELINUX
abbrev pub names_owner : ℕ → ℕ → Bool
names_owner domain nspace = ((domain == domain_app) && nat_le nspace most_uid) || (domain == domain_selinux)

-- the user is at most that of the greatest uid
abbrev pub is_user : ℕ → Bool
is_user user = nat_le user MOST_USER

-- the policy's row is there and has GET_INFO
abbrev pub has_get_info : Option ℕ → Bool
has_get_info row = passes (λ bits. has bits GetInfo) row

-- SELINUX: the policy's row of the caller's uid and the namespace has GET_INFO
abbrev pub may_list : ℕ → Option ℕ → Bool
may_list domain row = implies (domain == domain_selinux) (has_get_info row)
