-- The rules of a new key: each part says whether it holds over the facts of the call and over the list. Where a part names
-- AES or HMAC, it holds for the other.
use Rattle.std.specs.Prelude.{ℕ, ◌*◌, Bool, true, false, ◌&&◌, ◌||◌, not, ◌==◌, nat_le, List, [], ◌∷◌, length, Option, Some, None, Result, Ok, Err, if◌then◌else◌, is_none, unwrap_or}
use Rattle.std.specs.List.{list_all}
use Rattle.key_domains.specs.declared.permission.Permission.{Permission}
use Rattle.key_domains.specs.declared.permission.Permission.TheVariants.{ManageBlob, Rebind}
use Rattle.key_domains.specs.Bits.{has}
use Rattle.key_domains.specs.Domains.{domain_blob, domain_selinux}
use Rattle.key_domains.specs.Forms.{is_by_alias}
use Rattle.tags.specs.declared.code.Code.{Code}
use Rattle.tags.specs.declared.code.Code.TheVariants.{InvalidKeyArgument, InvalidTag}
use Rattle.tags.specs.declared.descriptor.Descriptor.{Descriptor}
use Rattle.tags.specs.declared.param.Param.{Param}
use Rattle.tags.specs.declared.param.ParamValue.{ParamValue}
use Rattle.tags.specs.declared.param.ParamValue.TheVariants.{Number, Flag, Raw}
use Rattle.tags.specs.declared.tag.Tag.{Tag}
use Rattle.tags.specs.declared.tag.Tag.TheVariants as tags
use Rattle.tags.specs.Descriptor.{has_alias}
use Rattle.tags.specs.Values.{DECRYPT, DIGESTS, ENCRYPT, GCM, HMAC_PURPOSES, MODES, PADDINGS, RAW, WRAP_KEY, digest_bits, implies, is_whole_bytes, one_in, passes}
use Rattle.tag_lists.specs.declared.fault.ListFault.{ListFault}
use Rattle.tag_lists.specs.declared.fault.ListFault.TheVariants as faults
use Rattle.tag_lists.specs.Lookups.{all_of, each, has_number, is_aes, is_hmac, number_of, stands}
use Rattle.tag_lists.specs.Reading.{listed}
use Rattle.key_rules.specs.declared.facts.ImportFacts.{ImportFacts}
use Rattle.key_rules.specs.declared.facts.WrapFacts.{WrapFacts}

-- APP and SELINUX with an alias of 1 to 256 bytes of UTF-8, or BLOB, whatever the alias
abbrev pub names_place : Descriptor → Bool
names_place descriptor = (is_by_alias descriptor.domain && has_alias descriptor) || (descriptor.domain == domain_blob)

-- the descriptor names a place of one of these domains, and no blob is given
abbrev pub names_new_key : Descriptor → Bool
names_new_key descriptor = names_place descriptor && is_none descriptor.blob

-- the policy's row is there and has the permission
abbrev pub row_has : Permission → Option ℕ → Bool
row_has permission row = passes (λ bits. has bits permission) row

-- the policy's row of the caller's uid and the namespace has, in SELINUX, REBIND, and in BLOB MANAGE_BLOB
abbrev pub may_make : Descriptor → Option ℕ → Bool
may_make descriptor row =
    implies (descriptor.domain == domain_selinux) (row_has Rebind row) &&
    implies (descriptor.domain == domain_blob) (row_has ManageBlob row)

-- the code of a list that does not read
abbrev pub list_code : ListFault → Code
list_code (faults.Repeated at) = InvalidKeyArgument
list_code _ = InvalidTag

abbrev pub reading_code : Result (List Param) ListFault → Code
reading_code (Ok list) = InvalidTag
reading_code (Err fault) = list_code fault

-- the list that the bytes spell; where they spell none, no parameters
abbrev pub read_or_empty : Result (List Param) ListFault → List Param
read_or_empty (Ok list) = list
read_or_empty (Err fault) = []

unfoldable pub list_in : List ℕ → List Param
list_in params = read_or_empty (listed params)

-- each parameter of the tag has at most 1,024 bytes
abbrev pub is_short : ParamValue → Bool
is_short (Number n) = false
is_short Flag = false
is_short (Raw bytes) = nat_le (length bytes) 1024

abbrev pub each_short : Tag → List Param → Bool
each_short tag list = list_all (λ p. is_short p.value) (all_of tag list)

-- APPLICATION_ID and APPLICATION_DATA have at most 1,024 bytes each
abbrev pub has_short_ids : List Param → Bool
has_short_ids list = each_short tags.ApplicationId list && each_short tags.ApplicationData list

-- ALGORITHM is there and is AES or HMAC
abbrev pub names_algorithm : List Param → Bool
names_algorithm list = is_aes list || is_hmac list

-- import: the format is RAW
abbrev pub takes_format : Option ImportFacts → Bool
takes_format None = true
takes_format (Some import) = import.format == RAW

-- the sizes that are allowed: AES 128, 192, 256; HMAC 64 to 512 in steps of 8
abbrev pub is_allowed_size : List Param → ℕ → Bool
is_allowed_size list bits = if is_aes list then one_in (128 ∷ 192 ∷ 256 ∷ []) bits else (is_hmac list && is_whole_bytes 64 512 bits)

-- generate: KEY_SIZE is there and allowed; import: eight times the material's length is allowed
abbrev pub has_allowed_size : Option ImportFacts → List Param → Bool
has_allowed_size None list = stands tags.KeySize list && each tags.KeySize (is_allowed_size list) list
has_allowed_size (Some import) list = is_allowed_size list (8 * import.length)

-- import: it equals KEY_SIZE where that is there
abbrev pub has_own_size : Option ImportFacts → List Param → Bool
has_own_size None list = true
has_own_size (Some import) list = each tags.KeySize (one_in (8 * import.length ∷ [])) list

-- the purposes that a key of AES may have: to encipher, to decipher, and to unwrap other keys
abbrev pub AES_KEY_PURPOSES : List ℕ
AES_KEY_PURPOSES = ENCRYPT ∷ DECRYPT ∷ WRAP_KEY ∷ []

-- each PURPOSE is ENCRYPT, DECRYPT or WRAP_KEY for AES, SIGN or VERIFY for HMAC
abbrev pub has_own_purposes : List Param → Bool
has_own_purposes list =
    implies (is_aes list) (each tags.Purpose (one_in AES_KEY_PURPOSES) list) &&
    implies (is_hmac list) (each tags.Purpose (one_in HMAC_PURPOSES) list)

-- AES: each BLOCK_MODE is ECB, CBC, CTR or GCM
abbrev pub has_known_modes : List Param → Bool
has_known_modes list = implies (is_aes list) (each tags.BlockMode (one_in MODES) list)

-- AES: each PADDING is none or PKCS7
abbrev pub has_known_paddings : List Param → Bool
has_known_paddings list = implies (is_aes list) (each tags.Padding (one_in PADDINGS) list)

-- there is exactly one DIGEST, of SHA-224, SHA-256, SHA-384 and SHA-512
abbrev pub has_known_digest : List Param → Bool
has_known_digest list = (length (all_of tags.Digest list) == 1) && each tags.Digest (one_in DIGESTS) list

-- HMAC: there is one such DIGEST
abbrev pub has_one_digest : List Param → Bool
has_one_digest list = implies (is_hmac list) (has_known_digest list)

-- AES with GCM among its modes
abbrev pub is_gcm : List Param → Bool
is_gcm list = is_aes list && has_number tags.BlockMode GCM list

-- HMAC and GCM: MIN_MAC_LENGTH is there
abbrev pub has_least_length : List Param → Bool
has_least_length list = implies (is_hmac list || is_gcm list) (stands tags.MinMacLength list)

-- the bits of the list's digest
abbrev pub own_digest_bits : List Param → ℕ
own_digest_bits list = digest_bits (unwrap_or (number_of tags.Digest list) 0)

-- HMAC: and is of whole bytes, from 64 bits to the digest's
abbrev pub has_fit_mac : List Param → Bool
has_fit_mac list = implies (is_hmac list) (each tags.MinMacLength (is_whole_bytes 64 (own_digest_bits list)) list)

-- GCM: and is of whole bytes, from 96 bits to 128
abbrev pub has_fit_tag : List Param → Bool
has_fit_tag list = implies (is_gcm list) (each tags.MinMacLength (is_whole_bytes 96 128) list)

abbrev pub has_fit_length : List Param → Bool
has_fit_length list = has_fit_mac list && has_fit_tag list

-- NO_AUTH_REQUIRED and USER_SECURE_ID are not both there
abbrev pub has_one_authority : List Param → Bool
has_one_authority list = not (stands tags.NoAuthRequired list && stands tags.UserSecureId list)

-- USAGE_COUNT_LIMIT is not 0
abbrev pub has_some_uses : List Param → Bool
has_some_uses list = not (has_number tags.UsageCountLimit 0 list)

-- a tag whose count the engine keeps beside a stored key: USAGE_COUNT_LIMIT or MAX_USES_PER_BOOT
abbrev pub counts_uses : List Param → Bool
counts_uses list = stands tags.UsageCountLimit list || stands tags.MaxUsesPerBoot list

-- in BLOB no use is counted
abbrev pub has_own_counts : ℕ → List Param → Bool
has_own_counts domain list = implies (domain == domain_blob) (not (counts_uses list))

-- EARLY_BOOT_ONLY: early boot has not ended
abbrev pub is_early : List Param → Bool → Bool
is_early list early_ended = implies (stands tags.EarlyBootOnly list) (not early_ended)

-- what a key that unwraps others is kept from: limits of when, how often and for whom it works
abbrev pub RESTRICTIONS : List Tag
RESTRICTIONS =
    tags.EarlyBootOnly ∷ tags.ActiveDatetime ∷ tags.OriginationExpireDatetime ∷ tags.UsageExpireDatetime ∷ tags.MaxUsesPerBoot ∷ tags.UserId ∷
    tags.UserSecureId ∷ tags.UserAuthType ∷ tags.AuthTimeout ∷ tags.UnlockedDeviceRequired ∷ tags.UsageCountLimit ∷ []

-- it unwraps other keys
abbrev pub wraps_keys : List Param → Bool
wraps_keys list = has_number tags.Purpose WRAP_KEY list

-- none of the tags is there
abbrev pub has_none : List Param → List Tag → Bool
has_none list none = list_all (λ tag. not (stands tag list)) none

-- and does nothing else, without any of those limits
abbrev pub wraps_alone : List Param → Bool
wraps_alone list = each tags.Purpose (one_in (WRAP_KEY ∷ [])) list && has_none list RESTRICTIONS

-- WRAP_KEY: it is the one purpose, and none of the limits is there
abbrev pub has_lone_wrapping : List Param → Bool
has_lone_wrapping list = implies (wraps_keys list) (wraps_alone list)

-- ---- the wrapping key of an import

-- why the list of ids does not read
abbrev pub unread_code : Result (List Param) Code → Code
unread_code (Ok list) = InvalidTag
unread_code (Err code) = code

-- the wrapping key's list; where its blob does not open, no parameters
abbrev pub wrapping_list : WrapFacts → List Param
wrapping_list facts = unwrap_or facts.opened []
