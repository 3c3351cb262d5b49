-- The rules of a begin: each part says whether it holds over the facts, over the operation's list (`asked`) and over the
-- key's list (`key`). Where a part names AES or HMAC, it holds for the other.
use Rattle.std.specs.Prelude.{ℕ, Bool, true, not, ◌&&◌, ◌||◌, ◌==◌, nat_le, nat_lt, List, Option, Some, None, if◌then◌else◌, is_some, unwrap_or, length}
use Rattle.std.specs.Option.{option_or}
use Rattle.key_domains.specs.declared.permission.Permission.TheVariants.{ManageBlob, ReqForcedOp, Use}
use Rattle.key_domains.specs.Bits.{has}
use Rattle.key_domains.specs.Domains.{domain_blob}
use Rattle.key_domains.specs.Forms.{is_in_policy}
use Rattle.tags.specs.declared.descriptor.Descriptor.{Descriptor}
use Rattle.tags.specs.declared.param.Param.{Param}
use Rattle.tags.specs.declared.tag.Tag.{Tag}
use Rattle.tags.specs.declared.tag.Tag.TheVariants.{Purpose, BlockMode, Digest, Padding, CallerNonce, MinMacLength, EarlyBootOnly, ActiveDatetime, OriginationExpireDatetime, UsageExpireDatetime, MaxUsesPerBoot, UserId, UserSecureId, AuthTimeout, UnlockedDeviceRequired, Nonce, MacLength}
use Rattle.tags.specs.Values.{AES_PURPOSES, CBC, CTR, DECRYPT, DIGESTS, ENCRYPT, GCM, HMAC_PURPOSES, MODES, PADDINGS, SIGN, UNPADDED, digest_bits, implies, is_whole_bytes, one_in, passes}
use Rattle.tag_lists.specs.Lookups.{bytes_of, has_number, is_aes, is_hmac, is_only, number_of, only_number, stands}

-- the policy's row is there and has MANAGE_BLOB
abbrev pub has_manage_blob : Option ℕ → Bool
has_manage_blob row = passes (λ bits. has bits ManageBlob) row

-- SELINUX: the policy has a row of the caller's uid and the namespace; BLOB: and it has MANAGE_BLOB
abbrev pub may_enter : Descriptor → Option ℕ → Bool
may_enter descriptor row =
    is_in_policy descriptor.domain row &&
    implies (descriptor.domain == domain_blob) (has_manage_blob row)

-- the caller's bits have USE, and REQ_FORCED_OP where the begin forces
abbrev pub may_begin : ℕ → Bool → Bool
may_begin bits forced = has bits Use && implies forced (has bits ReqForcedOp)

-- ENCRYPT or DECRYPT for AES, SIGN or VERIFY for HMAC
abbrev pub serves : List Param → ℕ → Bool
serves key purpose = if is_aes key then one_in AES_PURPOSES purpose else is_hmac key && one_in HMAC_PURPOSES purpose

-- the operation's one value of the tag is the key's too
abbrev pub key_has : Tag → List Param → List Param → Bool
key_has tag asked key = passes (λ value. has_number tag value key) (only_number tag asked)

-- there is exactly one PURPOSE, and it is one of the key's algorithm
abbrev pub names_purpose : List Param → List Param → Bool
names_purpose asked key = passes (serves key) (only_number Purpose asked)

-- the key has it
abbrev pub key_has_purpose : List Param → List Param → Bool
key_has_purpose asked key = key_has Purpose asked key

-- there is no number, or it passes the test
abbrev pub passes_if_any : (ℕ → Bool) → Option ℕ → Bool
passes_if_any test None = true
passes_if_any test (Some n) = test n

-- ACTIVE_DATETIME, where it is there, is at most the wall reading
abbrev pub is_active : List Param → ℕ → Bool
is_active key wall = passes_if_any (λ date. nat_le date wall) (number_of ActiveDatetime key)

-- ENCRYPT and SIGN are bounded by ORIGINATION_EXPIRE_DATETIME, DECRYPT and VERIFY by USAGE_EXPIRE_DATETIME
abbrev pub expiry_of : List Param → Tag
expiry_of asked = if is_only Purpose ENCRYPT asked || is_only Purpose SIGN asked then OriginationExpireDatetime else UsageExpireDatetime

-- that date, where it is there, is at least the wall reading
abbrev pub is_unexpired : List Param → List Param → ℕ → Bool
is_unexpired asked key wall = passes_if_any (λ date. nat_le wall date) (number_of (expiry_of asked) key)

-- USER_ID, where it is there, is the caller's user
abbrev pub is_of_user : List Param → ℕ → Bool
is_of_user key user = passes_if_any (λ own. own == user) (number_of UserId key)

-- EARLY_BOOT_ONLY: early boot has not ended
abbrev pub is_early : List Param → Bool → Bool
is_early key early_ended = implies (stands EarlyBootOnly key) (not early_ended)

-- UNLOCKED_DEVICE_REQUIRED: the caller's user is unlocked
abbrev pub is_unlocked : List Param → Bool → Bool
is_unlocked key unlocked = implies (stands UnlockedDeviceRequired key) unlocked

-- USER_SECURE_ID and AUTH_TIMEOUT are there
abbrev pub is_for_a_time : List Param → Bool
is_for_a_time key = stands UserSecureId key && stands AuthTimeout key

-- USER_SECURE_ID and AUTH_TIMEOUT: a token opens the key now
abbrev pub is_authenticated : List Param → Bool → Bool
is_authenticated key timely = implies (is_for_a_time key) timely

-- MAX_USES_PER_BOOT, where it is there, is greater than the begins since the last restart
abbrev pub has_begins_left : List Param → ℕ → Bool
has_begins_left key begins = passes_if_any (λ most. nat_lt begins most) (number_of MaxUsesPerBoot key)

-- there is exactly one BLOCK_MODE, of ECB, CBC, CTR and GCM
abbrev pub names_known_mode : List Param → Bool
names_known_mode asked = passes (one_in MODES) (only_number BlockMode asked)

-- AES: there is exactly one BLOCK_MODE, of ECB, CBC, CTR and GCM
abbrev pub names_mode : List Param → List Param → Bool
names_mode asked key = implies (is_aes key) (names_known_mode asked)

-- AES: the key has it
abbrev pub key_has_mode : List Param → List Param → Bool
key_has_mode asked key = implies (is_aes key) (key_has BlockMode asked key)

-- there is exactly one PADDING, of none and PKCS7
abbrev pub names_known_padding : List Param → Bool
names_known_padding asked = passes (one_in PADDINGS) (only_number Padding asked)

-- AES: there is exactly one PADDING, none or PKCS7
abbrev pub names_padding : List Param → List Param → Bool
names_padding asked key = implies (is_aes key) (names_known_padding asked)

-- CTR and GCM
abbrev pub is_stream : List Param → Bool
is_stream asked = is_only BlockMode CTR asked || is_only BlockMode GCM asked

-- AES: the key has it, and with CTR and GCM it is none
abbrev pub takes_padding : List Param → List Param → Bool
takes_padding asked key = implies (is_aes key) (key_has Padding asked key && implies (is_stream asked) (is_only Padding UNPADDED asked))

-- there is exactly one DIGEST, of SHA-224, SHA-256, SHA-384 and SHA-512
abbrev pub names_known_digest : List Param → Bool
names_known_digest asked = passes (one_in DIGESTS) (only_number Digest asked)

-- HMAC: no DIGEST, or exactly one, of the SHA-2 digests
abbrev pub names_digest : List Param → List Param → Bool
names_digest asked key = implies (is_hmac key) (implies (stands Digest asked) (names_known_digest asked))

-- HMAC: and it is the key's
abbrev pub key_has_digest : List Param → List Param → Bool
key_has_digest asked key = implies (is_hmac key) (implies (stands Digest asked) (key_has Digest asked key))

abbrev pub is_sign : List Param → Bool
is_sign asked = is_only Purpose SIGN asked

abbrev pub is_gcm : List Param → List Param → Bool
is_gcm asked key = is_aes key && is_only BlockMode GCM asked

-- for SIGN and for GCM a length is asked for
abbrev pub needs_length : List Param → List Param → Bool
needs_length asked key = is_sign asked || is_gcm asked key

-- SIGN and GCM: MAC_LENGTH is there
abbrev pub gives_length : List Param → List Param → Bool
gives_length asked key = implies (needs_length asked key) (is_some (number_of MacLength asked))

-- the digest of a mac: the operation's, or the key's where it names none
abbrev pub digest_of : List Param → List Param → ℕ
digest_of asked key = unwrap_or (option_or (number_of Digest asked) (number_of Digest key)) 0

-- whole bytes, for SIGN at most the digest's bits, for GCM from 96 to 128
abbrev pub is_length : List Param → List Param → ℕ → Bool
is_length asked key bits = if is_gcm asked key then is_whole_bytes 96 128 bits else is_whole_bytes 0 (digest_bits (digest_of asked key)) bits

-- MAC_LENGTH is such a length
abbrev pub gives_such_length : List Param → List Param → Bool
gives_such_length asked key = passes (is_length asked key) (number_of MacLength asked)

-- SIGN and GCM: MAC_LENGTH is such a length
abbrev pub takes_length : List Param → List Param → Bool
takes_length asked key = implies (needs_length asked key) (gives_such_length asked key)

-- the least bits of a mac or tag that the key allows
abbrev pub least_bits : List Param → ℕ
least_bits key = unwrap_or (number_of MinMacLength key) 0

-- MAC_LENGTH is at least that
abbrev pub gives_least_length : List Param → List Param → Bool
gives_least_length asked key = passes (λ bits. nat_le (least_bits key) bits) (number_of MacLength asked)

-- SIGN and GCM: MAC_LENGTH is at least the key's MIN_MAC_LENGTH
abbrev pub reaches_least : List Param → List Param → Bool
reaches_least asked key = implies (needs_length asked key) (gives_least_length asked key)

-- CBC, CTR and GCM start from a nonce
abbrev pub takes_nonce : List Param → List Param → Bool
takes_nonce asked key = is_aes key && (is_only BlockMode CBC asked || is_stream asked)

-- a NONCE is given
abbrev pub gives_nonce : List Param → Bool
gives_nonce asked = is_some (bytes_of Nonce asked)

-- on ENCRYPT a given NONCE needs CALLER_NONCE in the key
abbrev pub may_give_nonce : List Param → List Param → Bool
may_give_nonce asked key = implies (takes_nonce asked key) (implies (is_only Purpose ENCRYPT asked) (implies (gives_nonce asked) (stands CallerNonce key)))

-- on DECRYPT NONCE is there
abbrev pub has_nonce : List Param → List Param → Bool
has_nonce asked key = implies (takes_nonce asked key) (implies (is_only Purpose DECRYPT asked) (gives_nonce asked))

-- the bytes of a nonce: 12 for GCM, and 16 for CBC and CTR
abbrev pub nonce_size : List Param → List Param → ℕ
nonce_size asked key = if is_gcm asked key then 12 else 16

abbrev pub has_size : ℕ → Option (List ℕ) → Bool
has_size size None = true
has_size size (Some bytes) = length bytes == size

-- a given NONCE has so many bytes
abbrev pub gives_sized_nonce : ℕ → List Param → Bool
gives_sized_nonce size asked = has_size size (bytes_of Nonce asked)

-- a given NONCE has the mode's bytes
abbrev pub fits_nonce : List Param → List Param → Bool
fits_nonce asked key = implies (takes_nonce asked key) (gives_sized_nonce (nonce_size asked key) asked)
