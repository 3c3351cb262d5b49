-- Table K, a new key: a list of rules in its order, and the answer is the first that does not hold.
use Rattle.std.specs.Prelude.{ℕ, Bool, List, [], ◌∷◌, ◌++◌, Option, Some, None, length, nat_le, is_ok, is_some}
use Rattle.tags.specs.declared.code.Code.TheVariants.{EarlyBootEnded, ImportParameterMismatch, IncompatiblePurpose, InvalidArgument, InvalidInputLength, InvalidKeyArgument, InvalidKeyBlob, KeyNotFound, KeyRequiresUpgrade, MissingMinMacLength, PermissionDenied, UnsupportedAlgorithm, UnsupportedBlockMode, UnsupportedDigest, UnsupportedKeyFormat, UnsupportedKeySize, UnsupportedMinMacLength, UnsupportedPaddingMode, UnsupportedPurpose, UnsupportedTag, VerificationFailed}
use Rattle.tags.specs.declared.param.Param.{Param}
use Rattle.tags.specs.Table.{Check, check}
use Rattle.tags.specs.Values.{RAW}
use Rattle.key_domains.specs.declared.permission.Permission.TheVariants.{Use}
use Rattle.key_domains.specs.Bits.{has}
use Rattle.key_domains.specs.Forms.{is_in_policy, names_key}
use Rattle.key_wrap.specs.Lengths.{is_wrapped_length}
use Rattle.tag_lists.specs.Reading.{listed}
use Rattle.tag_lists.specs.Versions.{is_no_newer, is_no_older}
use Rattle.key_rules.specs.declared.facts.ImportFacts.{ImportFacts}
use Rattle.key_rules.specs.declared.facts.NewFacts.{NewFacts}
use Rattle.key_rules.specs.declared.facts.WrapFacts.{WrapFacts}
use Rattle.key_rules.specs.Rules.{has_allowed_size, has_fit_length, has_known_modes, has_known_paddings, has_least_length, has_lone_wrapping, has_one_authority, has_one_digest, has_own_counts, has_own_purposes, has_own_size, has_short_ids, has_some_uses, is_early, list_in, may_make, names_algorithm, names_new_key, reading_code, takes_format, unread_code, wrapping_list, wraps_keys}
use Rattle.tags.specs.declared.limits.TheConstants.{LIST_BYTES}

-- the rule of an encoded list
abbrev pub bytes_rules : List ℕ → List Check
bytes_rules params =
    check 4 InvalidInputLength (nat_le (length params) LIST_BYTES) ∷  -- the encoded list is not too long
    check 4 (reading_code (listed params)) (is_ok (listed params)) ∷  -- it reads
    check 4 InvalidInputLength (has_short_ids (list_in params)) ∷  -- its ids are not too long
    []

-- the rules that make a list and a material a key of their cipher, of an import or of a key that is generated
abbrev pub cipher_rules : Option ImportFacts → List Param → List Check
cipher_rules import list =
    check 7 UnsupportedKeySize (has_allowed_size import list) ∷  -- the size is one of the algorithm's
    check 7 ImportParameterMismatch (has_own_size import list) ∷  -- import: and the one that the list names
    check 8 UnsupportedPurpose (has_own_purposes list) ∷  -- the purposes are the algorithm's
    check 9 UnsupportedBlockMode (has_known_modes list) ∷  -- AES: the modes are known
    check 10 UnsupportedPaddingMode (has_known_paddings list) ∷  -- AES: the paddings are known
    check 11 UnsupportedDigest (has_one_digest list) ∷  -- HMAC: there is one digest
    check 12 MissingMinMacLength (has_least_length list) ∷  -- HMAC and GCM: a least length of the mac or tag
    check 12 UnsupportedMinMacLength (has_fit_length list) ∷  -- of whole bytes, that the digest or GCM has
    []

-- the rules behind those of the cipher
abbrev pub last_rules : ℕ → Bool → List Param → List Check
last_rules domain early_ended list =
    check 13 InvalidKeyArgument (has_one_authority list) ∷  -- no authentication is not asked for beside one
    check 14 InvalidKeyArgument (has_some_uses list) ∷  -- a use limit allows a use
    check 14 UnsupportedTag (has_own_counts domain list) ∷  -- BLOB: no count that only a stored key has
    check 15 EarlyBootEnded (is_early list early_ended) ∷  -- a key of early boot alone is made in it
    check 17 UnsupportedTag (has_lone_wrapping list) ∷  -- a key that unwraps others does nothing else, and has no limit
    []

-- the rules that read the list
unfoldable pub list_rules : Option ImportFacts → ℕ → Bool → List Param → List Check
list_rules import domain early_ended list =
    check 5 UnsupportedAlgorithm (names_algorithm list) ∷  -- the algorithm is known
    check 6 UnsupportedKeyFormat (takes_format import) ∷  -- import: the format is RAW
    cipher_rules import list ++
    last_rules domain early_ended list

-- the rules of the key under which an import comes wrapped, by the versions of the device's system
unfoldable pub wrapping_rules : ℕ → ℕ → WrapFacts → List Check
wrapping_rules os patch facts =
    check 18 InvalidArgument (names_key facts.descriptor) ∷  -- its descriptor has the form of a stored key's
    check 18 PermissionDenied (is_in_policy facts.descriptor.domain facts.row) ∷  -- SELINUX: the policy knows the caller there
    check 19 KeyNotFound facts.found ∷  -- it is found
    check 20 PermissionDenied (has facts.bits Use) ∷  -- the caller may use it
    check 21 (unread_code facts.asked) (is_ok facts.asked) ∷  -- the list of its ids reads
    check 21 InvalidKeyBlob (is_some facts.opened) ∷  -- its blob opens
    check 21 InvalidKeyBlob facts.fits ∷  -- for this device and these ids, to a list and a material that are usable
    check 21 InvalidKeyBlob (is_no_newer os patch (wrapping_list facts)) ∷  -- neither of its versions is greater than the system's
    check 21 KeyRequiresUpgrade (is_no_older os patch (wrapping_list facts)) ∷  -- and neither is less
    check 22 IncompatiblePurpose (wraps_keys (wrapping_list facts)) ∷  -- it unwraps other keys
    check 23 InvalidInputLength (is_wrapped_length facts.length) ∷  -- a wrapped text may have this length
    check 23 VerificationFailed facts.opens ∷  -- it opens
    []

-- and none where nothing comes wrapped
abbrev pub wrapping_rules_if : ℕ → ℕ → Option WrapFacts → List Check
wrapping_rules_if os patch None = []
wrapping_rules_if os patch (Some facts) = wrapping_rules os patch facts

-- table K
abbrev pub rules_of : NewFacts → List Check
rules_of facts =
    check 1 InvalidArgument facts.connected ∷  -- the client is connected
    check 2 InvalidArgument (names_new_key facts.descriptor) ∷  -- the descriptor may name a new key
    check 3 PermissionDenied (may_make facts.descriptor facts.row) ∷  -- SELINUX and BLOB: the policy lets the caller make keys there
    wrapping_rules_if facts.os facts.patch facts.wrapped ++
    (bytes_rules facts.params ++ list_rules facts.import facts.descriptor.domain facts.early_ended (list_in facts.params))

-- the rules of a key that was made: the algorithm's and the cipher's, as an import of a material of so many bytes
unfoldable pub key_rules : ℕ → List Param → List Check
key_rules size list =
    check 5 UnsupportedAlgorithm (names_algorithm list) ∷  -- the algorithm is known
    cipher_rules (Some (record { format = RAW; length = size })) list
