-- Table B, the beginning of an operation: a list of rules in its order, and the answer is the first that does not hold.
use Rattle.std.specs.Prelude.{◌≡◌, Bool, true, List, [], ◌∷◌, ◌++◌, Result, Ok, Err, is_some, is_ok, unwrap_or}
use Rattle.tags.specs.declared.code.Code.{Code}
use Rattle.tags.specs.declared.code.Code.TheVariants.{InvalidArgument, KeyNotFound, PermissionDenied, InvalidTag, InvalidKeyBlob, KeyRequiresUpgrade, UnsupportedPurpose, IncompatiblePurpose, KeyNotYetValid, KeyExpired, InvalidUserId, EarlyBootEnded, DeviceLocked, KeyUserNotAuthenticated, KeyMaxOpsExceeded, UnsupportedBlockMode, IncompatibleBlockMode, UnsupportedPaddingMode, IncompatiblePaddingMode, UnsupportedDigest, IncompatibleDigest, MissingMacLength, UnsupportedMacLength, InvalidMacLength, CallerNonceProhibited, MissingNonce, InvalidNonce, BackendBusy}
use Rattle.tags.specs.declared.param.Param.{Param}
use Rattle.tags.specs.declared.plan.Plan.{Plan}
use Rattle.tags.specs.declared.rule.Rule.{Rule}
use Rattle.tags.specs.declared.rule.RuleTable.TheVariants.{B}
use Rattle.tags.specs.Table.{Check, check, first_broken, where_all_hold}
use Rattle.key_domains.specs.Forms.{names_any_key}
use Rattle.tag_lists.specs.Versions.{is_no_newer, is_no_older}
use Rattle.use_rules.specs.declared.facts.BeginFacts.{BeginFacts}
use Rattle.use_rules.specs.Rules.{may_enter, may_begin, names_purpose, key_has_purpose, is_active, is_unexpired, is_of_user, is_early, is_unlocked, is_authenticated, has_begins_left, names_mode, key_has_mode, names_padding, takes_padding, names_digest, key_has_digest, gives_length, takes_length, reaches_least, may_give_nonce, has_nonce, fits_nonce}
use Rattle.use_rules.specs.Plans.{plan_of}

-- the operation's list, where it was read
abbrev pub list_or_none : Result (List Param) Code → List Param
list_or_none (Ok list) = list
list_or_none (Err code) = []

-- why it was not read
abbrev pub fault_of : Result (List Param) Code → Code
fault_of (Ok list) = InvalidTag
fault_of (Err code) = code

abbrev pub asked_of : BeginFacts → List Param
asked_of facts = list_or_none facts.asked

-- the key's list
abbrev pub key_of : BeginFacts → List Param
key_of facts = unwrap_or facts.opened []

-- the rules before those of the two lists
abbrev pub call_rules : BeginFacts → List Check
call_rules facts =
    check 1 InvalidArgument facts.connected ∷  -- the client is connected
    check 2 InvalidArgument (names_any_key facts.descriptor) ∷  -- the descriptor has the form of its domain
    check 3 PermissionDenied (may_enter facts.descriptor facts.row) ∷  -- SELINUX and BLOB: the policy knows the caller there
    check 4 KeyNotFound facts.found ∷  -- the key is found; a blob that is handed in always is
    check 5 PermissionDenied (may_begin facts.bits facts.forced) ∷  -- the caller may use it, and force where it forces
    check 6 (fault_of facts.asked) (is_ok facts.asked) ∷  -- the operation's list reads
    check 7 InvalidKeyBlob (is_some facts.opened) ∷  -- the blob opens
    check 8 InvalidKeyBlob facts.fits ∷  -- for this device and these ids, to a list and a material that are usable
    []

-- the rules of the system that the key is of, and of what it is for, when, and for whom
unfoldable pub key_rules : BeginFacts → List Param → List Param → List Check
key_rules facts asked key =
    check 23 InvalidKeyBlob (is_no_newer facts.os facts.patch key) ∷  -- neither of its versions is greater than the system's
    check 23 KeyRequiresUpgrade (is_no_older facts.os facts.patch key) ∷  -- and neither is less
    check 9 UnsupportedPurpose (names_purpose asked key) ∷  -- one purpose, of the key's algorithm
    check 9 IncompatiblePurpose (key_has_purpose asked key) ∷  -- which the key has
    check 10 KeyNotYetValid (is_active key facts.wall) ∷  -- the key is active
    check 11 KeyExpired (is_unexpired asked key facts.wall) ∷  -- and has not expired for the purpose
    check 12 InvalidUserId (is_of_user key facts.user) ∷  -- it is the caller's user's
    check 13 EarlyBootEnded (is_early key facts.early_ended) ∷  -- a key of early boot alone works in it
    check 14 DeviceLocked (is_unlocked key facts.unlocked) ∷  -- a key of the unlocked device works there
    check 15 KeyUserNotAuthenticated (is_authenticated key facts.timely) ∷  -- a key that a token opens for some time is open
    check 16 KeyMaxOpsExceeded (has_begins_left key facts.begins) ∷  -- the key has begins left since the last restart
    []

-- the rules of what the operation's list asks of the key, and of the slot that the operation takes
unfoldable pub list_rules : List Param → List Param → Bool → List Check
list_rules asked key room =
    check 17 UnsupportedBlockMode (names_mode asked key) ∷  -- AES: one mode
    check 17 IncompatibleBlockMode (key_has_mode asked key) ∷  -- which the key has
    check 18 UnsupportedPaddingMode (names_padding asked key) ∷  -- AES: one padding
    check 18 IncompatiblePaddingMode (takes_padding asked key) ∷  -- which the key and the mode have
    check 19 UnsupportedDigest (names_digest asked key) ∷  -- HMAC: at most one digest
    check 19 IncompatibleDigest (key_has_digest asked key) ∷  -- which is the key's
    check 20 MissingMacLength (gives_length asked key) ∷  -- SIGN and GCM: a length of the mac or tag
    check 20 UnsupportedMacLength (takes_length asked key) ∷  -- of whole bytes, that the digest or GCM has
    check 20 InvalidMacLength (reaches_least asked key) ∷  -- and no shorter than the key allows
    check 21 CallerNonceProhibited (may_give_nonce asked key) ∷  -- ENCRYPT: a nonce is given where the key allows it
    check 21 MissingNonce (has_nonce asked key) ∷  -- DECRYPT: a nonce is given
    check 21 InvalidNonce (fits_nonce asked key) ∷  -- and has the mode's length
    check 22 BackendBusy room ∷  -- a slot is free, or an operation gives way
    []

-- what the two lists keep to where no rule of theirs is broken
pub record Agree (asked key : List Param) : Type 0 where
  pub purpose : names_purpose asked key ≡ true
  pub own_purpose : key_has_purpose asked key ≡ true
  pub mode : names_mode asked key ≡ true
  pub own_mode : key_has_mode asked key ≡ true
  pub padding : names_padding asked key ≡ true
  pub own_padding : takes_padding asked key ≡ true
  pub digest : names_digest asked key ≡ true
  pub own_digest : key_has_digest asked key ≡ true
  pub length : gives_length asked key ≡ true
  pub fit_length : takes_length asked key ≡ true
  pub least_length : reaches_least asked key ≡ true
  pub may_give : may_give_nonce asked key ≡ true
  pub nonce : has_nonce asked key ≡ true
  pub fit_nonce : fits_nonce asked key ≡ true

-- table B
abbrev pub rules_of : BeginFacts → List Check
rules_of facts = call_rules facts ++ key_rules facts (asked_of facts) (key_of facts) ++ list_rules (asked_of facts) (key_of facts) facts.room

-- the first rule that does not hold, with its code, or else the plan
unfoldable pub answer : BeginFacts → Result Plan (Rule × Code)
answer facts = where_all_hold (first_broken B (rules_of facts)) (plan_of (asked_of facts) (key_of facts))
