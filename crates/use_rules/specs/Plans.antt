-- What the work of an operation is, by the operation's list and the key's.
use Rattle.std.specs.Prelude.{ℕ, ◌≡◌, ◌/◌, Bool, ◌&&◌, not, nat_le, List, Option, None, if◌then◌else◌, unwrap_or, length, MatchOption}
use Rattle.tags.specs.declared.param.Param.{Param}
use Rattle.tags.specs.declared.plan.Plan.{Plan}
use Rattle.tags.specs.declared.plan.Plan.TheVariants.{Ecb, Cbc, Ctr, Gcm, HmacSign, HmacVerify}
use Rattle.tags.specs.declared.tag.Tag.TheVariants.{Purpose, BlockMode, Padding, UserSecureId, AuthTimeout, Nonce, MacLength}
use Rattle.tags.specs.Plan.{nonce_bytes}
use Rattle.tags.specs.Values.{CBC, CTR, ECB, ENCRYPT, PKCS7}
use Rattle.tag_lists.specs.Lookups.{bytes_of, is_aes, is_only, number_of, stands}
use Rattle.use_rules.specs.Rules.{is_sign, digest_of, least_bits, takes_nonce, gives_nonce, nonce_size}

-- A number of a plan has one byte; a list that the rules let through has no greater one.
abbrev pub byte : ℕ → ℕ
byte n = if nat_le n 255 then n else 255

-- the bytes of the mac or tag that is asked for
abbrev pub length_bytes : List Param → ℕ
length_bytes asked = byte (unwrap_or (number_of MacLength asked) 0 / 8)

-- AES by its mode: ECB, CBC, CTR or GCM
abbrev pub cipher_plan : List Param → Plan
cipher_plan asked =
    if is_only BlockMode ECB asked then Ecb (is_only Purpose ENCRYPT asked) (is_only Padding PKCS7 asked) else
    if is_only BlockMode CBC asked then Cbc (is_only Purpose ENCRYPT asked) (is_only Padding PKCS7 asked) else
    if is_only BlockMode CTR asked then Ctr else
    Gcm (is_only Purpose ENCRYPT asked) (length_bytes asked)

-- HMAC by its purpose: SIGN, or VERIFY of a signature of at least the key's MIN_MAC_LENGTH
abbrev pub mac_plan : List Param → List Param → Plan
mac_plan asked key =
    if is_sign asked then HmacSign (byte (digest_of asked key)) (length_bytes asked)
    else HmacVerify (byte (digest_of asked key)) (byte (least_bits key / 8))

-- the plan of an operation that begins
unfoldable pub plan_of : List Param → List Param → Plan
plan_of asked key = if is_aes key then cipher_plan asked else mac_plan asked key

-- the nonce that the caller gives: CBC, CTR and GCM alone look at it
unfoldable pub nonce_given : List Param → List Param → Option (List ℕ)
nonce_given asked key = if takes_nonce asked key then bytes_of Nonce asked else None

-- how many bytes of nonce are drawn: an encryption without a given one draws it whole
unfoldable pub nonce_wanted : List Param → List Param → ℕ
nonce_wanted asked key = if takes_nonce asked key && (is_only Purpose ENCRYPT asked && not (gives_nonce asked)) then nonce_size asked key else 0

-- the nonce that is given has the plan's bytes and none is drawn, or else the one that is drawn has them
abbrev pub NonceFits : List Param → List Param → Plan → Type 0
NonceFits asked key plan =
    MatchOption (nonce_given asked key) (nonce_wanted asked key ≡ nonce_bytes plan)
    (λ nonce. (length nonce ≡ nonce_bytes plan) × (nonce_wanted asked key ≡ 0))

-- USER_SECURE_ID is there and AUTH_TIMEOUT is not: each operation is to be shown a token of its own
abbrev pub is_per_operation : List Param → Bool
is_per_operation key = stands UserSecureId key && not (stands AuthTimeout key)

-- how many bytes of challenge are drawn, which a token for the operation has to name
abbrev pub challenge_wanted : List Param → ℕ
challenge_wanted key = if is_per_operation key then 8 else 0
