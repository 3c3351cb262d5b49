-- The values of the tags, by the names of Android's AIDL documents.
use Rattle.std.specs.Prelude.{ℕ, ◌%◌, Bool, false, not, ◌&&◌, ◌||◌, ◌==◌, nat_le, if◌then◌else◌, List, [], ◌∷◌, Option, Some, None}
use Rattle.std.specs.List.{list_any}

-- PURPOSE
abbrev pub ENCRYPT : ℕ
ENCRYPT = 0

abbrev pub DECRYPT : ℕ
DECRYPT = 1

abbrev pub SIGN : ℕ
SIGN = 2

abbrev pub VERIFY : ℕ
VERIFY = 3

abbrev pub WRAP_KEY : ℕ
WRAP_KEY = 5

-- ALGORITHM
abbrev pub AES : ℕ
AES = 32

abbrev pub HMAC : ℕ
HMAC = 128

-- BLOCK_MODE
abbrev pub ECB : ℕ
ECB = 1

abbrev pub CBC : ℕ
CBC = 2

abbrev pub CTR : ℕ
CTR = 3

abbrev pub GCM : ℕ
GCM = 32

-- PADDING
abbrev pub UNPADDED : ℕ
UNPADDED = 1

abbrev pub PKCS7 : ℕ
PKCS7 = 64

-- DIGEST
abbrev pub SHA_224 : ℕ
SHA_224 = 3

abbrev pub SHA_256 : ℕ
SHA_256 = 4

abbrev pub SHA_384 : ℕ
SHA_384 = 5

abbrev pub SHA_512 : ℕ
SHA_512 = 6

-- ORIGIN
abbrev pub GENERATED : ℕ
GENERATED = 0

abbrev pub IMPORTED : ℕ
IMPORTED = 2

abbrev pub SECURELY_IMPORTED : ℕ
SECURELY_IMPORTED = 4

-- the format of an import
abbrev pub RAW : ℕ
RAW = 3

-- the purposes, modes and paddings of AES, and the purposes and digests of HMAC
abbrev pub AES_PURPOSES : List ℕ
AES_PURPOSES = ENCRYPT ∷ DECRYPT ∷ []

abbrev pub HMAC_PURPOSES : List ℕ
HMAC_PURPOSES = SIGN ∷ VERIFY ∷ []

abbrev pub MODES : List ℕ
MODES = ECB ∷ CBC ∷ CTR ∷ GCM ∷ []

abbrev pub PADDINGS : List ℕ
PADDINGS = UNPADDED ∷ PKCS7 ∷ []

abbrev pub DIGESTS : List ℕ
DIGESTS = SHA_224 ∷ SHA_256 ∷ SHA_384 ∷ SHA_512 ∷ []

-- the number is one of these
abbrev pub one_in : List ℕ → ℕ → Bool
one_in numbers n = list_any (λ own. n == own) numbers

-- there is a number, and it passes the test
abbrev pub passes : (ℕ → Bool) → Option ℕ → Bool
passes test None = false
passes test (Some n) = test n

-- what holds only where something else does
abbrev pub implies : Bool → Bool → Bool
implies premise holds = not premise || holds

-- so many bits are whole bytes, from the least to the most bits
abbrev pub is_whole_bytes : ℕ → ℕ → ℕ → Bool
is_whole_bytes least most bits = nat_le least bits && (nat_le bits most && (bits % 8 == 0))

-- the bits of such a digest (FIPS 180-4 section 1)
abbrev pub digest_bits : ℕ → ℕ
digest_bits digest =
    if digest == SHA_224 then 224 else
    if digest == SHA_256 then 256 else
    if digest == SHA_384 then 384 else
    if digest == SHA_512 then 512 else 0
