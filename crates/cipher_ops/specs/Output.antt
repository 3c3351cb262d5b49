-- What an operation puts out: all of it, how much of it is out after some text, and which bytes each call gives.
use Rattle.std.specs.Prelude.{ℕ, ◌-◌, Bool, true, false, ◌&&◌, if◌then◌else◌, nat_le, List, [], length, take, drop, replicate, Option, Some, None, Result, Ok, Err}
use Rattle.std.specs.Option.{ok_or}
use Rattle.std.specs.Str.{bytes_eq}
use Rattle.tags.specs.declared.plan.Plan.{Plan}
use Rattle.tags.specs.declared.plan.Plan.TheVariants.{Ecb, Gcm, HmacSign, HmacVerify}
use Rattle.tags.specs.declared.code.Code.{Code}
use Rattle.tags.specs.declared.code.Code.TheVariants.{VerificationFailed, InvalidKeyArgument, InvalidInputLength}
use Rattle.aes_core.specs.Cipher.{cipher, inverse_cipher}
use Rattle.block_modes.specs.declared.fault.ModeFault.{ModeFault}
use Rattle.block_modes.specs.declared.fault.ModeFault.TheVariants.{Length, Padding}
use Rattle.block_modes.specs.Output as modes
use Rattle.gcm_mode.specs.Gcm as gcm
use Rattle.gcm_mode.specs.Gcm.{gcm_seal, gcm_open}
use Rattle.hmac_core.specs.Hmac.{hmac, digest_size}

-- the block that a mode begins with: the nonce (SP 800-38A sections 6.2 and 6.5); ECB has none, and zeros stand there
abbrev pub first_block : Plan → List ℕ → List ℕ
first_block (Ecb seal padded) nonce = replicate 16 0
first_block _ nonce = nonce

-- what the mode makes of the whole blocks of a text, for CTR and GCM of all its bytes, before any test of a padding or
-- a tag and without the tag that sealing adds (SP 800-38A section 6, SP 800-38D section 7); nothing for a mac
unfoldable pub raw : Plan → List ℕ → List ℕ → List ℕ → List ℕ
raw (Gcm seal tag) key nonce text = gcm.raw (cipher key) nonce text
raw (HmacSign digest size) key nonce text = []
raw (HmacVerify digest least) key nonce text = []
raw plan key nonce text = modes.raw (cipher key) (inverse_cipher key) plan (first_block plan nonce) text

-- how many bytes are out after a text where nothing is kept back for a use limit: its length alone decides
unfoldable pub full_front : Plan → List ℕ → ℕ
full_front (Gcm true tag) text = length text
full_front (Gcm false tag) text = length text - tag
full_front (HmacSign digest size) text = 0
full_front (HmacVerify digest least) text = 0
full_front plan text = modes.front plan text

-- how many bytes are out after a text: none under a key with a use limit
abbrev pub front : Plan → Bool → List ℕ → ℕ
front plan true text = 0
front plan false text = full_front plan text

-- why a text in a mode of blocks has no output: a padding that is none; the length is tested before any work
abbrev pub mode_code : ModeFault → Code
mode_code Padding = InvalidKeyArgument
mode_code Length = InvalidInputLength

abbrev pub coded : Result (List ℕ) ModeFault → Result (List ℕ) Code
coded (Ok bytes) = Ok bytes
coded (Err fault) = Err (mode_code fault)

-- the signature has from `least` bytes to the digest's, and they are the leftmost of the mac
abbrev pub is_signature : ℕ → ℕ → List ℕ → List ℕ → Bool
is_signature digest least mac signature =
    nat_le least (length signature) && nat_le (length signature) (digest_size digest) && bytes_eq signature (take (length signature) mac)

-- a verification gives no bytes, or fails, as it does without a signature
abbrev pub verified : ℕ → ℕ → List ℕ → Option (List ℕ) → Result (List ℕ) Code
verified digest least mac None = Err VerificationFailed
verified digest least mac (Some signature) = if is_signature digest least mac signature then Ok [] else Err VerificationFailed

-- all output of an operation, or the code of its failure (SP 800-38A, RFC 5652 section 6.3, SP 800-38D, FIPS 198-1)
unfoldable pub whole : Plan → List ℕ → List ℕ → List ℕ → List ℕ → Option (List ℕ) → Result (List ℕ) Code
whole (Gcm true tag) key nonce aad text signature = Ok (gcm_seal (cipher key) nonce tag aad text)
whole (Gcm false tag) key nonce aad text signature = ok_or (gcm_open (cipher key) nonce tag aad text) VerificationFailed
whole (HmacSign digest size) key nonce aad text signature = Ok (take size (hmac digest key text))
whole (HmacVerify digest least) key nonce aad text signature = verified digest least (hmac digest key text) signature
whole plan key nonce aad text signature = coded (modes.whole (cipher key) (inverse_cipher key) plan (first_block plan nonce) text)

-- the output of an update from text a to text b: the bytes of `raw` of b from the front of a up to the front of b
abbrev pub update_output : Plan → Bool → (key nonce a b : List ℕ) → List ℕ
update_output plan limited key nonce a b = drop (front plan limited a) (take (front plan limited b) (raw plan key nonce b))

-- what stands behind the first n bytes of some output, or the code
abbrev pub behind : ℕ → Result (List ℕ) Code → Result (List ℕ) Code
behind n (Ok bytes) = Ok (drop n bytes)
behind n (Err code) = Err code

-- the output of a finish from text a to text b: the bytes after the front of a, or the code
abbrev pub finish_output : Plan → Bool → (key nonce aad a b : List ℕ) → Option (List ℕ) → Result (List ℕ) Code
finish_output plan limited key nonce aad a b signature = behind (front plan limited a) (whole plan key nonce aad b signature)
