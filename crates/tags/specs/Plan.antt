-- What a plan asks of the key, of the nonce and of lengths.
use Rattle.std.specs.Prelude.{◌≡◌, ℕ, ◌*◌, ◌%◌, ◌≤◌, Bool, true, false, ◌&&◌, ◌||◌, ◌==◌, nat_le, List, length, ⊤}
use Rattle.tags.specs.declared.plan.Plan.{Plan}
use Rattle.tags.specs.declared.plan.Plan.TheVariants.{Ecb, Cbc, Ctr, Gcm, HmacSign, HmacVerify}
use Rattle.tags.specs.Values.{digest_bits}

-- the bytes of an AES key (FIPS 197 section 5)
abbrev pub is_aes_size : ℕ → Bool
is_aes_size size = size == 16 || size == 24 || size == 32

-- a key of so many bytes serves the plan: HMAC takes any
abbrev pub takes_key : Plan → ℕ → Bool
takes_key (Ecb seal padded) size = is_aes_size size
takes_key (Cbc seal padded) size = is_aes_size size
takes_key Ctr size = is_aes_size size
takes_key (Gcm seal tag) size = is_aes_size size
takes_key (HmacSign digest n) size = true
takes_key (HmacVerify digest least) size = true

-- The numbers of a plan are those of the standards: a GCM tag of 12 to 16 bytes (SP 800-38D section 5.2.1.2), a digest of
-- SHA-2 (FIPS 180-4), and a mac that is no longer than it.
abbrev pub IsWorkable : Plan → Type 0
IsWorkable (Ecb seal padded) = ⊤
IsWorkable (Cbc seal padded) = ⊤
IsWorkable Ctr = ⊤
IsWorkable (Gcm seal tag) = (12 ≤ tag) × (tag ≤ 16)
IsWorkable (HmacSign digest size) = (3 ≤ digest) × (digest ≤ 6) × (8 * size ≤ digest_bits digest)
IsWorkable (HmacVerify digest least) = (3 ≤ digest) × (digest ≤ 6)

-- the bytes of a plan's nonce: a block for CBC and CTR (SP 800-38A section 5.3), and 12 for GCM (SP 800-38D section 5.2.1.1)
abbrev pub nonce_bytes : Plan → ℕ
nonce_bytes (Ecb seal padded) = 0
nonce_bytes (Cbc seal padded) = 16
nonce_bytes Ctr = 16
nonce_bytes (Gcm seal tag) = 12
nonce_bytes (HmacSign digest size) = 0
nonce_bytes (HmacVerify digest least) = 0

-- the nonce serves the plan: one that has none looks at none
abbrev pub TakesNonce : Plan → List ℕ → Type 0
TakesNonce (Ecb seal padded) nonce = ⊤
TakesNonce (Cbc seal padded) nonce = length nonce ≡ 16
TakesNonce Ctr nonce = length nonce ≡ 16
TakesNonce (Gcm seal tag) nonce = length nonce ≡ 12
TakesNonce (HmacSign digest size) nonce = ⊤
TakesNonce (HmacVerify digest least) nonce = ⊤

-- an operation of the plan may begin with this key and this nonce
pub record Fits (plan : Plan) (key nonce : List ℕ) : Type 0 where
  pub works : IsWorkable plan
  pub key_is : takes_key plan (length key) ≡ true
  pub nonce_is : TakesNonce plan nonce

-- GCM alone takes additional data
abbrev pub takes_aad : Plan → Bool
takes_aad (Gcm seal tag) = true
takes_aad _ = false

-- The lengths that a whole text of ECB and CBC may have, by whether it is sealed and whether it is padded: any to be padded;
-- whole blocks, and at least one where a padding is to be taken off.
abbrev pub is_whole : Bool → Bool → ℕ → Bool
is_whole true true size = true
is_whole false true size = size % 16 == 0 && nat_le 16 size
is_whole seal false size = size % 16 == 0

-- the lengths that a whole text may have: those of its blocks, and at least the tag where GCM opens
abbrev pub may_end : Plan → ℕ → Bool
may_end (Ecb seal padded) size = is_whole seal padded size
may_end (Cbc seal padded) size = is_whole seal padded size
may_end (Gcm false tag) size = nat_le tag size
may_end _ size = true
