-- What a keyed state stands for: the text taken so far, under its key.
use Rattle.std.specs.Prelude.{◌≡◌, ℕ, List, ◌++◌}
use Rattle.sha2.specs.Hashers.{Holds224, Holds256, Holds384, Holds512}
use Rattle.sha2.specs.Sha256.{sha224, sha256}
use Rattle.sha2.specs.Sha512.{sha384, sha512}
use Rattle.hmac_core.specs.Hmac.{inner_key, outer_key}
use Rattle.hmac_core.specs.declared.keyed.Keyed.{Keyed}
use Rattle.hmac_core.specs.declared.mac.Hmac.{Hmac}
use Rattle.hmac_core.specs.declared.mac.State.{State}
use Rattle.hmac_core.specs.declared.mac.State.TheVariants.{Sha224, Sha256, Sha384, Sha512}

-- the two hashers hold the keys of FIPS 198-1, the inner one with the text behind it
pub record IsKeyed {D : Type 0} (holds : D → List ℕ → Type 0) (hash : List ℕ → List ℕ) (block : ℕ) (state : Keyed D) (key text : List ℕ) : Type 0 where
  pub inner : holds state.inner (inner_key hash block key ++ text)
  pub outer : holds state.outer (outer_key hash block key)

-- the state took this text under this key, by the hash function of this digest number
abbrev pub StateHolds : State → ℕ → List ℕ → List ℕ → Type 0
StateHolds (Sha224 s) digest key text = (digest ≡ 3) × IsKeyed Holds224 sha224 64 s key text
StateHolds (Sha256 s) digest key text = (digest ≡ 4) × IsKeyed Holds256 sha256 64 s key text
StateHolds (Sha384 s) digest key text = (digest ≡ 5) × IsKeyed Holds384 sha384 128 s key text
StateHolds (Sha512 s) digest key text = (digest ≡ 6) × IsKeyed Holds512 sha512 128 s key text

-- the code took this text under this key, by the hash function of this digest number
abbrev pub Holds : Hmac → ℕ → List ℕ → List ℕ → Type 0
Holds hmac digest key text = StateHolds hmac.state digest key text
