-- The mac of an authentication token.
use Rattle.std.specs.Prelude.{◌≡◌, ℕ, List, ◌∷◌, ◌++◌, drop, slice_get, Some}
use Rattle.byteorder.specs.Endian.{big_bytes, big_number, little_bytes, little_number}
use Rattle.hmac_core.specs.Hmac.{hmac}
use Rattle.auth_tokens.specs.declared.token.AuthToken.{AuthToken}

-- the 37 bytes under the mac: the version 0, three numbers of 64 bits with the lowest byte first, and a number of 32 and one
-- of 64 bits with the highest byte first (the fields of Android's HardwareAuthToken, in its order)
abbrev pub mac_text : AuthToken → List ℕ
mac_text token =
    0 ∷ little_bytes 8 token.challenge
    ++ little_bytes 8 token.user
    ++ little_bytes 8 token.authenticator
    ++ big_bytes 4 token.kind
    ++ big_bytes 8 token.time

-- each field is read at a place of its own, so no two tokens that differ in a field have one text
pub record HasFields (text : List ℕ) (token : AuthToken) : Type 0 where
  pub version : slice_get text 0 ≡ Some 0
  pub challenge : little_number 8 (drop 1 text) ≡ token.challenge
  pub user : little_number 8 (drop 9 text) ≡ token.user
  pub authenticator : little_number 8 (drop 17 text) ≡ token.authenticator
  pub kind : big_number 4 (drop 25 text) ≡ token.kind
  pub time : big_number 8 (drop 29 text) ≡ token.time

-- the mac that a token is to have, under the key that the authenticators share with the service: HMAC-SHA256 (FIPS 198-1
-- over FIPS 180-4) of the text
abbrev pub token_mac : List ℕ → AuthToken → List ℕ
token_mac key token = hmac 4 key (mac_text token)
