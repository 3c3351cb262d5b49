-- What is read of the text under a token's mac.
use Rattle.std.proofs.Common.{◌<◌, ◌^◌, [], ◌++◌, refl}
use Rattle.byteorder.specs.Endian.{big_bytes, little_bytes}
use Rattle.byteorder.specs.Numbers.{big_number-reads_back, little_number-reads_back}
use Rattle.auth_tokens.specs.declared.token.AuthToken.{AuthToken}
use Rattle.auth_tokens.specs.Mac.{mac_text, HasFields}

-- the fields are numbers of their widths
pub record IsInRange (t : AuthToken) : Type 0 where
  pub challenge : t.challenge < 2 ^ 64
  pub user : t.user < 2 ^ 64
  pub authenticator : t.authenticator < 2 ^ 64
  pub kind : t.kind < 2 ^ 32
  pub time : t.time < 2 ^ 64

pub text_has_fields : (t : AuthToken) → IsInRange t → HasFields (mac_text t) t
text_has_fields t h = record {
  version = refl;
  challenge = little_number-reads_back 8 t.challenge (little_bytes 8 t.user ++ little_bytes 8 t.authenticator ++ big_bytes 4 t.kind ++ big_bytes 8 t.time) h.challenge;
  user = little_number-reads_back 8 t.user (little_bytes 8 t.authenticator ++ big_bytes 4 t.kind ++ big_bytes 8 t.time) h.user;
  authenticator = little_number-reads_back 8 t.authenticator (big_bytes 4 t.kind ++ big_bytes 8 t.time) h.authenticator;
  kind = big_number-reads_back 4 t.kind (big_bytes 8 t.time) h.kind;
  time = big_number-reads_back 8 t.time [] h.time;
}
