-- The tokens that calls hand in.
use Rattle.std.specs.Prelude.{ℕ, List}
use Rattle.auth_tokens.specs.declared.token.AuthToken.{AuthToken}

-- the token of a call (the fields of Android's HardwareAuthToken)
abbrev pub token_of : ℕ → ℕ → ℕ → ℕ → ℕ → List ℕ → AuthToken
token_of challenge user authenticator kind time mac =
    record { challenge = challenge; user = user; authenticator = authenticator; kind = kind; time = time; mac = mac }
