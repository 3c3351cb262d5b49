-- When an authentication token opens a key (the tags of Android's KeyMint of these names).
use Rattle.std.specs.Prelude.{ℕ, ◌-◌, ◌*◌, ◌==◌, Bool, not, ◌&&◌, ◌||◌, nat_le, bit_and, unwrap_or, List}
use Rattle.tags.specs.declared.tag.Tag.TheVariants.{UserSecureId, UserAuthType, AuthTimeout}
use Rattle.tags.specs.declared.param.Param.{Param}
use Rattle.tags.specs.Values.{passes}
use Rattle.tag_lists.specs.Lookups.{has_number, number_of}
use Rattle.auth_tokens.specs.declared.token.AuthToken.{AuthToken}

-- the token's user or its authenticator is one of those that the key asks for
abbrev pub is_of_user : List Param → AuthToken → Bool
is_of_user key token = has_number UserSecureId token.user key || has_number UserSecureId token.authenticator key

-- each kind of authenticator
abbrev pub every_kind : ℕ
every_kind = 4294967295

-- the kinds that the key takes: every one where USER_AUTH_TYPE is not there
abbrev pub kinds_of : List Param → ℕ
kinds_of key = unwrap_or (number_of UserAuthType key) every_kind

-- the token's kind has a bit in common with the kinds that the key takes
abbrev pub is_of_kind : List Param → AuthToken → Bool
is_of_kind key token = not (bit_and (kinds_of key) token.kind == 0)

-- the token fits the key, whether it is shown to an operation or one of the last tokens
abbrev pub fits : List Param → AuthToken → Bool
fits key token = is_of_user key token && is_of_kind key token

-- the token is no later than this reading, and at most so many seconds old; readings and times are milliseconds
abbrev pub is_recent : ℕ → ℕ → AuthToken → Bool
is_recent seconds boot token = nat_le token.time boot && nat_le (boot - token.time) (1000 * seconds)

-- the token fits the key, and is no older than the key's timeout at this reading
abbrev pub opens : List Param → ℕ → AuthToken → Bool
opens key boot token = passes (λ seconds. is_recent seconds boot token) (number_of AuthTimeout key) && fits key token
