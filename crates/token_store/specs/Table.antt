-- The last tokens as callers see them: what a look-up of a triple finds, and what a change is.
use Rattle.std.specs.Prelude.{◌≡◌, ◌≤◌, ℕ, Bool, true, not, ◌==◌, ◌&&◌, List, [], ◌∷◌, ◌++◌, Option, Some, None, find, filter, length, is_some, if◌then◌else◌, ⊤}
use Rattle.std.specs.List.{list_any}
use Rattle.tags.specs.declared.param.Param.{Param}
use Rattle.auth_tokens.specs.declared.token.AuthToken.{AuthToken}
use Rattle.token_store.specs.Fitting.{opens}
use Rattle.tags.specs.declared.limits.TheConstants.{MOST_TRIPLES}

-- the token is of this triple of user, authenticator and kind
abbrev pub is_of : ℕ → ℕ → ℕ → AuthToken → Bool
is_of user authenticator kind token =
    (token.user == user) && ((token.authenticator == authenticator) && (token.kind == kind))

-- the other token is of the token's triple
abbrev pub is_like : AuthToken → AuthToken → Bool
is_like token other = is_of token.user token.authenticator token.kind other

-- the last token of a triple
abbrev pub last_of : List AuthToken → ℕ → ℕ → ℕ → Option AuthToken
last_of tokens user authenticator kind = find (is_of user authenticator kind) tokens

-- the token is the last of its triple
abbrev pub IsLast : List AuthToken → AuthToken → Type 0
IsLast tokens token = last_of tokens token.user token.authenticator token.kind ≡ Some token

-- no token of this one's triple is held
abbrev pub IsNew : List AuthToken → AuthToken → Type 0
IsNew tokens token = last_of tokens token.user token.authenticator token.kind ≡ None

-- whether one of its triple is held
abbrev pub is_held : List AuthToken → AuthToken → Bool
is_held tokens token = is_some (last_of tokens token.user token.authenticator token.kind)

-- how many triples have a token
abbrev pub triple_count : List AuthToken → ℕ
triple_count tokens = length tokens

-- the tokens of the triples other than this one's
abbrev pub others_of : List AuthToken → AuthToken → List AuthToken
others_of tokens token = filter (λ other. not (is_like token other)) tokens

-- how many triples other than this token's have a token
abbrev pub other_triples : List AuthToken → AuthToken → ℕ
other_triples tokens token = length (others_of tokens token)

-- each triple has one token
abbrev pub IsEachOnce : List AuthToken → Type 0
IsEachOnce [] = ⊤
IsEachOnce (token ∷ tokens) = IsNew tokens token × IsEachOnce tokens

-- each triple has one token, and there are no more than there is room for
pub record IsSound (tokens : List AuthToken) : Type 0 where
  pub once : IsEachOnce tokens
  pub few : triple_count tokens ≤ MOST_TRIPLES

-- no triple has a token
abbrev pub IsEmpty : List AuthToken → Type 0
IsEmpty tokens = tokens ≡ []

-- every triple has the token that it had
abbrev pub SameTokens : List AuthToken → List AuthToken → Type 0
SameTokens old new = new ≡ old

-- the token is its triple's, behind those of the other triples, which keep theirs
abbrev pub with_last : List AuthToken → AuthToken → List AuthToken
with_last tokens token = others_of tokens token ++ token ∷ []

abbrev pub AddsToken : List AuthToken → List AuthToken → AuthToken → Type 0
AddsToken old new token = new ≡ with_last old token

-- what a look-up finds then: at the token's triple the token, and elsewhere what it found before
abbrev pub FindsAdded : List AuthToken → List AuthToken → AuthToken → Type 0
FindsAdded old new token = (user authenticator kind : ℕ) →
    last_of new user authenticator kind ≡ (if is_of user authenticator kind token then Some token else last_of old user authenticator kind)

-- what a look-up finds in no tokens
abbrev pub FindsNone : List AuthToken → Type 0
FindsNone tokens = (user authenticator kind : ℕ) → last_of tokens user authenticator kind ≡ None

-- one of the last tokens opens the key at this reading
abbrev pub is_timely : List AuthToken → List Param → ℕ → Bool
is_timely tokens key boot = list_any (opens key boot) tokens

-- the last token of some triple opens the key at this reading
abbrev pub IsTimely : List AuthToken → List Param → ℕ → Type 0
IsTimely tokens key boot = (token : AuthToken) × IsLast tokens token × (opens key boot token ≡ true)
