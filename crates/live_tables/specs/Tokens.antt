-- The table of the last tokens: what is in it, and what a change of it is.
use Rattle.std.specs.Prelude.{◌≡◌, ℕ, List}
use Rattle.auth_tokens.specs.declared.token.AuthToken.{AuthToken}
use Rattle.rule_model.specs.declared.entry_change.BootChange.{BootChange}
use Rattle.rule_model.specs.Boot.{last_tokens, tokens_after}
use Rattle.rule_model.specs.Entries.{History}
use Rattle.rule_model.specs.Setup.{Setup}
use Rattle.live_tables.specs.declared.tokens.Tokens.{Tokens}

-- the last token of each triple
abbrev pub tokens_in : Tokens → List AuthToken
tokens_in tokens = tokens.store

-- the key under which a token's mac is right
abbrev pub token_key_in : Tokens → List ℕ
token_key_in tokens = tokens.key

-- a token is accepted
pub record ChangesTokens (change : BootChange) (old new : Tokens) : Type 0 where
  pub tokens : tokens_in new ≡ tokens_after change (tokens_in old)
  pub key : token_key_in new ≡ token_key_in old

pub record SameTokens (old new : Tokens) : Type 0 where
  pub tokens : tokens_in new ≡ tokens_in old
  pub key : token_key_in new ≡ token_key_in old

-- the table stands for a history
pub record TokensStand (setup : Setup) (tokens : Tokens) (past : History) : Type 0 where
  pub tokens_are : tokens_in tokens ≡ last_tokens setup past
  pub key_is : token_key_in tokens ≡ setup.device.token
