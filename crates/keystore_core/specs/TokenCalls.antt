-- A token that the system hands over.
use Rattle.std.specs.Prelude.{◌≡◌}
use Rattle.auth_tokens.specs.declared.token.AuthToken.{AuthToken}
use Rattle.rule_model.specs.declared.event.Act.{Act}
use Rattle.rule_model.specs.declared.event.Act.TheVariants.{AddAuthToken}
use Rattle.rule_model.specs.declared.entry_change.BootChange.TheVariants.{Accepts}
use Rattle.keystore_core.specs.declared.tables.Tables.{Tables}
use Rattle.live_tables.specs.Operations.{ShowsRows}
use Rattle.live_tables.specs.Tokens.{ChangesTokens, SameTokens}

-- the act that hands a token over
abbrev pub adding : AuthToken → Act
adding token = AddAuthToken token.challenge token.user token.authenticator token.kind token.time token.mac

-- a token is the last of its triple, and is shown to the operations that it is for
pub record AcceptsToken (token : AuthToken) (old new : Tables) : Type 0 where
  pub clients : new.clients ≡ old.clients
  pub secrets : new.device ≡ old.device
  pub policy : new.policy ≡ old.policy
  pub keys : new.keys ≡ old.keys
  pub rows : ShowsRows token old.operations new.operations
  pub slots : new.slots ≡ old.slots
  pub tickets : new.tickets ≡ old.tickets
  pub device : new.boot.device ≡ old.boot.device
  pub tokens : ChangesTokens (Accepts token) old.boot.tokens new.boot.tokens
  pub begins : new.boot.begins ≡ old.boot.begins

-- there is no place for it: the tables are as they were
pub record RefusesToken (old new : Tables) : Type 0 where
  pub clients : new.clients ≡ old.clients
  pub secrets : new.device ≡ old.device
  pub policy : new.policy ≡ old.policy
  pub keys : new.keys ≡ old.keys
  pub operations : new.operations ≡ old.operations
  pub slots : new.slots ≡ old.slots
  pub tickets : new.tickets ≡ old.tickets
  pub device : new.boot.device ≡ old.boot.device
  pub tokens : SameTokens old.boot.tokens new.boot.tokens
  pub begins : new.boot.begins ≡ old.boot.begins
