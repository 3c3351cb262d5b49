-- What lasts until the next restart: three tables, each with its own words.
use Rattle.std.specs.Prelude.{◌≡◌, ℕ, Bool, false, List, [], Option}
use Rattle.std.specs.List.{list_any}
use Rattle.std.specs.Option.{option_map_or}
use Rattle.tags.specs.declared.param.Param.{Param}
use Rattle.token_store.specs.Fitting.{opens}
use Rattle.rule_model.specs.declared.facts.Caller.{Caller}
use Rattle.rule_model.specs.declared.facts.Conditions.{Conditions}
use Rattle.rule_model.specs.Access.{user_of}
use Rattle.rule_model.specs.Entries.{History}
use Rattle.rule_model.specs.Setup.{Setup}
use Rattle.live_tables.specs.declared.boot.Boot.{Boot}
use Rattle.rule_model.specs.declared.entry_change.BootChange.TheVariants.{StartsAgain}
use Rattle.live_tables.specs.Begins.{BeginsStand, ChangesBegins, SameBegins, begins_in}
use Rattle.live_tables.specs.Device.{ChangesDevice, DeviceStands, IsStart, early_in, unlocked_in}
use Rattle.live_tables.specs.Tokens.{ChangesTokens, SameTokens, TokensStand, token_key_in, tokens_in}

-- the start of a device with this key for the macs of tokens
pub record IsStartOf (key : List ℕ) (boot : Boot) : Type 0 where
  pub device : IsStart boot.device
  pub key_is : token_key_in boot.tokens ≡ key
  pub tokens : tokens_in boot.tokens ≡ []
  pub begins : (id : ℕ) → begins_in boot.begins id ≡ 0

pub record SameBoot (old new : Boot) : Type 0 where
  pub device : new.device ≡ old.device
  pub tokens : SameTokens old.tokens new.tokens
  pub begins : SameBegins old.begins new.begins

-- the device starts again
pub record Restarts (old new : Boot) : Type 0 where
  pub device : ChangesDevice StartsAgain old.device new.device
  pub tokens : ChangesTokens StartsAgain old.tokens new.tokens
  pub begins : ChangesBegins StartsAgain old.begins new.begins

-- the three stand for a history
pub record BootStands (setup : Setup) (boot : Boot) (past : History) : Type 0 where
  pub device : DeviceStands setup boot.device past
  pub tokens : TokensStand setup boot.tokens past
  pub begins : BeginsStand setup boot.begins past

-- the conditions of a caller's begin on a key of this list, and of this number where it is stored
abbrev pub conditions_in : Boot → Caller → Option (List Param) → Option ℕ → Bool → Conditions
conditions_in boot caller list id room = record {
  early_ended = early_in boot.device;
  unlocked = unlocked_in boot.device (user_of caller);
  timely = option_map_or (λ list. list_any (λ token. opens list caller.reading.boot token) (tokens_in boot.tokens)) list false;
  begins = option_map_or (begins_in boot.begins) id 0;
  room = room;
}
