-- What lasts until the next restart: after an entry that leaves it as it is, or changes it.
use Rattle.std.proofs.Common.{◌≡◌, ℕ, Bool, false, List, ◌∷◌, Option, Some, None, refl, sym, ap, ◌∙◌}
use Rattle.std.specs.Option.{option_map_or}
use Rattle.std.specs.List.{list_any}
use Rattle.tags.specs.declared.param.Param.{Param}
use Rattle.auth_tokens.specs.declared.token.AuthToken.{AuthToken}
use Rattle.token_store.specs.Fitting.{opens}
use Rattle.rule_model.specs.declared.entry.Entry.TheVariants.{Acted}
use Rattle.rule_model.specs.declared.event.Event.{Event}
use Rattle.rule_model.specs.declared.facts.Caller.{Caller}
use Rattle.rule_model.specs.declared.reply.Reply.{Reply}
use Rattle.rule_model.specs.BeginFacts.{BeginKey}
use Rattle.rule_model.specs.Blobs.{list_read}
use Rattle.rule_model.specs.declared.entry_change.BootChange.{BootChange}
use Rattle.rule_model.specs.declared.entry_change.BootChange.TheVariants.{SameBoot as NoBoot}
use Rattle.rule_model.specs.Boot.{begins_after, begins_of, boot_change, early_after, has_early_ended, is_unlocked, last_tokens, begins_on, tokens_after, unlocked_after}
use Rattle.rule_model.specs.Entries.{History}
use Rattle.rule_model.specs.Setup.{Setup}
use Rattle.rule_model.specs.Slots.{conditions_on}
use Rattle.live_tables.specs.declared.boot.Boot.{Boot}
use Rattle.live_tables.specs.Begins.{ChangesBegins, begins_in}
use Rattle.live_tables.specs.Boot.{BootStands, SameBoot, conditions_in}
use Rattle.live_tables.specs.Device.{ChangesDevice, early_in, unlocked_in}
use Rattle.live_tables.specs.Tokens.{ChangesTokens, tokens_in}

pub same_boot : (boot : Boot) → SameBoot boot boot
same_boot boot = record { device = refl; tokens = record { tokens = refl; key = refl }; begins = λ key. refl }

pub same_boot_twice : (old middle new : Boot) → SameBoot old middle → SameBoot middle new → SameBoot old new
same_boot_twice old middle new first second = record {
  device = second.device ∙ first.device;
  tokens = record { tokens = second.tokens.tokens ∙ first.tokens.tokens; key = second.tokens.key ∙ first.tokens.key };
  begins = λ key. second.begins key ∙ first.begins key;
}

-- it stands for as many entries more as leave it
pub boot_still : (setup : Setup) (past : History) (old new : Boot) → BootStands setup old past → SameBoot old new → BootStands setup new past
boot_still setup past old new stands same = record {
  device = record {
    users = λ user. ap (λ device. unlocked_in device user) same.device ∙ stands.device.users user;
    early = ap early_in same.device ∙ stands.device.early;
  };
  tokens = record { tokens_are = same.tokens.tokens ∙ stands.tokens.tokens_are; key_is = same.tokens.key ∙ stands.tokens.key_is };
  begins = λ key. same.begins key ∙ stands.begins key;
}

module _ (setup : Setup) (past : History) (event : Event) (drawn : List ℕ) (reply : Reply) where
  -- an entry that changes it so
  pub boot_after : (change : BootChange) (old new : Boot) → BootStands setup old past → boot_change setup past event reply ≡ change → ChangesDevice change old.device new.device
      → ChangesTokens change old.tokens new.tokens → ChangesBegins change old.begins new.begins → BootStands setup new (Acted event drawn reply ∷ past)
  boot_after change old new stands is device tokens begins = record {
    device = record {
      users = λ user. device.users user ∙ ap (unlocked_after change user) (stands.device.users user) ∙ sym (ap (λ c. unlocked_after c user (is_unlocked setup past user)) is);
      early = device.early ∙ ap (early_after change) stands.device.early ∙ sym (ap (λ c. early_after c (has_early_ended setup past)) is);
    };
    tokens = record {
      tokens_are = tokens.tokens ∙ ap (tokens_after change) stands.tokens.tokens_are ∙ sym (ap (λ c. tokens_after c (last_tokens setup past)) is);
      key_is = tokens.key ∙ stands.tokens.key_is;
    };
    begins = λ key. begins key ∙ ap (begins_after change key) (stands.begins key) ∙ sym (ap (λ c. begins_after c key (begins_of setup past key)) is);
  }

  pub boot_stays : (old new : Boot) → BootStands setup old past → SameBoot old new → boot_change setup past event reply ≡ NoBoot → BootStands setup new (Acted event drawn reply ∷ past)
  boot_stays old new stands same none = boot_after NoBoot old new stands none
      (record { users = λ user. ap (λ device. unlocked_in device user) same.device; early = ap early_in same.device })
      (record { tokens = same.tokens.tokens; key = same.tokens.key })
      same.begins

-- the conditions that the tables tell are those of the history
module _ (setup : Setup) (past : History) (boot : Boot) (stands : BootStands setup boot past) (caller : Caller) where
  timely_is : (opened : Option (List Param))
      → option_map_or (λ list. list_any (λ token. opens list caller.reading.boot token) (tokens_in boot.tokens)) opened false
      ≡ option_map_or (λ list. list_any (λ token. opens list caller.reading.boot token) (last_tokens setup past)) opened false
  timely_is None = refl
  timely_is (Some list) = ap (list_any (λ token. opens list caller.reading.boot token)) stands.tokens.tokens_are

  begins_are : (id : Option ℕ) → option_map_or (begins_in boot.begins) id 0 ≡ option_map_or (begins_of setup past) id 0
  begins_are None = refl
  begins_are (Some id) = stands.begins id

  pub conditions_are : (key : BeginKey) (list : Option (List Param)) (id : Option ℕ) (told room : Bool) → list ≡ list_read key.opened → id ≡ key.id → told ≡ room
      → conditions_in boot caller list id told ≡ conditions_on setup past caller key room
  conditions_are key list id told room list_is id_is is = rw (
    list_is,
    id_is,
    stands.device.early,
    stands.device.users (Rattle.rule_model.specs.Access.user_of caller),
    timely_is (list_read key.opened),
    begins_are key.id,
    is,
  ) refl

-- a begin on a key, stored or not, moves nothing but the begins
pub begun_users : (id : Option ℕ) (user : ℕ) (before : Bool) → unlocked_after (begins_on id) user before ≡ before
begun_users None user before = refl
begun_users (Some id) user before = refl

pub begun_early : (id : Option ℕ) (before : Bool) → early_after (begins_on id) before ≡ before
begun_early None before = refl
begun_early (Some id) before = refl

pub begun_tokens : (id : Option ℕ) (before : List AuthToken) → tokens_after (begins_on id) before ≡ before
begun_tokens None before = refl
begun_tokens (Some id) before = refl
