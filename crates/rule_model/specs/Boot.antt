-- What lasts until the next restart: the state of the device, the last tokens, and the begins on each key.
use Rattle.std.specs.Prelude.{ℕ, ◌+◌, ◌==◌, Bool, true, false, ◌&&◌, not, List, [], ◌∷◌, ◌++◌, Option, Some, None, if◌then◌else◌, filter}
use Rattle.std.specs.List.{list_any}
use Rattle.tags.specs.declared.param.Param.{Param}
use Rattle.auth_tokens.specs.declared.token.AuthToken.{AuthToken}
use Rattle.token_store.specs.Fitting.{opens}
use Rattle.rule_model.specs.declared.entry.Entry.TheVariants.{Acted, Settling}
use Rattle.rule_model.specs.declared.entry_change.BootChange.{BootChange}
use Rattle.rule_model.specs.declared.entry_change.BootChange.TheVariants.{SameBoot, Locks, Unlocks, EndsEarlyBoot, Accepts, BeginsOn, StartsAgain}
use Rattle.rule_model.specs.declared.event.Event.{Event}
use Rattle.rule_model.specs.declared.event.Act.{Act}
use Rattle.rule_model.specs.declared.event.Act.TheVariants.{CreateOperation, AddAuthToken, DeviceLocked, DeviceUnlocked, EarlyBootEnded, Restart}
use Rattle.rule_model.specs.declared.facts.Caller.{Caller}
use Rattle.rule_model.specs.declared.reply.Reply.{Reply}
use Rattle.rule_model.specs.declared.reply.Reply.TheVariants.{Done, Broken, Stopped}
use Rattle.rule_model.specs.Access.{id_of}
use Rattle.rule_model.specs.Clients.{caller_of}
use Rattle.rule_model.specs.Entries.{History}
use Rattle.rule_model.specs.Kept.{key_found}
use Rattle.rule_model.specs.Setup.{Setup}
use Rattle.rule_model.specs.Tokens.{token_of}

-- a begin on a stored key counts for that key; one on a blob that was handed in counts for none
abbrev pub begins_on : Option ℕ → BootChange
begins_on None = SameBoot
begins_on (Some id) = BeginsOn id

-- a begin counts for the key that its descriptor found then, by the key's number
abbrev pub admitted_boot : Act → Setup → History → Caller → BootChange
admitted_boot (CreateOperation key params forced) setup past caller = begins_on (id_of (key_found setup past caller key))
admitted_boot (AddAuthToken challenge user authenticator kind time mac) setup past caller = Accepts (token_of challenge user authenticator kind time mac)
admitted_boot (DeviceLocked user) setup past caller = Locks user
admitted_boot (DeviceUnlocked user) setup past caller = Unlocks user
admitted_boot EarlyBootEnded setup past caller = EndsEarlyBoot
admitted_boot (Restart root) setup past caller = StartsAgain
admitted_boot _ setup past caller = SameBoot

-- only an admitted call changes what lasts until the next restart
abbrev pub boot_change : Setup → History → Event → Reply → BootChange
boot_change setup past event (Done fields) = admitted_boot event.act setup past (caller_of past event)
boot_change setup past event (Broken rule code) = SameBoot
boot_change setup past event (Stopped code) = SameBoot

-- ---- the state of the device

-- a user is unlocked from an unlocking on, until a locking or a restart
abbrev pub unlocked_after : BootChange → ℕ → Bool → Bool
unlocked_after (Locks locked) user before = if locked == user then false else before
unlocked_after (Unlocks unlocked) user before = if unlocked == user then true else before
unlocked_after StartsAgain user before = false
unlocked_after _ user before = before

-- whether a user is unlocked: one that was never unlocked since the last restart is locked
abbrev pub is_unlocked : Setup → History → ℕ → Bool
is_unlocked setup [] user = false
is_unlocked setup (Settling settled ∷ past) user = is_unlocked setup past user
is_unlocked setup (Acted event drawn reply ∷ past) user = unlocked_after (boot_change setup past event reply) user (is_unlocked setup past user)

-- early boot has ended from its end on, until a restart
abbrev pub early_after : BootChange → Bool → Bool
early_after EndsEarlyBoot before = true
early_after StartsAgain before = false
early_after _ before = before

-- whether early boot has ended since the last restart
abbrev pub has_early_ended : Setup → History → Bool
has_early_ended setup [] = false
has_early_ended setup (Settling settled ∷ past) = has_early_ended setup past
has_early_ended setup (Acted event drawn reply ∷ past) = early_after (boot_change setup past event reply) (has_early_ended setup past)

-- ---- the last tokens

-- two tokens are of one triple of user, authenticator and kind
abbrev pub is_like : AuthToken → AuthToken → Bool
is_like token other = (other.user == token.user) && ((other.authenticator == token.authenticator) && (other.kind == token.kind))

-- the tokens of the triples other than this one's
abbrev pub other_triples : AuthToken → List AuthToken → List AuthToken
other_triples token tokens = filter (λ other. not (is_like token other)) tokens

-- a token takes the place of the last one of its triple
abbrev pub tokens_after : BootChange → List AuthToken → List AuthToken
tokens_after (Accepts token) before = other_triples token before ++ token ∷ []
tokens_after StartsAgain before = []
tokens_after _ before = before

-- the last token of each triple that was accepted since the last restart, the oldest first
abbrev pub last_tokens : Setup → History → List AuthToken
last_tokens setup [] = []
last_tokens setup (Settling settled ∷ past) = last_tokens setup past
last_tokens setup (Acted event drawn reply ∷ past) = tokens_after (boot_change setup past event reply) (last_tokens setup past)

-- one of them fits the key of a list and is no older than its AUTH_TIMEOUT at this reading
abbrev pub is_timely : Setup → History → List Param → ℕ → Bool
is_timely setup past key boot = list_any (λ token. opens key boot token) (last_tokens setup past)

-- ---- the begins on a key

-- how many begins on a key there were since the last restart, after one more entry
abbrev pub begins_after : BootChange → ℕ → ℕ → ℕ
begins_after (BeginsOn key) id before = if key == id then before + 1 else before
begins_after StartsAgain id before = 0
begins_after _ id before = before

-- how many begins on the key of a number were admitted since the last restart
abbrev pub begins_of : Setup → History → ℕ → ℕ
begins_of setup [] id = 0
begins_of setup (Settling settled ∷ past) id = begins_of setup past id
begins_of setup (Acted event drawn reply ∷ past) id = begins_after (boot_change setup past event reply) id (begins_of setup past id)
