-- A legal history goes on by a step, and what lasts stays while a change waits to be settled.
use Rattle.std.proofs.Common.{◌≡◌, ℕ, Bool, true, false, not, ◌||◌, List, [], ◌∷◌, Option, Some, None, IsTrue, refl, ap}
use Rattle.tags.specs.declared.settled.Settled.{Settled}
use Rattle.rule_model.specs.declared.entry.Entry.TheVariants.{Acted, Settling}
use Rattle.rule_model.specs.declared.event.Act.{Act}
use Rattle.rule_model.specs.declared.event.Act.TheVariants.{GenerateKey, ImportKey, EnterFinish, DeleteKey, Grant, Ungrant, ClearNamespace, UserRemoved, Restart, UpgradeKey, ImportWrappedKey}
use Rattle.rule_model.specs.declared.event.Event.{Event}
use Rattle.rule_model.specs.declared.reply.Reply.{Reply}
use Rattle.rule_model.specs.declared.reply.Reply.TheVariants.{Done, Broken, Stopped}
use Rattle.rule_model.specs.Acts.{fixed_for}
use Rattle.rule_model.specs.Entries.{History, after_step}
use Rattle.rule_model.specs.Legal.{IsAnswered, Legal, LegalBefore, MayFollow, MayStep, is_settled}
use Rattle.rule_model.specs.Settling.{is_unsettled}
use Rattle.rule_model.specs.Setup.{Setup}
use Rattle.rule_model.proofs.Admitted.{answered_done}
use Rattle.rule_model.proofs.Kept.{SameStored, changes_kept, quiet_stored, waiting_stored}

-- an act that settles nothing changes nothing that lasts
quiet_unsettling : (act : Act) → (fixed_for act).settles ≡ false → changes_kept act ≡ false
quiet_unsettling (GenerateKey key params) e = cc
quiet_unsettling (ImportKey key params format material) e = cc
quiet_unsettling (EnterFinish op input signature) e = cc
quiet_unsettling (DeleteKey key) e = cc
quiet_unsettling (Grant key uid bits) e = cc
quiet_unsettling (Ungrant key uid) e = cc
quiet_unsettling (ClearNamespace domain nspace) e = cc
quiet_unsettling (UserRemoved user) e = cc
quiet_unsettling (Restart root) e = cc
quiet_unsettling (UpgradeKey key params) e = cc
quiet_unsettling (ImportWrappedKey key params wrapping wrapped unwrapping) e = cc
quiet_unsettling _ e = refl

settles_not : (settled settles : Bool) → settled ≡ false → IsTrue (settled || not settles) → settles ≡ false
settles_not true settles e ready = cc
settles_not false true e ready = cc
settles_not false false e ready = refl

-- where a change waits to be settled, an entry that may follow changes nothing that lasts
pub waiting_follows : (setup : Setup) (past : History) (event : Event) (drawn : List ℕ) (reply : Reply) → is_unsettled past ≡ true → MayFollow setup past event drawn reply
    → SameStored setup past (Acted event drawn reply ∷ past)
waiting_follows setup past event drawn (Done fields) waits follows =
    let answered : IsAnswered setup past event drawn (Done fields) = answered_done setup past event drawn fields follows in
    quiet_stored setup past event drawn (Done fields)
    (quiet_unsettling event.act (settles_not (is_settled past) (fixed_for event.act).settles (ap not waits) answered.ready)) refl
waiting_follows setup past event drawn (Broken rule code) waits follows = waiting_stored setup past event drawn (Broken rule code) refl waits
waiting_follows setup past event drawn (Stopped code) waits follows = waiting_stored setup past event drawn (Stopped code) refl waits

-- what is legal with nothing after it is legal before any entry
pub goes_on : (setup : Setup) (next : Option Event) (past : History) → Legal setup past → LegalBefore setup next past
goes_on setup next [] legal = tt
goes_on setup next (Settling settled ∷ past) legal = absurd legal.0
goes_on setup next (Acted event drawn reply ∷ past) legal = legal

pub legal_step : (setup : Setup) (past : History) (settled : Option Settled) (event : Event) (drawn : List ℕ) (reply : Reply)
    → Legal setup past → MayStep setup past settled event drawn reply → Legal setup (after_step settled event drawn reply past)
legal_step setup past None event drawn reply legal may = (may.follows, goes_on setup (Some event) past legal)
legal_step setup past (Some settled) event drawn reply legal may = (may.follows, (may.settles, goes_on setup None past legal))
