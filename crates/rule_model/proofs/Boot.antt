-- Entries that leave what lasts until the next restart as it is.
use Rattle.std.proofs.Common.{◌≡◌, ℕ, ◌+◌, ◌≤◌, Bool, true, false, ◌==◌, if◌then◌else◌, [], ◌∷◌, length, refl, arith}
use Rattle.rule_model.specs.declared.entry.Entry.TheVariants.{Acted, Settling}
use Rattle.rule_model.specs.declared.event.Act.{Act}
use Rattle.rule_model.specs.declared.event.Act.TheVariants.{CreateOperation, AddAuthToken, DeviceLocked, DeviceUnlocked, EarlyBootEnded, Restart}
use Rattle.rule_model.specs.declared.event.Event.{Event}
use Rattle.rule_model.specs.declared.facts.Caller.{Caller}
use Rattle.rule_model.specs.declared.reply.Reply.{Reply}
use Rattle.rule_model.specs.declared.reply.Reply.TheVariants.{Done, Broken, Stopped}
use Rattle.rule_model.specs.declared.entry_change.BootChange.{BootChange}
use Rattle.rule_model.specs.declared.entry_change.BootChange.TheVariants.{SameBoot, Locks, Unlocks, EndsEarlyBoot, Accepts, BeginsOn, StartsAgain}
use Rattle.rule_model.specs.Boot.{admitted_boot, begins_after, begins_of, boot_change}
use Rattle.rule_model.specs.Clients.{caller_of}
use Rattle.rule_model.specs.Entries.{History}
use Rattle.rule_model.specs.Setup.{Setup}

-- the acts that change it where they are admitted
abbrev pub moves_boot : Act → Bool
moves_boot (CreateOperation key params forced) = true
moves_boot (AddAuthToken challenge user authenticator kind time mac) = true
moves_boot (DeviceLocked user) = true
moves_boot (DeviceUnlocked user) = true
moves_boot EarlyBootEnded = true
moves_boot (Restart root) = true
moves_boot _ = false

none_moves : (act : Act) (setup : Setup) (past : History) (caller : Caller) → moves_boot act ≡ false → admitted_boot act setup past caller ≡ SameBoot
none_moves (CreateOperation key params forced) setup past caller e = cc
none_moves (AddAuthToken challenge user authenticator kind time mac) setup past caller e = cc
none_moves (DeviceLocked user) setup past caller e = cc
none_moves (DeviceUnlocked user) setup past caller e = cc
none_moves EarlyBootEnded setup past caller e = cc
none_moves (Restart root) setup past caller e = cc
none_moves _ setup past caller e = refl

pub same_boot : (setup : Setup) (past : History) (event : Event) (reply : Reply) → moves_boot event.act ≡ false → boot_change setup past event reply ≡ SameBoot
same_boot setup past event (Done fields) e = none_moves event.act setup past (caller_of past event) e
same_boot setup past event (Broken rule code) e = refl
same_boot setup past event (Stopped code) e = refl

-- the begins on a key are at most as many as the entries
one_more : (change : BootChange) (id n m : ℕ) → n ≤ m → begins_after change id n ≤ m + 1
one_more SameBoot id n m few = omega (arith, few)
one_more (Locks user) id n m few = omega (arith, few)
one_more (Unlocks user) id n m few = omega (arith, few)
one_more EndsEarlyBoot id n m few = omega (arith, few)
one_more (Accepts token) id n m few = omega (arith, few)
one_more (BeginsOn key) id n m few = either (key == id) where
  either : (b : Bool) → (if b then n + 1 else n) ≤ m + 1
  either true = omega (arith, few)
  either false = omega (arith, few)
one_more StartsAgain id n m few = omega arith

pub begins_few : (setup : Setup) (past : History) (id : ℕ) → begins_of setup past id ≤ length past
begins_few setup [] id = omega arith
begins_few setup (Settling settled ∷ past) id = omega (arith, begins_few setup past id)
begins_few setup (Acted event drawn reply ∷ past) id =
    omega (arith, one_more (boot_change setup past event reply) id (begins_of setup past id) (length past) (begins_few setup past id))
