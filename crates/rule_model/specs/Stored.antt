-- What is known of the lasting part that the store of a history stands for.
use Rattle.std.specs.Prelude.{◌≡◌, ◌⊎◌, ℕ, Bool, true, false, ◌&&◌, not, List, ◌∷◌, Option, Some, None, if◌then◌else◌}
use Rattle.tags.specs.declared.settled.Settled.TheVariants.{Kept, Lost}
use Rattle.journal_records.specs.declared.change.Change.{Change}
use Rattle.journal_records.specs.Holding.{Holding, Sure, Unsure, changed_in, torn_in}
use Rattle.journal_records.specs.LastingPart.{Lasting}
use Rattle.rule_model.specs.declared.entry.Entry.TheVariants.{Settling}
use Rattle.rule_model.specs.declared.event.Event.{Event}
use Rattle.rule_model.specs.declared.reply.Reply.{Reply}
use Rattle.rule_model.specs.declared.reply.Reply.TheVariants.{Done, Broken, Stopped}
use Rattle.rule_model.specs.Blobs.{device_at}
use Rattle.rule_model.specs.Changes.{change_of}
use Rattle.rule_model.specs.Clients.{caller_of}
use Rattle.rule_model.specs.Entries.{History}
use Rattle.rule_model.specs.Kept.{kept, open_of}
use Rattle.rule_model.specs.Settling.{is_system_error, is_unsettled}
use Rattle.rule_model.specs.Setup.{Setup}

-- the change that an event makes of what a history keeps, where it counts
abbrev pub change_by : Setup → History → Event → List ℕ → Option Change
change_by setup past event drawn = change_of event.act (device_at setup past) setup.policy (kept setup past) (open_of setup past) (caller_of past event) drawn

-- What is known of the lasting part that the store stands for: it is what the history keeps. Where a faulted change waits to be
-- settled, it is what is kept where the change is lost, or what is where it is kept.
abbrev pub holding_of : Setup → History → Holding
holding_of setup past =
    if is_unsettled past then Unsure (kept setup (Settling Lost ∷ past)) (kept setup (Settling Kept ∷ past)) else Sure (kept setup past)

-- What the store may stand for, whenever a crash comes: what the history keeps; where a faulted change waits to be settled, what
-- is kept where it is lost, or what is where it is kept.
abbrev pub MayWhere : Bool → Setup → History → Lasting → Type 0
MayWhere true setup past part = (part ≡ kept setup (Settling Lost ∷ past)) ⊎ (part ≡ kept setup (Settling Kept ∷ past))
MayWhere false setup past part = part ≡ kept setup past

-- what the store may stand for after a history, whenever a crash comes
abbrev pub May : Setup → History → Lasting → Type 0
May setup past part = MayWhere (is_unsettled past) setup past part

-- what is known where a change, if there is one, was made, and where a device call failed
abbrev pub made_by : Option Change → Holding → Holding
made_by None held = held
made_by (Some change) held = changed_in change held

-- what is known where the record of a change was begun and its end was not told
abbrev pub torn_by : Option Change → Holding → Holding
torn_by None (Sure part) = Unsure part part
torn_by None (Unsure part later) = Unsure part later
torn_by (Some change) held = torn_in change held

-- how an entry changes what is known, by the change that it would make and its reply; a restart leaves nothing to be settled
abbrev pub after_reply : Bool → Option Change → Reply → Holding → Holding
after_reply restarts change (Done fields) held = made_by change held
after_reply restarts change (Broken rule code) held = held
after_reply restarts change (Stopped code) held = if is_system_error code && not restarts then torn_by change held else held
