-- Which entries count: the admitted ones, and those of a faulted change that was kept.
use Rattle.std.specs.Prelude.{Bool, true, false, ◌&&◌, ◌||◌, not, [], ◌∷◌, Option, Some, None, if◌then◌else◌}
use Rattle.tags.specs.declared.code.Code.{Code}
use Rattle.tags.specs.declared.code.Code.TheVariants.{SystemError}
use Rattle.tags.specs.declared.settled.Settled.{Settled}
use Rattle.tags.specs.declared.settled.Settled.TheVariants.{Kept, Lost}
use Rattle.rule_model.specs.declared.entry.Entry.TheVariants.{Acted, Settling}
use Rattle.rule_model.specs.declared.event.Act.{Act}
use Rattle.rule_model.specs.declared.reply.Reply.{Reply}
use Rattle.rule_model.specs.declared.reply.Reply.TheVariants.{Done, Broken, Stopped}
use Rattle.rule_model.specs.Acts.{is_restart}
use Rattle.rule_model.specs.Entries.{History}

-- the reply to a change whose device call failed
abbrev pub is_system_error : Code → Bool
is_system_error SystemError = true
is_system_error _ = false

-- whether a reply says that a device call failed
abbrev pub is_disk_fault : Reply → Bool
is_disk_fault (Done fields) = false
is_disk_fault (Broken rule code) = false
is_disk_fault (Stopped code) = is_system_error code

-- an entry is faulted where its reply is that one, its act is no restart, and nothing faulted before it waits to be settled
abbrev pub is_faulted : Bool → Act → Reply → Bool
is_faulted waits act (Done fields) = false
is_faulted waits act (Broken rule code) = false
is_faulted waits act (Stopped code) = is_system_error code && (not (is_restart act) && not waits)

-- whether a faulted entry waits to be settled
abbrev pub is_unsettled : History → Bool
is_unsettled [] = false
is_unsettled (Settling settled ∷ past) = false
is_unsettled (Acted event drawn reply ∷ past) = is_faulted (is_unsettled past) event.act reply || is_unsettled past

-- a settling said that the change is on the disk
abbrev pub is_kept : Option Settled → Bool
is_kept None = false
is_kept (Some Lost) = false
is_kept (Some Kept) = true

-- An entry counts where it is admitted, or is faulted and the settling after it says kept.
abbrev pub counts : Option Settled → History → Act → Reply → Bool
counts verdict past act (Done fields) = true
counts verdict past act (Broken rule code) = false
counts verdict past act (Stopped code) = is_faulted (is_unsettled past) act (Stopped code) && is_kept verdict

-- the settling that is left for the entries before this one: it is that of the last faulted entry before it alone
abbrev pub verdict_before : Option Settled → History → Act → Reply → Option Settled
verdict_before verdict past act (Done fields) = verdict
verdict_before verdict past act (Broken rule code) = verdict
verdict_before verdict past act (Stopped code) = if is_faulted (is_unsettled past) act (Stopped code) then None else verdict
