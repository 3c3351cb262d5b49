-- A history of the service and its entries.
use Rattle.std.specs.Prelude.{ℕ, ◌+◌, Bool, true, false, ◌&&◌, ◌==◌, List, [], ◌∷◌, Option, Some, None, if◌then◌else◌}
use Rattle.tags.specs.declared.settled.Settled.{Settled}
use Rattle.rule_model.specs.declared.entry.Entry.{Entry}
use Rattle.rule_model.specs.declared.entry.Entry.TheVariants.{Acted, Settling}
use Rattle.rule_model.specs.declared.event.Event.{Event}
use Rattle.rule_model.specs.declared.event.Act.{Act}
use Rattle.rule_model.specs.declared.reply.Reply.{Reply}
use Rattle.rule_model.specs.declared.reply.Reply.TheVariants.{Done, Broken, Stopped}

-- the entries so far, the newest first: what stands after an entry in the list is what came before it
abbrev pub History : Type 0
History = List Entry

-- an event is admitted where its reply is Done
abbrev pub is_done : Reply → Bool
is_done (Done fields) = true
is_done (Broken rule code) = false
is_done (Stopped code) = false

-- an admitted entry whose act passes the test
abbrev pub admits : (Act → Bool) → Entry → Bool
admits test (Acted event drawn reply) = is_done reply && test event.act
admits test (Settling settled) = false

-- how many admitted entries have an act that passes the test
abbrev pub count_of : (Act → Bool) → History → ℕ
count_of test [] = 0
count_of test (entry ∷ past) = if admits test entry then count_of test past + 1 else count_of test past

-- whether a field of a reply gives this number
abbrev pub gives : Option ℕ → ℕ → Bool
gives None number = false
gives (Some given) number = given == number

-- the history after a settling, where there was one
abbrev pub after_settling : Option Settled → History → History
after_settling None past = past
after_settling (Some settled) past = Settling settled ∷ past

-- The history after a step: an earlier change was settled where that was due, and the event has its reply and drawn bytes.
abbrev pub after_step : Option Settled → Event → List ℕ → Reply → History → History
after_step settled event drawn reply past = Acted event drawn reply ∷ after_settling settled past
