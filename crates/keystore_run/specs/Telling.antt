-- What is made ready of an event before its step takes it.
use Rattle.rule_model.specs.declared.event.Event.{Event}
use Rattle.trace_lines.specs.Told.{Tells}
use Rattle.keystore_run.specs.declared.telling.Telling.{Telling}
use Rattle.keystore_run.specs.declared.telling.Telling.TheVariants.{Reply, Entries}
use Rattle.keystore_run.specs.declared.written.Written.{Written}
use Rattle.keystore_run.specs.declared.written.Written.TheVariants.{Replies, Trace}

-- nothing for its reply, and for its entry's line the members of the event
abbrev pub TellsOf : Written → Telling → Event → Type 0
TellsOf Replies Reply event = Unit {0}
TellsOf Replies (Entries told) event = ⊥
TellsOf Trace Reply event = ⊥
TellsOf Trace (Entries told) event = Tells told event
