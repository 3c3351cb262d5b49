-- The slots of the operations, and what a begin reads of them.
use Rattle.std.specs.Prelude.{ℕ, Bool, false, ◌||◌, List, Option, Some, None, if◌then◌else◌, is_some, length, map, nat_lt}
use Rattle.std.specs.Option.{option_map_or}
use Rattle.tags.specs.declared.descriptor.Descriptor.{Descriptor}
use Rattle.use_rules.specs.declared.facts.BeginFacts.{BeginFacts}
use Rattle.pruning.specs.Victim.{OpenFacts, victim}
use Rattle.rule_model.specs.declared.facts.Caller.{Caller}
use Rattle.rule_model.specs.declared.facts.Conditions.{Conditions}
use Rattle.rule_model.specs.BeginFacts.{BeginKey, facts_on}
use Rattle.rule_model.specs.Blobs.{list_read}
use Rattle.rule_model.specs.Boot.{begins_of, has_early_ended, is_timely, is_unlocked}
use Rattle.rule_model.specs.Entries.{History}
use Rattle.rule_model.specs.Access.{owner_of, user_of}
use Rattle.rule_model.specs.Kept.{access_at, begin_key_at, open_of}
use Rattle.rule_model.specs.declared.operation.Open.{Open}
use Rattle.rule_model.specs.Operations.{is_busy, step_of}
use Rattle.rule_model.specs.Setup.{Setup}

-- what the choice of the operation that gives way reads of an open one: an idle one is idle since the step that last touched it
abbrev pub facts_of_open : Open → OpenFacts
facts_of_open o = record {
  number = o.operation.number;
  uid = o.operation.uid;
  idle_since = if is_busy o then None else Some o.touched;
}

-- what the rule of the victim reads of the open operations
abbrev pub open_facts : Setup → History → List OpenFacts
open_facts setup past = map facts_of_open (open_of setup past)

-- whether a slot is free
abbrev pub has_free : Setup → History → Bool
has_free setup past = nat_lt (length (open_of setup past)) setup.slots

-- the operation that gives way to a begin of a uid, where no slot is free
abbrev pub pruned_for : Setup → History → ℕ → Bool → Option ℕ
pruned_for setup past uid forced = if has_free setup past then None else victim (open_facts setup past) (step_of past) uid forced

-- a slot is free, or an operation gives way
abbrev pub has_room : Setup → History → ℕ → Bool → Bool
has_room setup past uid forced = has_free setup past || is_some (pruned_for setup past uid forced)

-- the conditions of a caller's begin on a key: without a list no token is timely, and on a key that is not stored no begin counts
abbrev pub conditions_on : Setup → History → Caller → BeginKey → Bool → Conditions
conditions_on setup past caller key room = record {
  early_ended = has_early_ended setup past;
  unlocked = is_unlocked setup past (user_of caller);
  timely = option_map_or (λ list. is_timely setup past list caller.reading.boot) (list_read key.opened) false;
  begins = option_map_or (begins_of setup past) key.id 0;
  room = room;
}

-- what the rules read of a caller's begin
abbrev pub begin_facts : Setup → History → Caller → Descriptor → List ℕ → Bool → BeginFacts
begin_facts setup past caller key params forced =
    facts_on setup.device setup.policy (begin_key_at setup past caller key params) (access_at setup past caller key) caller key params forced
    (conditions_on setup past caller (begin_key_at setup past caller key params) (has_room setup past (owner_of caller) forced))
