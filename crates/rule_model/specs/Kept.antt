-- The keys and grants of a history, which outlive a restart, and its open operations, which do not.
use Rattle.std.specs.Prelude.{ℕ, Bool, ◌&&◌, List, [], ◌∷◌, Option, Some, None, if◌then◌else◌, find}
use Rattle.std.specs.List.{list_any}
use Rattle.tags.specs.declared.descriptor.Descriptor.{Descriptor}
use Rattle.tags.specs.declared.policy.PolicyRow.{PolicyRow}
use Rattle.tags.specs.declared.secrets.DeviceSecrets.{DeviceSecrets}
use Rattle.tags.specs.declared.settled.Settled.{Settled}
use Rattle.key_domains.specs.declared.access.Access.{Access}
use Rattle.journal_records.specs.declared.record.KeyRecord.{KeyRecord}
use Rattle.journal_records.specs.LastingPart.{Lasting, some_has_id}
use Rattle.rule_model.specs.declared.entry.Entry.TheVariants.{Acted, Settling}
use Rattle.use_rules.specs.declared.facts.BeginFacts.{BeginFacts}
use Rattle.rule_model.specs.declared.event.Act.{Act}
use Rattle.rule_model.specs.declared.event.Event.{Event}
use Rattle.rule_model.specs.declared.reply.Reply.{Reply}
use Rattle.rule_model.specs.declared.facts.Caller.{Caller}
use Rattle.rule_model.specs.Access.{access_by, key_in}
use Rattle.rule_model.specs.BeginFacts.{BeginKey}
use Rattle.rule_model.specs.Blobs.{device_at}
use Rattle.rule_model.specs.Changes.{after_change, change_of}
use Rattle.rule_model.specs.Clients.{caller_of}
use Rattle.rule_model.specs.Entries.{History}
use Rattle.rule_model.specs.declared.operation.Open.{Open}
use Rattle.rule_model.specs.declared.entry_change.OperationChange.{OperationChange}
use Rattle.rule_model.specs.Operations.{begin_facts_in, begin_key_in, has_number, is_busy, is_of, open_after, operation_change_in, step_of}
use Rattle.rule_model.specs.Settling.{counts, verdict_before}
use Rattle.rule_model.specs.Setup.{Setup}

-- the lasting part after an entry, where it counts
abbrev pub kept_after : Bool → DeviceSecrets → List PolicyRow → List Open → Caller → Act → List ℕ → Lasting → Lasting
kept_after counting device policy opened caller act drawn part =
    if counting then after_change (change_of act device policy part opened caller drawn) part else part

-- What lasts and what is open, by the entries in turn: a finish on an open operation may use its key, and a begin reads the keys.
abbrev mutual
  -- the lasting part of the start and of the counting entries, made in turn
  pub kept_settled : Setup → Option Settled → History → Lasting
  kept_settled setup verdict [] = setup.start
  kept_settled setup verdict (Settling settled ∷ past) = kept_settled setup (Some settled) past
  kept_settled setup verdict (Acted event drawn reply ∷ past) =
      kept_after (counts verdict past event.act reply) (device_at setup past) setup.policy (open_of setup past) (caller_of past event) event.act drawn
      (kept_settled setup (verdict_before verdict past event.act reply) past)

  -- The open operations, in the order of their begins: those of the admitted begins since the last restart which no later entry
  -- closed.
  pub open_of : Setup → History → List Open
  open_of setup [] = []
  open_of setup (Settling settled ∷ past) = open_of setup past
  open_of setup (Acted event drawn reply ∷ past) =
      open_after (step_of past) (operation_change_in setup (kept_settled setup None past) past event drawn reply) (open_of setup past)

-- the keys that have not ended, the grants that are live, and the numbers that the next of each takes
abbrev pub kept : Setup → History → Lasting
kept setup past = kept_settled setup None past

-- ---- the keys and grants

-- what a caller's descriptor finds in a history, and the key
abbrev pub access_at : Setup → History → Caller → Descriptor → Access
access_at setup past caller key = access_by setup.policy (kept setup past) caller key

-- the stored key that a caller's descriptor finds after a history
abbrev pub key_found : Setup → History → Caller → Descriptor → Option KeyRecord
key_found setup past caller key = key_in (kept setup past) (access_at setup past caller key)

-- the key of a caller's begin, and what the begin reads of it
abbrev pub begin_key_at : Setup → History → Caller → Descriptor → List ℕ → BeginKey
begin_key_at setup past caller key params = begin_key_in (device_at setup past) setup.policy (kept setup past) caller key params

-- what the rules of a begin read of the key and the lists; its place and its conditions are read apart
abbrev pub facts_of_begin : Setup → History → Caller → Descriptor → List ℕ → BeginFacts
facts_of_begin setup past caller key params = begin_facts_in (device_at setup past) setup.policy (kept setup past) caller key params

-- whether a key of this number has not ended
abbrev pub is_live : Setup → History → ℕ → Bool
is_live setup past id = some_has_id id (kept setup past).keys

-- ---- the operations

-- what an entry makes of the operations
abbrev pub operation_change : Setup → History → Event → List ℕ → Reply → OperationChange
operation_change setup past event drawn reply = operation_change_in setup (kept setup past) past event drawn reply

-- the open operation of a number
abbrev pub operation_at : Setup → History → ℕ → Option Open
operation_at setup past number = find (has_number number) (open_of setup past)

-- whether a work on an operation of a client is out
abbrev pub has_busy : Setup → History → ℕ → Bool
has_busy setup past client = list_any (λ o. is_of client o && is_busy o) (open_of setup past)
