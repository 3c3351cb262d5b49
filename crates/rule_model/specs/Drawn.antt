-- The bytes that are drawn for an event, and those that were drawn for the entries of a history.
use Rattle.std.specs.Prelude.{ℕ, ◌+◌, Bool, true, false, List, [], ◌∷◌, ◌++◌, Option, Some, Result, Ok, Err, if◌then◌else◌}
use Rattle.tags.specs.declared.code.Code.{Code}
use Rattle.tags.specs.declared.code.Code.TheVariants.{EntropyFault}
use Rattle.tags.specs.declared.descriptor.Descriptor.{Descriptor}
use Rattle.tags.specs.declared.plan.Plan.{Plan}
use Rattle.tags.specs.declared.rule.Rule.{Rule}
use Rattle.key_blobs.specs.declared.sealed.Sealed.{Sealed}
use Rattle.key_rules.specs.declared.plan.KeyPlan.{KeyPlan}
use Rattle.key_rules.specs.Creation.{new_key}
use Rattle.use_rules.specs.declared.facts.BeginFacts.{BeginFacts}
use Rattle.use_rules.specs.Plans.{challenge_wanted, nonce_wanted}
use Rattle.use_rules.specs.Table as begin_table
use Rattle.use_rules.specs.Table.{asked_of, key_of}
use Rattle.rule_model.specs.declared.entry.Entry.{Entry}
use Rattle.rule_model.specs.declared.entry.Entry.TheVariants.{Acted, Settling}
use Rattle.rule_model.specs.declared.event.Event.{Event}
use Rattle.rule_model.specs.declared.event.Act.{Act}
use Rattle.rule_model.specs.declared.event.Act.TheVariants.{GenerateKey, ImportKey, CreateOperation, UpgradeKey, ImportWrappedKey}
use Rattle.rule_model.specs.declared.facts.Caller.{Caller}
use Rattle.rule_model.specs.declared.facts.Pieces.{Pieces}
use Rattle.rule_model.specs.declared.reply.Reply.{Reply}
use Rattle.rule_model.specs.declared.reply.Reply.TheVariants.{Done, Broken, Stopped}
use Rattle.rule_model.specs.Access.{owner_of}
use Rattle.rule_model.specs.Acts.{fixed_for}
use Rattle.rule_model.specs.Blobs.{device_at}
use Rattle.rule_model.specs.Boot.{has_early_ended}
use Rattle.rule_model.specs.Clients.{caller_of}
use Rattle.rule_model.specs.Entries.{History}
use Rattle.rule_model.specs.Kept.{kept}
use Rattle.rule_model.specs.KeySources.{KeySource, generated, imported}
use Rattle.rule_model.specs.NewFacts.{new_facts}
use Rattle.rule_model.specs.Places.{has_key_place}
use Rattle.rule_model.specs.Setup.{Setup}
use Rattle.rule_model.specs.Slots.{begin_facts}
use Rattle.rule_model.specs.Upgrades.{upgrade_in}
use Rattle.rule_model.specs.WrappedKeys.{unwrapped_in}

-- how many bytes the pieces have
abbrev pub size_of : Pieces → ℕ
size_of pieces = pieces.first + pieces.second

-- nothing is drawn
abbrev pub no_pieces : Pieces
no_pieces = record { first = 0; second = 0 }

-- what a new key draws, where there is a place for it: a generated material, and then the 12 bytes of a nonce
abbrev pub wanted_by_key : Result KeyPlan (Rule × Code) → Bool → Pieces
wanted_by_key (Err broken) place = no_pieces
wanted_by_key (Ok plan) false = no_pieces
wanted_by_key (Ok plan) true = record { first = plan.size; second = 12 }

-- what a call that makes a key draws, by where its material comes from
abbrev pub wanted_to_make : Setup → History → Caller → Descriptor → List ℕ → KeySource → Pieces
wanted_to_make setup past caller key params source =
    wanted_by_key (new_key (new_facts setup.device setup.policy caller key params source (has_early_ended setup past))) (has_key_place (kept setup past) (owner_of caller) key)

-- what a begin draws: the nonce, where one is wanted, and then the challenge, where one is
abbrev pub wanted_by_begin : Result Plan (Rule × Code) → BeginFacts → Pieces
wanted_by_begin (Err broken) facts = no_pieces
wanted_by_begin (Ok plan) facts = record { first = nonce_wanted (asked_of facts) (key_of facts); second = challenge_wanted (key_of facts) }

-- what an upgrade draws: the 12 bytes of a nonce, where it seals anew
abbrev pub wanted_by_upgrade : Result (Option Sealed) (Rule × Code) → Pieces
wanted_by_upgrade (Ok (Some sealed)) = record { first = 12; second = 0 }
wanted_by_upgrade _ = no_pieces

-- the lengths of what is drawn: for a new key its material and the nonce of its blob, for a begin its nonce and then its challenge,
-- and for an upgrade a nonce
abbrev pub wanted_by_rules : Act → Setup → History → Caller → Pieces
wanted_by_rules (GenerateKey key params) setup past caller = wanted_to_make setup past caller key params generated
wanted_by_rules (ImportKey key params format material) setup past caller = wanted_to_make setup past caller key params (imported format material)
wanted_by_rules (ImportWrappedKey key params wrapping wrapped unwrapping) setup past caller =
    wanted_to_make setup past caller key params (unwrapped_in (device_at setup past) setup.policy (kept setup past) caller wrapping wrapped unwrapping)
wanted_by_rules (CreateOperation key params forced) setup past caller =
    wanted_by_begin (begin_table.answer (begin_facts setup past caller key params forced)) (begin_facts setup past caller key params forced)
wanted_by_rules (UpgradeKey key params) setup past caller = wanted_by_upgrade (upgrade_in (device_at setup past) setup.policy (kept setup past) caller key params)
wanted_by_rules _ setup past caller = no_pieces

-- what is drawn for an event: nothing for an act that draws none, and nothing where a rule is broken
abbrev pub wanted : Setup → History → Event → Pieces
wanted setup past event = if (fixed_for event.act).draws then wanted_by_rules event.act setup past (caller_of past event) else no_pieces

-- the bytes that were drawn for an entry
abbrev pub drawn_in : Entry → List ℕ
drawn_in (Acted event drawn reply) = drawn
drawn_in (Settling settled) = []

-- the bytes that were drawn for the entries, in the order in which they were drawn
abbrev pub drawn_of : History → List ℕ
drawn_of [] = []
drawn_of (entry ∷ past) = drawn_of past ++ drawn_in entry

-- the code of a call that a failed draw stopped
abbrev pub is_entropy_code : Code → Bool
is_entropy_code EntropyFault = true
is_entropy_code _ = false

-- a reply that tells of a failed draw
abbrev pub is_entropy_fault : Reply → Bool
is_entropy_fault (Done fields) = false
is_entropy_fault (Broken rule code) = false
is_entropy_fault (Stopped code) = is_entropy_code code

-- an entry that a failed draw stopped
abbrev pub is_undrawn : Entry → Bool
is_undrawn (Acted event drawn reply) = is_entropy_fault reply
is_undrawn (Settling settled) = false

-- how many entries a failed draw stopped
abbrev pub undrawn_of : History → ℕ
undrawn_of [] = 0
undrawn_of (entry ∷ past) = if is_undrawn entry then undrawn_of past + 1 else undrawn_of past
