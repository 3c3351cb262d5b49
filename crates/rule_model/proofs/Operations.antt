-- Entries that leave the operations as they are.
use Rattle.std.proofs.Common.{◌≡◌, ℕ, Bool, true, false, if◌then◌else◌, List, None, refl, ap}
use Rattle.journal_records.specs.LastingPart.{Lasting}
use Rattle.step_rules.specs.Table.{ends_operation}
use Rattle.rule_model.specs.declared.event.Act.{Act}
use Rattle.rule_model.specs.declared.event.Act.TheVariants.{AddAuthToken, Disconnect, CreateOperation, EnterAad, EnterUpdate, EnterFinish, Abort, Leave, Restart}
use Rattle.rule_model.specs.declared.event.Event.{Event}
use Rattle.rule_model.specs.declared.reply.Fields.{Fields}
use Rattle.rule_model.specs.declared.reply.Reply.{Reply}
use Rattle.rule_model.specs.declared.reply.Reply.TheVariants.{Done, Broken, Stopped}
use Rattle.rule_model.specs.Acts.{is_begin}
use Rattle.rule_model.specs.Entries.{History}
use Rattle.rule_model.specs.Kept.{kept, operation_change}
use Rattle.rule_model.specs.declared.entry_change.OperationChange.{OperationChange}
use Rattle.rule_model.specs.declared.entry_change.OperationChange.TheVariants.{SameOperations}
use Rattle.rule_model.specs.Operations.{admitted_operation, closes, operation_of, stopped_operation}
use Rattle.rule_model.specs.Settling.{is_faulted, is_unsettled}
use Rattle.rule_model.specs.Setup.{Setup}

-- the acts that change the operations
abbrev pub moves_operations : Act → Bool
moves_operations (CreateOperation key params forced) = true
moves_operations (EnterAad op input) = true
moves_operations (EnterUpdate op input) = true
moves_operations (EnterFinish op input signature) = true
moves_operations (Abort op) = true
moves_operations (Leave ticket) = true
moves_operations (AddAuthToken challenge user authenticator kind time mac) = true
moves_operations Disconnect = true
moves_operations (Restart root) = true
moves_operations _ = false

none_moves : (act : Act) (setup : Setup) (part : Lasting) (past : History) (event : Event) (drawn : List ℕ) (fields : Fields) → moves_operations act ≡ false
    → admitted_operation act setup part past event drawn fields ≡ SameOperations
none_moves (CreateOperation key params forced) setup part past event drawn fields e = cc
none_moves (EnterAad op input) setup part past event drawn fields e = cc
none_moves (EnterUpdate op input) setup part past event drawn fields e = cc
none_moves (EnterFinish op input signature) setup part past event drawn fields e = cc
none_moves (Abort op) setup part past event drawn fields e = cc
none_moves (Leave ticket) setup part past event drawn fields e = cc
none_moves (AddAuthToken challenge user authenticator kind time mac) setup part past event drawn fields e = cc
none_moves Disconnect setup part past event drawn fields e = cc
none_moves (Restart root) setup part past event drawn fields e = cc
none_moves _ setup part past event drawn fields e = refl

names_none : (act : Act) → moves_operations act ≡ false → operation_of act ≡ None
names_none (EnterAad op input) e = cc
names_none (EnterUpdate op input) e = cc
names_none (EnterFinish op input signature) e = cc
names_none (Abort op) e = cc
names_none _ e = refl

none_stops : (faulted : Bool) (act : Act) (past : History) → moves_operations act ≡ false → stopped_operation faulted act past ≡ SameOperations
none_stops faulted (Leave ticket) past e = cc
none_stops faulted (EnterFinish op input signature) past e = cc
none_stops faulted _ past e = refl

pub none_begins : (act : Act) → moves_operations act ≡ false → is_begin act ≡ false
none_begins (CreateOperation key params forced) e = cc
none_begins _ e = refl

either : (b : Bool) (change : OperationChange) → change ≡ SameOperations → (if b then change else SameOperations) ≡ SameOperations
either true change e = e
either false change e = refl

pub same_operations : (setup : Setup) (past : History) (event : Event) (drawn : List ℕ) (reply : Reply) → moves_operations event.act ≡ false
    → operation_change setup past event drawn reply ≡ SameOperations
same_operations setup past event drawn (Done fields) e = none_moves event.act setup (kept setup past) past event drawn fields e
same_operations setup past event drawn (Broken rule code) e = either (ends_operation rule) _ (ap closes (names_none event.act e))
same_operations setup past event drawn (Stopped code) e = none_stops (is_faulted (is_unsettled past) event.act (Stopped code)) event.act past e
