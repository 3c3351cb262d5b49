-- How many bytes the leave of a work puts out at most, and what the engine tells of it before the enter.
use Rattle.std.specs.Prelude.{◌≡◌, ◌+◌, ◌≤◌, ℕ, Bool, true, false, List, [], length, Option, Some, None, Result, Ok, IfOk, if◌then◌else◌, ⊤}
use Rattle.tags.specs.declared.code.Code.{Code}
use Rattle.tags.specs.declared.limits.TheConstants.{OPERATION_BYTES}
use Rattle.tags.specs.declared.plan.Plan.{Plan}
use Rattle.cipher_ops.specs.Output.{finish_output, update_output}
use Rattle.cipher_ops.specs.Sizes.{finish_room, piece_room, taken}
use Rattle.rule_model.specs.declared.event.Act.{Act}
use Rattle.rule_model.specs.declared.event.Act.TheVariants.{EnterFinish, EnterUpdate, Leave}
use Rattle.rule_model.specs.Entries.{History}
use Rattle.rule_model.specs.Kept.{operation_at}
use Rattle.rule_model.specs.declared.operation.Open.{Open}
use Rattle.rule_model.specs.Operations.{output_of}
use Rattle.rule_model.specs.Setup.{Setup}
use Rattle.rule_model.specs.declared.operation.Entered.{Entered}
use Rattle.rule_model.specs.Tickets.{ticket_at}
use Rattle.live_tables.specs.declared.operations.OperationRow.{OperationRow}
use Rattle.keystore_core.specs.declared.output.TextStep.{TextStep}
use Rattle.keystore_core.specs.declared.tables.Tables.{Tables}
use Rattle.keystore_core.specs.Tables.{row_at}

-- the output of a work that is out
abbrev pub output_out : Setup → History → Option Entered → Result (List ℕ) Code
output_out setup past None = Ok []
output_out setup past (Some entered) = output_of (operation_at setup past entered.op) entered.work

-- the work that is out under a ticket puts out so many bytes at most
abbrev pub PutsOut : Setup → History → ℕ → ℕ → Type 0
PutsOut setup past ticket most = IfOk (output_out setup past (ticket_at past ticket)) (λ out. length out ≤ most)

-- so many bytes are enough for the output in a reply to an act: a leave alone has one
abbrev pub HasOutRoom : Setup → History → Act → ℕ → Type 0
HasOutRoom setup past (Leave ticket) out = PutsOut setup past ticket out
HasOutRoom setup past _ out = ⊤

-- ---- before the enter

-- the text that an act brings to an operation
abbrev pub text_step : Act → Option TextStep
text_step (EnterUpdate op input) = Some (record { op = op; size = length input; last = false })
text_step (EnterFinish op input signature) = Some (record { op = op; size = length input; last = true })
text_step _ = None

-- The most bytes that are told for a text, by the operation's plan, whether all output comes at its finish, and its text so far.
-- So the room for a mac or a tag is small, and that for a part of a text is little more than the part.
abbrev pub text_most : Plan → Bool → ℕ → ℕ → Bool → ℕ
text_most plan limited before size false = if limited then 0 else piece_room plan size
text_most plan limited before size true = finish_room plan (taken limited before size)

-- for the work of an act, by the operation that it names; where there is none, and for any other act, nothing is told
abbrev pub open_most : Option Open → ℕ → Bool → ℕ
open_most None size last = 0
open_most (Some o) size last = text_most o.operation.plan o.operation.limited (length o.text) size last

abbrev pub step_most : Setup → History → Option TextStep → ℕ
step_most setup past None = 0
step_most setup past (Some step) = open_most (operation_at setup past step.op) step.size step.last

abbrev pub most_for : Setup → History → Act → ℕ
most_for setup past act = step_most setup past (text_step act)

-- the same by a row
abbrev pub row_most : Option OperationRow → ℕ → Bool → ℕ
row_most None size last = 0
row_most (Some row) size last = text_most row.plan row.limited row.text size last

abbrev pub told_most : Tables → Option TextStep → ℕ
told_most tables None = 0
told_most tables (Some step) = row_most (row_at tables step.op) step.size step.last

-- so many bytes are enough for what an update gives on the operation of a row, and a finish
abbrev pub UpdateGives : OperationRow → ℕ → ℕ → Type 0
UpdateGives row size most = row.text + size ≤ OPERATION_BYTES → (key nonce before after : List ℕ) → length after ≡ length before + size
    → length (update_output row.plan row.limited key nonce before after) ≤ most

abbrev pub FinishGives : OperationRow → ℕ → ℕ → Type 0
FinishGives row size most = row.text + size ≤ OPERATION_BYTES → (key nonce aad before after : List ℕ) (signature : Option (List ℕ)) → length before ≡ row.text
    → length after ≡ row.text + size → IfOk (finish_output row.plan row.limited key nonce aad before after signature) (λ out. length out ≤ most)

abbrev pub RowGives : Option OperationRow → ℕ → Bool → ℕ → Type 0
RowGives None size last most = ⊤
RowGives (Some row) size false most = UpdateGives row size most
RowGives (Some row) size true most = FinishGives row size most

-- for what the work of an act gives
abbrev pub StepGives : Tables → Option TextStep → ℕ → Type 0
StepGives tables None most = ⊤
StepGives tables (Some step) most = RowGives (row_at tables step.op) step.size step.last most
