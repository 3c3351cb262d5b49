-- What the rules of a step read.
use Rattle.std.specs.Prelude.{ℕ, Bool, false, not, ◌==◌, List, [], Option, Some, None, length, unwrap_or}
use Rattle.tags.specs.declared.plan.Plan.TheVariants.{Ctr}
use Rattle.step_rules.specs.declared.facts.StepFacts.{StepFacts}
use Rattle.step_rules.specs.declared.facts.StepKind.{StepKind}
use Rattle.step_rules.specs.declared.facts.StepKind.TheVariants as kinds
use Rattle.cipher_ops.specs.declared.room.Work.{Work}
use Rattle.cipher_ops.specs.declared.room.Work.TheVariants.{Aad, Text, Last}
use Rattle.rule_model.specs.declared.facts.Brought.{Brought}
use Rattle.rule_model.specs.declared.facts.Caller.{Caller}
use Rattle.rule_model.specs.Entries.{History}
use Rattle.rule_model.specs.Kept.{is_live, operation_at}
use Rattle.rule_model.specs.declared.operation.Open.{Open}
use Rattle.rule_model.specs.Operations.{is_busy, is_waiting}
use Rattle.rule_model.specs.Setup.{Setup}

-- what a work brings: additional data, text, or the last text
abbrev pub step_kind : Work → StepKind
step_kind (Aad input) = kinds.Aad
step_kind (Text input) = kinds.Text
step_kind (Last input signature) = kinds.Last

-- the input of a work
abbrev pub input_of : Work → List ℕ
input_of (Aad input) = input
input_of (Text input) = input
input_of (Last input signature) = input

-- the signature that is handed in with the last text, empty where none is
abbrev pub signature_of : Work → List ℕ
signature_of (Aad input) = []
signature_of (Text input) = []
signature_of (Last input signature) = unwrap_or signature []

-- a work's kind and how many bytes it brings
abbrev pub brought_by : Work → Brought
brought_by work = record { kind = step_kind work; input = length (input_of work); signature = length (signature_of work) }

-- an abort brings nothing
abbrev pub brought_by_abort : Brought
brought_by_abort = record { kind = kinds.Abort; input = 0; signature = 0 }

-- the key of an operation has ended; one without a key has none that could
abbrev pub has_ended : (ℕ → Bool) → Option ℕ → Bool
has_ended live None = false
has_ended live (Some id) = not (live id)

-- the facts of a caller's step: an operation that is not open has taken nothing
abbrev pub facts_of : Option Open → (ℕ → Bool) → Caller → Brought → StepFacts
facts_of None live caller brought = record {
  kind = brought.kind;
  own = false;
  busy = false;
  input = brought.input;
  signature = brought.signature;
  ended = false;
  waiting = false;
  plan = Ctr;
  aad = 0;
  text = 0;
}
facts_of (Some o) live caller brought = record {
  kind = brought.kind;
  own = o.operation.client == caller.client;
  busy = is_busy o;
  input = brought.input;
  signature = brought.signature;
  ended = has_ended live o.operation.key;
  waiting = is_waiting o;
  plan = o.operation.plan;
  aad = length o.aad;
  text = length o.text;
}

-- what the rules read of a step on the operation of a number
abbrev pub step_facts : Setup → History → Caller → ℕ → Brought → StepFacts
step_facts setup past caller op brought =
    facts_of (operation_at setup past op) (is_live setup past) caller brought
