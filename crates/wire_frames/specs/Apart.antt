-- How a frame is held whose act has an input: what comes behind the input's length lies apart.
use Rattle.std.specs.Prelude.{◌≡◌, ℕ, ◌<◌, Bool, true, false, List, [], length, slice_index, Option, Some, None}
use Rattle.byte_strings.specs.Readers.{Reader, optional_at, ◌>>=◌, done, ended}
use Rattle.rule_model.specs.declared.act_kind.ActKind.{ActKind}
use Rattle.rule_model.specs.declared.act_kind.ActKind.TheVariants as kinds
use Rattle.rule_model.specs.Acts.{kind_numbered, row_of}
use Rattle.rule_model.specs.declared.event.Act.{Act}
use Rattle.rule_model.specs.declared.event.Act.TheVariants.{EnterAad, EnterUpdate, EnterFinish}

-- whether an act of the kind enters an operation, with an input
abbrev pub enters : Option ActKind → Bool
enters None = false
enters (Some kind) = (row_of kind).enters

-- the acts on an operation that have an input
abbrev pub has_input : ℕ → Bool
has_input number = enters (kind_numbered number)

-- the first 17 bytes of a frame whose act has an input: its length, the act, the operation and the input's length
abbrev pub HasInput : List ℕ → Type 0
HasInput head = (length head ≡ 17) × (has_input (slice_index head 4) ≡ true)

-- only behind such bytes something lies apart
abbrev pub IsApart : List ℕ → List ℕ → Type 0
IsApart head input = 0 < length input → HasInput head

-- ---- reading it

-- an act's input
abbrev pub with_input : List ℕ → Act → Act
with_input input (EnterAad op _) = EnterAad op input
with_input input (EnterUpdate op _) = EnterUpdate op input
with_input input (EnterFinish op _ signature) = EnterFinish op input signature
with_input input act = act

-- a finish with an empty input, where these bytes stand behind the input
abbrev pub finish_around : ℕ → Reader Act
finish_around op = do
  signature ← optional_at 4
  done (EnterFinish op [] signature)

-- the act of this kind on an operation with an empty input, where these bytes stand behind the input
abbrev pub around_of : Option ActKind → ℕ → List ℕ → Option Act
around_of (Some kinds.UpdateAad) op behind = ended (Some (EnterAad op [], behind))
around_of (Some kinds.Update) op behind = ended (Some (EnterUpdate op [], behind))
around_of _ op behind = ended (finish_around op behind)

-- the same of its number
abbrev pub around : ℕ → ℕ → List ℕ → Option Act
around number op behind = around_of (kind_numbered number) op behind
