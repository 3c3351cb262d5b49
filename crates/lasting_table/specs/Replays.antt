-- A table while records are put into it.
use Rattle.std.specs.Prelude.{◌≡◌, true}
use Rattle.journal_records.specs.LastingPart.{Lasting, empty_lasting}
use Rattle.journal_records.specs.States.{AmongChanges, AmongRows, AtStart, Phase, ReadState, is_at_start}
use Rattle.journal_records.specs.Storable.{IsStorable}
use Rattle.lasting_table.specs.declared.replay.Stage.{Stage}
use Rattle.lasting_table.specs.declared.replay.Stage.TheVariants as stages

-- what the records leave, and which of them there were
pub record ReplayView : Type 0 where
  pub part : Lasting
  pub stage : Stage

abbrev pub phase_of : Stage → Phase
phase_of stages.AtStart = AtStart
phase_of stages.AmongRows = AmongRows
phase_of stages.AmongChanges = AmongChanges

-- the state of a reading that has come behind them
abbrev pub state_in : ReplayView → ReadState
state_in replay = record { part = replay.part; phase = phase_of replay.stage }

-- they leave what a store can hold, and before the first one that is nothing
pub record IsReplay (part : Lasting) (stage : Stage) : Type 0 where
  pub storable : IsStorable part
  pub nothing : is_at_start (phase_of stage) ≡ true → part ≡ empty_lasting
