-- When nothing of areas waits, and what waits where something does.
use Rattle.std.proofs.Common.{◌≡◌, ℕ, List, true, false, ⊎_elim, refl}
use Rattle.std.proofs.lemmas.Bool.{or_parts}
use Rattle.ks_outside.specs.declared.disk.Disk.{Ghosts}
use Rattle.journal_records.specs.declared.change.Change.{Change}
use Rattle.journal_records.specs.declared.record.Record.{Record}
use Rattle.journal_records.specs.LastingPart.{Lasting}
use Rattle.record_areas.specs.Frames.{Frame}
use Rattle.record_areas.specs.Holding as lower
use Rattle.journal_compact.specs.Holding.{MayHold, area_of, is_turning, is_waiting, selected_of, turn_of}
use Rattle.journal_compact.specs.Waiting.{is_turn}
use Rattle.journal_compact.specs.declared.areas.Areas.{Areas}
use Rattle.journal_compact.specs.declared.areas.Turn.{Turn}
use Rattle.journal_compact.specs.declared.areas.Turn.TheVariants.{Idle, Copying, Selecting}
use Rattle.journal_compact.specs.declared.places.Selected.{Selected}
use Rattle.key_database.specs.Stands.{BeginsChange, TurnsPart, WaitsOn}

-- neither a compaction nor a record waits
pub turn_idle : (areas : Areas) → is_waiting areas ≡ false → is_turning areas ≡ false
turn_idle areas idle = (or_parts (is_turning areas) (lower.is_waiting (area_of areas)) idle).0

pub area_idle : (areas : Areas) → is_waiting areas ≡ false → lower.is_waiting (area_of areas) ≡ false
area_idle areas idle = (or_parts (is_turning areas) (lower.is_waiting (area_of areas)) idle).1

turns_now : {D : Type 0} (g : Ghosts D) (disk : D) (frame : Frame) (version : ℕ) (selected : Selected) (past rows : List Record) (turn : Turn) → MayHold g disk frame version selected past rows turn → is_turn turn ≡ true
turns_now g disk frame version selected past rows Idle holds = absurd holds
turns_now g disk frame version selected past rows Copying holds = refl
turns_now g disk frame version selected past rows (Selecting next) holds = refl

module _ {D : Type 0} (g : Ghosts D) (areas : Areas) (disk : D) (part : Lasting) where
  pub turning_now : TurnsPart g areas disk part → is_turning areas ≡ true
  turning_now t = turns_now g disk t.frame t.turning.is_frame.version (selected_of areas) t.past t.rows (turn_of areas) t.turning.images

  -- where a change waits something of the areas does
  pub not_idle : (change : Change) → WaitsOn g areas disk part change → is_waiting areas ≡ false → ⊥
  not_idle change waits idle =
      ⊎_elim (λ (begun : BeginsChange g areas disk part change). cc (begun.unsettled.area.waits, area_idle areas idle))
      (λ (turning : TurnsPart g areas disk part). cc (turning_now turning, turn_idle areas idle)) waits
