-- Runs on one store, each over the bytes that the one before it left.
use Rattle.std.specs.Prelude.{ℕ, ◌≤◌, List, [], ◌∷◌, ◌++◌}
use Rattle.key_database.specs.Store.{StandsFor}
use Rattle.rule_model.specs.Legal.{Legal}
use Rattle.rule_model.specs.Setup.{Setup}
use Rattle.rule_model.specs.Uses.{HasStood, KeepsLimit, Run}
use Rattle.keystore_core.specs.Engine.{MayHold}

-- a run, and the image that its crash or its end left
pub record StoredRun : Type 0 where
  pub run : Run
  pub image : List ℕ

-- what is fixed in a run is that of the bytes which it read: those that the one before it left
abbrev pub Reads : List StoredRun → Setup → Type 0
Reads [] setup = (image : List ℕ) × StandsFor setup.start image
Reads (before ∷ earlier) setup = StandsFor setup.start before.image

-- Legal runs, the newest first. Each read what the one before it left, and left an image that stands for what may be kept of its
-- entries without those that were undone.
abbrev pub AreStoredRuns : List StoredRun → Type 0
AreStoredRuns [] = Unit {0}
AreStoredRuns (stored ∷ earlier) =
    Legal stored.run.setup (stored.run.undone ++ stored.run.past) × MayHold stored.run.setup stored.run.past stored.image × Reads earlier stored.run.setup × AreStoredRuns earlier

-- the runs without their images
abbrev pub runs_of : List StoredRun → List Run
runs_of [] = []
runs_of (stored ∷ earlier) = stored.run ∷ runs_of earlier

-- the law of uses, over such runs
abbrev pub StoredUsesLaw : Type 0
StoredUsesLaw = (stored : List StoredRun) (id limit : ℕ) → AreStoredRuns stored → HasStood (runs_of stored) id limit → 1 ≤ limit → KeepsLimit (runs_of stored) id limit
