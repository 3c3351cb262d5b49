-- What a run reads is what may be kept of the one before it.
use Rattle.std.proofs.Common.{◌≡◌, inl, inr, ℕ, List, [], ◌∷◌}
use Rattle.journal_records.specs.Holding.{Holding, IsMember, Sure, Unsure}
use Rattle.journal_records.specs.LastingPart.{Lasting}
use Rattle.journal_records.specs.Storable.{IsStorable}
use Rattle.key_database.specs.Store.{MayBe, StandsFor}
use Rattle.rule_model.specs.Setup.{Setup}
use Rattle.rule_model.specs.Stored.{holding_of}
use Rattle.rule_model.specs.Uses.{AreRuns, BeginsAfter, UsesLaw}
use Rattle.rule_model.proofs.Kept.{may_is}
use Rattle.store_runs.specs.Runs.{AreStoredRuns, Reads, StoredRun, StoredUsesLaw, runs_of}

-- what the law of stores tells: an image stands for one lasting part, which is what a store can hold
abbrev pub OnePart : Type 0
OnePart = (part other : Lasting) (image : List ℕ) → StandsFor part image → StandsFor other image → part ≡ other

abbrev pub EachStorable : Type 0
EachStorable = (part : Lasting) (image : List ℕ) → StandsFor part image → IsStorable part

member : OnePart → (held : Holding) (part : Lasting) (image : List ℕ) → StandsFor part image → MayBe held image → IsMember held part
member one (Sure known) part image stands is = one part known image stands is
member one (Unsure known later) part image stands (inl is) = inl (one part known image stands is)
member one (Unsure known later) part image stands (inr is) = inr (one part later image stands is)

begins_after : OnePart → EachStorable → (earlier : List StoredRun) (setup : Setup) → AreStoredRuns earlier → Reads earlier setup → BeginsAfter (runs_of earlier) setup.start
begins_after one each [] setup are read = each setup.start read.0 read.1
begins_after one each (before ∷ earlier) setup are read =
    rw (may_is before.run.setup before.run.past setup.start) (member one (holding_of before.run.setup before.run.past) setup.start before.image read are.1)

are_runs : OnePart → EachStorable → (stored : List StoredRun) → AreStoredRuns stored → AreRuns (runs_of stored)
are_runs one each [] are = are
are_runs one each (newest ∷ earlier) are = (are.0, begins_after one each earlier newest.run.setup are.3 are.2, are_runs one each earlier are.3)

pub stored_law : OnePart → EachStorable → UsesLaw → StoredUsesLaw
stored_law one each law stored id limit are stood limited = law (runs_of stored) id limit (are_runs one each stored are) stood limited
