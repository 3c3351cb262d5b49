-- What a service began with.
use Rattle.std.specs.Prelude.{[]}
use Rattle.rule_model.specs.Setup.{Setup}
use Rattle.keystore_core.specs.declared.engine.Engine.{Engine}
use Rattle.keystore_core.specs.Engine.{Stands}
use Rattle.service_book.specs.Book.{Counts}
use Rattle.shared_service.specs.declared.name.ServiceId.{ServiceId}

-- the engine and the entropy as they were handed in, and how many calls of the disk and draws of the entropy had failed by then
abbrev pub engine_before : {N : Type 0} → ServiceId N → Engine
engine_before name = name.engine.value

abbrev pub entropy_before : {N : Type 0} → ServiceId N → N
entropy_before name = name.drawn_from.value

abbrev pub counts_before : {N : Type 0} → ServiceId N → Counts
counts_before name = record { disk = name.disk; entropy = name.entropy }

-- What is fixed in a run of the service: that for which its engine stood before any entry.
abbrev pub IsSetupOf : {N : Type 0} → ServiceId N → Setup → Type 0
IsSetupOf name setup = Stands setup (engine_before name) []
