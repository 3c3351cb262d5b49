-- What settling before an act leaves.
use Rattle.std.specs.Prelude.{◌≡◌, true, Option, Some, None, Result, Ok, Err, IsTrue}
use Rattle.tags.specs.declared.settled.Settled.{Settled}
use Rattle.journal_records.specs.Holding.{Holding, settled_in}
use Rattle.rule_model.specs.declared.event.Act.{Act}
use Rattle.rule_model.specs.Acts.{fixed_for}
use Rattle.rule_model.specs.Entries.{History, after_settling}
use Rattle.rule_model.specs.Legal.{is_ready}
use Rattle.rule_model.specs.Setup.{Setup}
use Rattle.rule_model.specs.Settling.{is_unsettled}
use Rattle.keystore_core.specs.declared.tables.Tables.{Tables}
use Rattle.keystore_core.specs.Tables.{SameTables, TablesStand}

-- a settling is told where a change waited and the act settles first; then the act may come
pub record HasSettled (setup : Setup) (past : History) (new : Tables) (act : Act) (settled : Option Settled) : Type 0 where
  pub stands : TablesStand setup new (after_settling settled past)
  pub ready : IsTrue (is_ready (after_settling settled past) act)
  pub waits : (told : Settled) → settled ≡ Some told → is_unsettled past ≡ true
  pub settles : (told : Settled) → settled ≡ Some told → (fixed_for act).settles ≡ true

-- where it failed, a change waits still
pub record HasNotSettled (past : History) (old new : Tables) (act : Act) : Type 0 where
  pub same : SameTables old new
  pub waits : is_unsettled past ≡ true
  pub settles : (fixed_for act).settles ≡ true

abbrev pub SettlesTo : {E : Type 0} → Setup → History → Tables → Tables → Act → Result (Option Settled) E → Type 0
SettlesTo setup past old new act (Ok settled) = HasSettled setup past new act settled
SettlesTo setup past old new act (Err fault) = HasNotSettled past old new act

abbrev pub SettlesFirst : {E : Type 0} → Tables → Tables → Act → Result (Option Settled) E → Type 0
SettlesFirst old new act result = (setup : Setup) (past : History) → TablesStand setup old past → SettlesTo setup past old new act result

-- what is known of the store after it
abbrev pub after_first : {E : Type 0} → Result (Option Settled) E → Holding → Holding
after_first (Ok None) held = held
after_first (Ok (Some settled)) held = settled_in settled held
after_first (Err fault) held = held
