use Rattle.std.proofs.Common.{refl, sym, ap, ◌∙◌, subst}
use Rattle.journal_records.specs.Holding.{Sure}
use Rattle.journal_records.specs.Storable.{IsStorable}
use Rattle.key_database.specs.Stands.{Holds, lasting}
use Rattle.key_database.specs.Store.{StandsFor}
use Rattle.rule_model.specs.Setup.{Setup}
use Rattle.keystore_core.specs.Engine.{IsOver}
use Rattle.journal_records.specs.LastingPart.{Lasting}
use Rattle.key_database.specs.declared.database.KeyDatabase.{KeyDatabase}
use Rattle.key_database.specs.Adding.{KeepsSurely}
use Rattle.key_database.specs.Stands.{areas_of}
use Rattle.key_database.proofs.Steps.{held_surely}
use Rattle.keystore_core.proofs.engine.Engine.open.Goals as goal

pub returns-in-Ok-new-clause-stands : goal.returns-in-Ok-new-clause-stands
returns-in-Ok-new-clause-stands g c = λ setup is.
    record {
      entries = refl;
      tables = c.in-Ok-new.ensures.stands setup
          (subst (λ k. IsOver setup c.args.device.now c.in-Ok.policy c.args.slots k) c.in-Ok-new.ensures.keys
          (subst (λ p. IsOver setup c.args.device.now p c.args.slots c.in-Ok-new.tables.keys) (sym c.in-Ok.ensures) is));
      legal = tt;
      storable = subst IsStorable (sym (ap lasting c.in-Ok-new.ensures.keys) ∙ sym is.start) c.in-Ok-open.ensures.storable;
    }

pub returns-in-Ok-new-clause-first : goal.returns-in-Ok-new-clause-first
returns-in-Ok-new-clause-first g c =
    let setup : Setup = record { device = c.args.device.now; policy = c.args.policy.now; slots = c.args.slots; start = lasting c.in-Ok-new.tables.keys } in
    record { setup = setup; stands = returns-in-Ok-new-clause-stands g c setup (record { start = refl; device_is = refl; policy_is = refl; slots_are = refl }) }

pub returns-in-Ok-new-clause-store : goal.returns-in-Ok-new-clause-store
returns-in-Ok-new-clause-store g c = λ setup stands.
    subst (λ part. Holds g.D.Disk c.in-Ok-new.tables.keys c.open.new.disk (Sure part)) stands.tables.keys.lasting_is
    (subst (λ keys. Holds g.D.Disk keys c.open.new.disk (Sure (lasting keys))) (sym c.in-Ok-new.ensures.keys) c.in-Ok-open.ensures.holds)

pub returns-in-Ok-new-clause-finds : goal.returns-in-Ok-new-clause-finds
returns-in-Ok-new-clause-finds g c = λ part images told. ap lasting c.in-Ok-new.ensures.keys ∙ c.in-Ok-open.ensures.stands part images told

pub returns-in-Ok-new-clause-reads : goal.returns-in-Ok-new-clause-reads
returns-in-Ok-new-clause-reads g c = λ image left. subst (λ keys. StandsFor (lasting keys) image) (sym c.in-Ok-new.ensures.keys) (c.in-Ok-open.ensures.reads image left)

pub returns-in-Ok-new-clause-surely : goal.returns-in-Ok-new-clause-surely
returns-in-Ok-new-clause-surely g c = λ setup stands sure told.
    subst (λ (part : Lasting). KeepsSurely g.D.Disk (areas_of c.in-Ok-new.tables.keys) c.open.new.disk part) stands.tables.keys.lasting_is
    (subst (λ (keys : KeyDatabase). KeepsSurely g.D.Disk (areas_of keys) c.open.new.disk (lasting keys)) (sym c.in-Ok-new.ensures.keys)
    (held_surely g.D.Disk c.in-Ok-open.keys c.open.new.disk (Sure (lasting c.in-Ok-open.keys)) c.in-Ok-open.ensures.holds.kept.settled.idle c.in-Ok-open.ensures.holds sure told))
