-- A step of the engine: what it settles first, and then the entry of its event.
use Rattle.key_database.proofs.Addings.{steps_on}
use Rattle.key_database.specs.Adding.{KeepsSurely, StepsSurely}
use Rattle.std.proofs.Common.{◌≡◌, inl, inr, ℕ, ◌+◌, true, false, List, [], ◌∷◌, length, Option, Some, None, Ok, ⊎_elim, refl, sym, ◌∙◌, subst, arith}
use Rattle.tags.specs.declared.code.Code.TheVariants.{SystemError}
use Rattle.tags.specs.declared.settled.Settled.{Settled}
use Rattle.tags.specs.declared.settled.Settled.TheVariants.{Kept, Lost}
use Rattle.ks_outside.specs.declared.disk.Disk.{Ghosts}
use Rattle.ks_outside.specs.Images.{Passes}
use Rattle.ks_outside.proofs.Joins.{passes_on}
use Rattle.journal_records.specs.Holding.{Holding, Sure, Unsure, settled_in, known}
use Rattle.key_database.specs.Stands.{Holds, is_unsettled, areas_of}
use Rattle.key_database.specs.Store.{Between, MayBe}
use Rattle.cipher_ops.specs.declared.job.Done.{Done as JobDone}
use Rattle.rule_model.specs.declared.entry.Entry.TheVariants.{Acted, Settling}
use Rattle.rule_model.specs.declared.event.Act.{Act}
use Rattle.rule_model.specs.declared.event.Act.TheVariants.{Leave}
use Rattle.rule_model.specs.declared.event.Event.{Event}
use Rattle.rule_model.specs.declared.reply.Reply.{Reply}
use Rattle.rule_model.specs.declared.reply.Reply.TheVariants.{Stopped}
use Rattle.rule_model.specs.Acts.{fixed_for}
use Rattle.rule_model.specs.Entries.{History, after_settling, after_step}
use Rattle.rule_model.specs.Jobs.{HasDone, IsDoneOut, Stays}
use Rattle.rule_model.specs.Legal.{Legal, LegalBefore, MaySettleFirst, MayStep, NotSettled}
use Rattle.rule_model.specs.Setup.{Setup}
use Rattle.rule_model.specs.Stored.{holding_of}
use Rattle.rule_model.specs.Operations.{step_of}
use Rattle.rule_model.specs.declared.operation.Entered.{Entered}
use Rattle.rule_model.specs.Tickets.{ticket_at}
use Rattle.rule_model.proofs.Kept.{same_holding, settled_holding_is, waiting_stored}
use Rattle.rule_model.proofs.Legal.{goes_on, legal_step}
use Rattle.keystore_core.specs.declared.answered.Answered.{Answered}
use Rattle.keystore_core.specs.declared.engine.Engine.{Engine}
use Rattle.keystore_core.specs.declared.tables.Tables.{Tables}
use Rattle.keystore_core.specs.Engine.{MayHoldEither, Stands, entries_made}
use Rattle.keystore_core.specs.Settling.{HasNotSettled, HasSettled, after_first}
use Rattle.keystore_core.specs.Tables.{AnswersAfter, IsAt, StandsAt, TablesStand}
use Rattle.keystore_core.specs.Writing.{StoreAnswers}
use Rattle.keystore_core.proofs.Standing.{not_made}
use Rattle.keystore_core.proofs.Storing.{store_goes_on, store_passes, surely_goes_on}

-- ---- the history after a settling

-- what a work came back with is the same after it
done_on : (setup : Setup) (past : History) (settled : Settled) (entered : Option Entered) (back : Option JobDone) → IsDoneOut setup past entered back → IsDoneOut setup (Settling settled ∷ past) entered back
done_on setup past settled None back done = tt
done_on setup past settled (Some entered) None done = absurd done
done_on setup past settled (Some entered) (Some back) done = done

has_done : (setup : Setup) (past : History) (settled : Option Settled) (act : Act) (back : Option JobDone) → HasDone setup past act back → HasDone setup (after_settling settled past) act back
has_done setup past None act back done = done
has_done setup past (Some settled) (Leave ticket) back done = done_on setup past settled (ticket_at past ticket) back done
has_done setup past (Some settled) _ back done = tt

-- the number of the step of the entry after it
step_after : (entries : ℕ) (settled : Option Settled) (past : History) → entries ≡ length past → entries + entries_made settled ≡ step_of (after_settling settled past)
step_after entries None past e = omega (arith, e)
step_after entries (Some settled) past e = omega (arith, e)

made_length : (entries : ℕ) (settled : Option Settled) (event : Event) (drawn : List ℕ) (reply : Reply) (past : History) → entries ≡ length past → entries + entries_made settled ≡ length (after_step settled event drawn reply past)
made_length entries None event drawn reply past e = omega (arith, e)
made_length entries (Some settled) event drawn reply past e = omega (arith, e)

-- a settled past stays legal before the step's entry
may_settle : (setup : Setup) (past : History) (new : Tables) (event : Event) (settled : Option Settled) → HasSettled setup past new event.act settled → MaySettleFirst settled past event
may_settle setup past new event None has = tt
may_settle setup past new event (Some settled) has = record { waits = has.waits settled refl; settles = has.settles settled refl }

legal_after : (setup : Setup) (past : History) (new : Tables) (event : Event) (settled : Option Settled) → HasSettled setup past new event.act settled → Legal setup past → LegalBefore setup (Some event) (after_settling settled past)
legal_after setup past new event None has legal = goes_on setup (Some event) past legal
legal_after setup past new event (Some settled) has legal = (may_settle setup past new event (Some settled) has, legal)

-- the works that are out stay
stays_from : (setup : Setup) (past later : History) (settled : Option Settled) → Stays setup (after_settling settled past) later → Stays setup past later
stays_from setup past later None stays = stays
stays_from setup past later (Some settled) stays = stays

-- ---- the tables of a step whose settling went well

module _ (setup : Setup) (past : History) (old : Engine) (mid : Tables) (event : Event) (settled : Option Settled) (back : Option JobDone)
    (stands : Stands setup old past) (has : HasSettled setup past mid event.act settled) where
  pub stands_mid : HasDone setup past event.act back → StandsAt setup mid (after_settling settled past) (old.entries + entries_made settled) event.act back
  stands_mid done = record {
    tables_stand = has.stands;
    step_is = step_after old.entries settled past stands.entries;
    done_is = has_done setup past settled event.act back done;
  }

  pub is_at : HasDone setup past event.act back → IsAt mid (old.entries + entries_made settled) event.act back
  is_at done = record {
    setup = setup;
    past = after_settling settled past;
    stands = stands_mid done;
    legal = record { next = Some event; legal = legal_after setup past mid event settled has stands.legal; storable = stands.storable };
  }

  module _ (new : Tables) (answered : Answered) (after : AnswersAfter setup (after_settling settled past) new event answered) where
    pub may_step : MayStep setup past settled event answered.drawn answered.reply
    may_step = record { settles = may_settle setup past mid event settled has; follows = after.follows has.ready }

    pub stands_on : (later : Engine) → later.tables ≡ new → later.entries ≡ old.entries + entries_made settled → Stands setup later (after_step settled event answered.drawn answered.reply past)
    stands_on later tables entries = record {
      entries = entries ∙ made_length old.entries settled event answered.drawn answered.reply past stands.entries;
      tables = rw tables after.stands;
      legal = legal_step setup past settled event answered.drawn answered.reply stands.legal may_step;
      storable = stands.storable;
    }

    pub stays_on : Stays setup past (after_step settled event answered.drawn answered.reply past)
    stays_on = stays_from setup past (after_step settled event answered.drawn answered.reply past) settled after.stays

-- ---- the store of such a step

-- what is known after the settling is what is known of the history after it
first_holding : (setup : Setup) (past : History) (new : Tables) (act : Act) (settled : Option Settled) → HasSettled setup past new act settled → after_first {E = Unit {0}} (Ok settled) (holding_of setup past) ≡ holding_of setup (after_settling settled past)
first_holding setup past new act None has = refl
first_holding setup past new act (Some settled) has = sym (settled_holding_is setup past settled (has.waits settled refl))

-- what a settling finds may have been before it
settled_member : (settled : Settled) (held : Holding) (image : List ℕ) → MayBe (settled_in settled held) image → MayBe held image
settled_member Kept (Sure part) image may = may
settled_member Lost (Sure part) image may = may
settled_member Kept (Unsure part later) image may = inr may
settled_member Lost (Unsure part later) image may = inl may

first_member : (settled : Option Settled) (held : Holding) (image : List ℕ) → MayBe (after_first {E = Unit {0}} (Ok settled) held) image → MayBe held image
first_member None held image may = may
first_member (Some settled) held image may = settled_member settled held image may

module _ {D : Type 0} (g : Ghosts D) (setup : Setup) (past : History) (old mid new : Tables) (disk between later : D) (event : Event) (settled : Option Settled) (answered : Answered)
    (has : HasSettled setup past mid event.act settled) (ready : (fixed_for event.act).settles ≡ true → is_unsettled mid.keys ≡ false)
    (first : (held : Holding) → Holds g old.keys disk held → Holds g mid.keys between (after_first {E = Unit {0}} (Ok settled) held)) (goes : StoreAnswers g mid new between later event answered)
    (held : Holds g old.keys disk (holding_of setup past)) where
  pub held_mid : Holds g mid.keys between (holding_of setup (after_settling settled past))
  held_mid = subst (λ h. Holds g mid.keys between h) (first_holding setup past mid event.act settled has) (first (holding_of setup past) held)

  pub store_steps : Holds g new.keys later (holding_of setup (after_step settled event answered.drawn answered.reply past))
  store_steps = store_goes_on g setup (after_settling settled past) mid new between later event answered has.stands ready goes held_mid

  -- what is surely kept, where the settling kept it so
  pub surely_steps : ((before : Holding) → Holds g old.keys disk before → KeepsSurely g (areas_of old.keys) disk (known before)
      → StepsSurely g (areas_of old.keys) (areas_of mid.keys) disk between (known before) (known (after_first {E = Unit {0}} (Ok settled) before)))
      → KeepsSurely g (areas_of old.keys) disk (known (holding_of setup past))
      → StepsSurely g (areas_of old.keys) (areas_of new.keys) disk later (known (holding_of setup past)) (known (holding_of setup (after_step settled event answered.drawn answered.reply past)))
  surely_steps settles keeps =
      let one : StepsSurely g (areas_of old.keys) (areas_of mid.keys) disk between (known (holding_of setup past)) (known (holding_of setup (after_settling settled past))) =
      subst (λ (h : Holding). StepsSurely g (areas_of old.keys) (areas_of mid.keys) disk between (known (holding_of setup past)) (known h)) (first_holding setup past mid event.act settled has)
      (settles (holding_of setup past) held keeps) in
      steps_on g (areas_of old.keys) (areas_of mid.keys) (areas_of new.keys) disk between later (known (holding_of setup past)) (known (holding_of setup (after_settling settled past)))
      (known (holding_of setup (after_step settled event answered.drawn answered.reply past))) one
      (surely_goes_on g setup (after_settling settled past) mid new between later event answered has.stands ready goes held_mid one.keeps)

  pub store_moments : ((before : Holding) → Holds g old.keys disk before → Passes g disk between (MayBe before))
      → Passes g disk later (MayHoldEither setup past (after_step settled event answered.drawn answered.reply past))
  store_moments passes =
      passes_on g disk between later (MayBe (holding_of setup past)) (Between (holding_of setup (after_settling settled past)) (holding_of setup (after_step settled event answered.drawn answered.reply past)))
      (MayHoldEither setup past (after_step settled event answered.drawn answered.reply past)) (passes (holding_of setup past) held)
      (store_passes g setup (after_settling settled past) mid new between later event answered has.stands ready goes held_mid)
      (λ image may. inl may) (λ image either. ⊎_elim (λ (m : MayBe (holding_of setup (after_settling settled past)) image). inl (before image m)) (λ m. inr m) either) where
        before : (image : List ℕ) → MayBe (holding_of setup (after_settling settled past)) image → MayBe (holding_of setup past) image
        before image may = first_member settled (holding_of setup past) image (subst (λ h. MayBe h image) (sym (first_holding setup past mid event.act settled has)) may)

-- ---- a step whose settling failed

module _ (setup : Setup) (past : History) (old : Engine) (mid : Tables) (event : Event) (stands : Stands setup old past) (not_has : HasNotSettled past old.tables mid event.act) where
  abbrev Unmade : History
  Unmade = Acted event [] (Stopped SystemError) ∷ past

  pub may_not : MayStep setup past None event [] (Stopped SystemError)
  may_not = record { settles = tt; follows = NotSettled (record { waits = not_has.waits; settles = not_has.settles; drew = refl; is_fault = refl }) }

  unmade : TablesStand setup mid Unmade × Stays setup past Unmade
  unmade = not_made setup past old.tables mid event stands.tables not_has.same not_has.waits not_has.settles

  pub stands_not : (later : Engine) → later.tables ≡ mid → later.entries ≡ old.entries + 1 → Stands setup later Unmade
  stands_not later tables entries = record {
    entries = omega (arith, entries, stands.entries);
    tables = rw tables unmade.0;
    legal = legal_step setup past None event [] (Stopped SystemError) stands.legal may_not;
    storable = stands.storable;
  }

  pub stays_not : Stays setup past Unmade
  stays_not = unmade.1

  pub holding_not : holding_of setup Unmade ≡ holding_of setup past
  holding_not = same_holding setup past Unmade (waiting_stored setup past event [] (Stopped SystemError) refl not_has.waits)

  pub held_not : {D : Type 0} (g : Ghosts D) (disk : D) (later : Engine) → later.tables ≡ mid → Holds g mid.keys disk (holding_of setup past) → Holds g later.tables.keys disk (holding_of setup Unmade)
  held_not g disk later tables held = subst (λ (t : Tables). Holds g t.keys disk (holding_of setup Unmade)) (sym tables) (subst (λ h. Holds g mid.keys disk h) (sym holding_not) held)

  pub surely_not : {D : Type 0} (g : Ghosts D) (disk between : D) (later : Engine) → later.tables ≡ mid
      → StepsSurely g (areas_of old.tables.keys) (areas_of mid.keys) disk between (known (holding_of setup past)) (known (holding_of setup past))
      → StepsSurely g (areas_of old.tables.keys) (areas_of later.tables.keys) disk between (known (holding_of setup past)) (known (holding_of setup Unmade))
  surely_not g disk between later tables steps =
      subst (λ (t : Tables). StepsSurely g (areas_of old.tables.keys) (areas_of t.keys) disk between (known (holding_of setup past)) (known (holding_of setup Unmade))) (sym tables)
      (subst (λ (h : Holding). StepsSurely g (areas_of old.tables.keys) (areas_of mid.keys) disk between (known (holding_of setup past)) (known h)) (sym holding_not) steps)
