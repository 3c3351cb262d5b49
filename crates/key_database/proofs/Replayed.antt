-- Reading the records of a store in turn.
use Rattle.std.proofs.Common.{◌≡◌, ℕ, true, false, List, [], ◌∷◌, ◌++◌, Some, Err, refl, sym, ap, ◌∙◌}
use Rattle.std.specs.Option.{option_and_then, option_map}
use Rattle.ks_outside.specs.declared.disk.Disk.{Ghosts}
use Rattle.ks_outside.specs.Images.{Reads}
use Rattle.ks_outside.proofs.Goings.{reads_none, reads_on}
use Rattle.disk_calls.specs.Still.{IsStill}
use Rattle.journal_records.specs.declared.fault.StoreFault.{StoreFault}
use Rattle.journal_records.specs.declared.fault.StoreFault.TheVariants as faults
use Rattle.journal_records.specs.declared.record.Record.{Record}
use Rattle.journal_records.specs.LastingPart.{Lasting, empty_lasting}
use Rattle.journal_records.specs.States.{AtStart, ReadState, after_in, met_in, state_of, stepped}
use Rattle.record_areas.specs.Readings.{IsBehind, IsThrough, IsWhole, ReadsOn, place_of}
use Rattle.record_areas.specs.declared.reading.Reading.{Reading}
use Rattle.key_database.specs.Store.{part_of}
use Rattle.key_database.specs.Stands.{AreBroken, AreUnmet, FindsRest, HasRest, IsReplayed, LeaveNothing, Replays}

-- ---- the rest, which is read and let go

-- behind records, so many more were read
pub record IsBehindMore {D : Type 0} (g : Ghosts D) (reading : Reading) (disk : D) (start limit kinds : ℕ) (past : List Record) : Type 0 where
  pub later : List Record
  pub behind : IsBehind g reading disk start limit kinds (later ++ past)

pub record IsRest {D : Type 0} (g : Ghosts D) (old now : D) (begun reading : Reading) : Type 0 where
  pub whole : IsWhole reading
  pub still : IsStill g now
  pub reads : Reads g old now false
  pub more : (start limit kinds : ℕ) (past : List Record) → IsBehind g begun old start limit kinds past → IsBehindMore g reading now start limit kinds past

module _ {D : Type 0} (g : Ghosts D) where
  pub rest_begins : (disk : D) (reading : Reading) → IsWhole reading → IsStill g disk → IsRest g disk disk reading reading
  rest_begins disk reading whole still = record {
    whole = whole;
    still = still;
    reads = reads_none g disk;
    more = λ start limit kinds past behind. record { later = []; behind = behind };
  }

  pub rest_on : (old now new : D) (begun reading next : Reading) (it : Record) → IsRest g old now begun reading → IsWhole next → IsStill g new → Reads g now new false
      → ((start limit kinds : ℕ) (past : List Record) → IsBehind g reading now start limit kinds past → IsBehind g next new start limit kinds (it ∷ past)) → IsRest g old new begun next
  rest_on old now new begun reading next it r whole still calls on = record {
    whole = whole;
    still = still;
    reads = reads_on g old now new false r.reads calls;
    more = λ start limit kinds past behind.
        let m = r.more start limit kinds past behind in
        record { later = it ∷ m.later; behind = on start limit kinds (m.later ++ past) m.behind };
  }

  -- what ends it
  pub rest_ends : (old now new : D) (begun reading next : Reading) → IsRest g old now begun reading
      → ((start limit kinds : ℕ) (past : List Record) → IsBehind g reading now start limit kinds past → IsThrough g next new start limit kinds past)
      → (start limit kinds : ℕ) (past : List Record) → IsBehind g begun old start limit kinds past → HasRest g next new start limit kinds past
  rest_ends old now new begun reading next r ends start limit kinds past behind =
      let m = r.more start limit kinds past behind in
      record { later = m.later; through = ends start limit kinds (m.later ++ past) m.behind }

  pub rest_fails : (old now new : D) (begun reading next : Reading) (fault : StoreFault) → IsRest g old now begun reading
      → ((start limit kinds : ℕ) (past : List Record) → IsBehind g reading now start limit kinds past → ReadsOn g next new start limit kinds past (Err fault))
      → (start limit kinds : ℕ) (past : List Record) → IsBehind g begun old start limit kinds past → FindsRest g next new start limit kinds past (Err fault)
  rest_fails old now new begun reading next faults.Device r fails start limit kinds past behind = tt
  rest_fails old now new begun reading next (faults.Corrupted offset) r fails start limit kinds past behind =
      let m = r.more start limit kinds past behind in fails start limit kinds (m.later ++ past) m.behind
  rest_fails old now new begun reading next faults.Memory r fails start limit kinds past behind = tt

-- ---- records, put in turn

-- behind records that leave a state
pub record IsBehindState {D : Type 0} (g : Ghosts D) (reading : Reading) (disk : D) (start limit kinds : ℕ) (state : ReadState) : Type 0 where
  pub past : List Record
  pub behind : IsBehind g reading disk start limit kinds past
  pub left : state_of past ≡ Some state

pub record IsMade {D : Type 0} (g : Ghosts D) (old now : D) (begun reading : Reading) (at : ℕ) (state : ReadState) : Type 0 where
  pub whole : IsWhole reading
  pub still : IsStill g now
  pub reads : Reads g old now false
  pub at_is : at ≡ place_of reading
  pub made : (start limit kinds : ℕ) → IsBehind g begun old start limit kinds [] → IsBehindState g reading now start limit kinds state

step_is : (state : ReadState) (it : Record) → met_in state it ≡ true → stepped state it ≡ Some (after_in state it)
step_is state it met = rw met refl

module _ {D : Type 0} (g : Ghosts D) where
  pub made_begins : (disk : D) (reading : Reading) (at : ℕ) (state : ReadState) → IsWhole reading → IsStill g disk → at ≡ place_of reading → state ≡ record { part = empty_lasting; phase = AtStart }
      → IsMade g disk disk reading reading at state
  made_begins disk reading at state whole still at_is empty = record {
    whole = whole;
    still = still;
    reads = reads_none g disk;
    at_is = at_is;
    made = λ start limit kinds behind. record { past = []; behind = behind; left = ap (λ s. Some s) (sym empty) };
  }

  -- a record more, whose need is met
  pub made_on : (old now new : D) (begun reading next : Reading) (at later : ℕ) (state next_state : ReadState) (it : Record) → IsMade g old now begun reading at state
      → met_in state it ≡ true → next_state ≡ after_in state it → IsWhole next → IsStill g new → Reads g now new false → later ≡ place_of next
      → ((start limit kinds : ℕ) (past : List Record) → IsBehind g reading now start limit kinds past → IsBehind g next new start limit kinds (it ∷ past)) → IsMade g old new begun next later next_state
  made_on old now new begun reading next at later state next_state it m met made whole still calls later_is on = record {
    whole = whole;
    still = still;
    reads = reads_on g old now new false m.reads calls;
    at_is = later_is;
    made = λ start limit kinds behind.
        let b = m.made start limit kinds behind in
        record {
          past = it ∷ b.past;
          behind = on start limit kinds b.past b.behind;
          left = ap (option_and_then (λ s. stepped s it)) b.left ∙ step_is state it met ∙ ap (λ s. Some s) (sym made);
        };
  }

  -- all of them
  pub made_ends : (old now new : D) (begun reading next : Reading) (at : ℕ) (state : ReadState) → IsMade g old now begun reading at state
      → ((start limit kinds : ℕ) (past : List Record) → IsBehind g reading now start limit kinds past → IsThrough g next new start limit kinds past)
      → (part : Lasting) → part ≡ state.part → (start limit kinds : ℕ) → IsBehind g begun old start limit kinds [] → IsReplayed g next new start limit kinds part
  made_ends old now new begun reading next at state m ends part is start limit kinds behind =
      let b = m.made start limit kinds behind in
      record { past = b.past; through = ends start limit kinds b.past b.behind; left = ap (option_map part_of) b.left ∙ ap (λ p. Some p) (sym is) }

  -- one whose need is not met, with the rest behind it
  pub made_unmet : (old now new last : D) (begun reading next rest : Reading) (at : ℕ) (state : ReadState) (it : Record) → IsMade g old now begun reading at state → met_in state it ≡ false
      → ((start limit kinds : ℕ) (past : List Record) → IsBehind g reading now start limit kinds past → IsBehind g next new start limit kinds (it ∷ past))
      → ((start limit kinds : ℕ) (past : List Record) → IsBehind g next new start limit kinds past → HasRest g rest last start limit kinds past)
      → (start limit kinds : ℕ) → IsBehind g begun old start limit kinds [] → LeaveNothing g last start limit kinds at
  made_unmet old now new last begun reading next rest at state it m unmet on ends start limit kinds behind =
      let b = m.made start limit kinds behind in
      let r = ends start limit kinds (it ∷ b.past) (on start limit kinds b.past b.behind) in
      AreUnmet (record {
        past = r.later ++ it ∷ b.past;
        records = r.through.records;
        images = r.through.images;
        first = record {
          before = b.past;
          it = it;
          later = r.later;
          is = refl;
          state = state;
          left = b.left;
          unmet = unmet;
          place = m.at_is ∙ b.behind.place;
        };
      })

  -- or where the records are broken off
  pub made_fails : (old now new : D) (begun reading next : Reading) (at : ℕ) (state : ReadState) (fault : StoreFault) → IsMade g old now begun reading at state
      → ((start limit kinds : ℕ) (past : List Record) → IsBehind g reading now start limit kinds past → ReadsOn g next new start limit kinds past (Err fault))
      → (start limit kinds : ℕ) → IsBehind g begun old start limit kinds [] → Replays g next new start limit kinds (Err fault)
  made_fails old now new begun reading next at state faults.Device m fails start limit kinds behind = tt
  made_fails old now new begun reading next at state (faults.Corrupted offset) m fails start limit kinds behind =
      let b = m.made start limit kinds behind in AreBroken (fails start limit kinds b.past b.behind)
  made_fails old now new begun reading next at state faults.Memory m fails start limit kinds behind = tt

  -- or are so behind a need that is not met
  pub rest_replays : (old now new last : D) (begun reading next rest : Reading) (at : ℕ) (state : ReadState) (it : Record) (fault : StoreFault) → IsMade g old now begun reading at state
      → ((start limit kinds : ℕ) (past : List Record) → IsBehind g reading now start limit kinds past → IsBehind g next new start limit kinds (it ∷ past))
      → ((start limit kinds : ℕ) (past : List Record) → IsBehind g next new start limit kinds past → FindsRest g rest last start limit kinds past (Err fault))
      → (start limit kinds : ℕ) → IsBehind g begun old start limit kinds [] → Replays g rest last start limit kinds (Err fault)
  rest_replays old now new last begun reading next rest at state it faults.Device m on fails start limit kinds behind = tt
  rest_replays old now new last begun reading next rest at state it (faults.Corrupted offset) m on fails start limit kinds behind =
      let b = m.made start limit kinds behind in AreBroken (fails start limit kinds (it ∷ b.past) (on start limit kinds b.past b.behind))
  rest_replays old now new last begun reading next rest at state it faults.Memory m on fails start limit kinds behind = tt
