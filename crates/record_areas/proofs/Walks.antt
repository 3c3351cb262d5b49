-- Reading an area from left to right.
use Rattle.std.proofs.Common.{◌≡◌, ℕ, ◌+◌, ◌<◌, true, false, List, [], ◌∷◌, ◌++◌, length, take, map, reverse, Option, Some, None, Result, Ok, Err, refl, sym, ap, subst, ◌∙◌, append_assoc, arith, length-append}
use Rattle.std.specs.Prelude.{is_some, IfOk, IfSome}
use Rattle.std.proofs.lemmas.List.{map-append, reverse-append, take_at}
use Rattle.ks_outside.specs.declared.disk.Disk.{Ghosts}
use Rattle.ks_outside.specs.Images.{AllImages, Reads, tells}
use Rattle.ks_outside.proofs.Goings.{reads_none, reads_on as read_more}
use Rattle.disk_calls.specs.Still.{IsStill}
use Rattle.journal_records.specs.declared.record.Record.{Record}
use Rattle.journal_records.specs.declared.fault.StoreFault.{StoreFault}
use Rattle.journal_records.specs.declared.fault.StoreFault.TheVariants as faults
use Rattle.journal_records.specs.Spelling.{IsRecord, record_framed, spelled}
use Rattle.record_areas.specs.Frames.{AreRecords, Frame, HasNoRecord, HasRecords, IsBrokenAt, IsMarked, bytes_between, past_of, placed}
use Rattle.record_areas.specs.Holding.{FindsRecords, IsFrameOf, IsRead, IsSettledOn, ReadsArea}
use Rattle.record_areas.specs.Holding as areas
use Rattle.record_areas.specs.Readings.{HasRead, IsBehind, IsOver, IsThrough, IsWhole, ReadsOn, kinds_of, limit_of, place_of, start_of}
use Rattle.record_areas.specs.Windows.{IsSeen, ReadsNext, StandsShut, ahead_of, next_length}
use Rattle.record_areas.specs.declared.area.Area.{Area}
use Rattle.record_areas.specs.declared.reading.Reading.{Reading}
use Rattle.record_areas.proofs.Unique.{not_broken, same_records, taken_between}

past_of-push : (all : List (ℕ × Record)) (at : ℕ) (it : Record) → past_of (all ++ (at, it) ∷ []) ≡ it ∷ past_of all
past_of-push all at it =
    ap reverse (map-append (λ (c : ℕ × Record). c.1) all ((at, it) ∷ []))
    ∙ reverse-append (map (λ (c : ℕ × Record). c.1) all) (it ∷ [])

module _ {D : Type 0} (g : Ghosts D) where
  -- a record more
  reads_on : (old new : D) (start limit kinds : ℕ) (reading next : Reading) (past : List Record) (it : Record) → IsBehind g reading old start limit kinds past → IsOver next start limit kinds
      → place_of next ≡ place_of reading + length (record_framed it) → IsRecord (kinds_of reading) it
      → (AllImages g old (IsSeen reading.window) → AllImages g new (IsSeen next.window))
      → (AllImages g old (IsSeen reading.window) → AllImages g new (λ image. ahead_of reading.window image ≡ record_framed it ++ ahead_of next.window image))
      → AllImages g new (g.images old) → IsBehind g next new start limit kinds (it ∷ past)
  reads_on old new start limit kinds reading next past it b over place fits seen reads fewer =
      let was : AllImages g old (IsSeen reading.window) = λ image left. (b.images image left).seen in
      record {
        over = over;
        place = place ∙ omega (arith, b.place, length-append (spelled past) (record_framed it));
        records = (subst (λ (k : ℕ). IsRecord k it) b.over.kinds_is fits, b.records);
        images = λ image left. record {
          seen = seen was image left;
          is =
              let here : bytes_between (place_of reading) limit image ≡ record_framed it ++ bytes_between (place_of next) limit image =
              ap (λ (k : ℕ). bytes_between (place_of reading) k image) (sym b.over.limit_is) ∙ reads was image left ∙ ap (λ (k : ℕ). record_framed it ++ bytes_between (place_of next) k image) over.limit_is in
              (b.images image (fewer image left)).is ∙ ap (λ (l : List ℕ). spelled past ++ l) here
              ∙ sym (append_assoc (spelled past) (record_framed it) (bytes_between (place_of next) limit image));
        };
      }

  -- a gate that is shut ends them
  reads_end : (old new : D) (start limit kinds : ℕ) (reading next : Reading) (past : List Record) → IsBehind g reading old start limit kinds past → IsOver next start limit kinds
      → place_of next ≡ place_of reading → place_of reading < limit_of reading
      → (AllImages g old (IsSeen reading.window) → AllImages g new (λ image. StandsShut (ahead_of reading.window image)))
      → AllImages g new (g.images old) → IsThrough g next new start limit kinds past
  reads_end old new start limit kinds reading next past b over same before shut fewer = record {
    over = over;
    place = same ∙ b.place;
    within = omega (arith, same, before, over.limit_is, b.over.limit_is);
    records = b.records;
    images = λ image left.
        let stands = shut (λ c held. (b.images c held).seen) image left in
        let front = spelled past in
        let whole : bytes_between start limit image ≡ front ++ stands.gate ∷ stands.rest =
        (b.images image (fewer image left)).is ∙ ap (λ (l : List ℕ). front ++ l) (ap (λ (k : ℕ). bytes_between (place_of reading) k image) (sym b.over.limit_is) ∙ stands.is) in
        let n = length (front ++ stands.gate ∷ []) in
        let size : n ≡ length front + 1 = length-append front (stands.gate ∷ []) in
        record {
          area = record {
            gate = stands.gate;
            closed = stands.closed;
            is = sym (taken_between start limit n image (omega (arith, size, b.place, before, b.over.limit_is)))
                ∙ ap (take n) (whole ∙ sym (append_assoc front (stands.gate ∷ []) stands.rest)) ∙ take_at (front ++ stands.gate ∷ []) stands.rest n refl;
          };
          within = omega (arith, b.place, before, b.over.limit_is);
        };
  }

  -- neither a record nor such a gate
  reads_broken : (old new : D) (start limit kinds offset : ℕ) (reading : Reading) (past : List Record) → IsBehind g reading old start limit kinds past
      → (AllImages g old (IsSeen reading.window) → AllImages g new (λ image. (offset ≡ place_of reading) × HasNoRecord (kinds_of reading) (ahead_of reading.window image)))
      → AllImages g new (g.images old) → AllImages g new (λ image. IsBrokenAt start limit kinds image offset)
  reads_broken old new start limit kinds offset reading past b none fewer image left =
      let broken = none (λ c held. (b.images c held).seen) image left in
      record {
        past = past;
        records = b.records;
        left = bytes_between (place_of reading) limit image;
        is = (b.images image (fewer image left)).is;
        broken = subst (λ (k : ℕ × ℕ). HasNoRecord k.0 (bytes_between (place_of reading) k.1 image)) (λ i. (b.over.kinds_is i, b.over.limit_is i)) broken.1;
        place = broken.0 ∙ b.place;
      }

  -- what the next step finds
  pub reads_next : (old new : D) (start limit kinds : ℕ) (reading next : Reading) (past : List Record) (result : Result (Option Record) StoreFault)
      → start_of next ≡ start_of reading → kinds_of next ≡ kinds_of reading → limit_of next ≡ limit_of reading
      → IfOk result (λ it. place_of next ≡ place_of reading + next_length it) → IfOk result (λ it. IfSome it (IsRecord (kinds_of reading))) → IfOk result (λ it. place_of reading < limit_of reading)
      → (AllImages g old (IsSeen reading.window) → AllImages g new (IsSeen next.window))
      → (AllImages g old (IsSeen reading.window) → AllImages g new (λ image. ReadsNext (kinds_of reading) (place_of reading) (ahead_of reading.window image) (ahead_of next.window image) result))
      → AllImages g new (g.images old) → IsBehind g reading old start limit kinds past → ReadsOn g next new start limit kinds past result
  reads_next old new start limit kinds reading next past (Ok None) starts kind ends place fits before seen reads fewer b =
      reads_end old new start limit kinds reading next past b (record { start_is = starts ∙ b.over.start_is; limit_is = ends ∙ b.over.limit_is; kinds_is = kind ∙ b.over.kinds_is })
      (omega (arith, place)) before reads fewer
  reads_next old new start limit kinds reading next past (Ok (Some it)) starts kind ends place fits before seen reads fewer b =
      reads_on old new start limit kinds reading next past it b (record { start_is = starts ∙ b.over.start_is; limit_is = ends ∙ b.over.limit_is; kinds_is = kind ∙ b.over.kinds_is })
      place fits seen reads fewer
  reads_next old new start limit kinds reading next past (Err faults.Device) starts kind ends place fits before seen reads fewer b = tt
  reads_next old new start limit kinds reading next past (Err (faults.Corrupted offset)) starts kind ends place fits before seen reads fewer b =
      reads_broken old new start limit kinds offset reading past b reads fewer
  reads_next old new start limit kinds reading next past (Err faults.Memory) starts kind ends place fits before seen reads fewer b = tt

-- how far a reading has come that lists the records: they are those behind which it is, each with its place
pub record IsWalked {D : Type 0} (g : Ghosts D) (old now : D) (start limit kinds at : ℕ) (reading : Reading) (all : List (ℕ × Record)) : Type 0 where
  pub at_is : at ≡ place_of reading
  pub whole : IsWhole reading
  pub behind : IsBehind g reading now start limit kinds (past_of all)
  pub places : all ≡ placed start (past_of all)
  pub still : IsStill g now
  pub reads : Reads g old now false

module _ {D : Type 0} (g : Ghosts D) where
  pub walk_begins : (disk : D) (start limit kinds : ℕ) (reading : Reading) → IsWhole reading → IsOver reading start limit kinds → place_of reading ≡ start
      → ((image : List ℕ) → HasRead reading start limit [] image) → IsStill g disk → IsWalked g disk disk start limit kinds start reading []
  walk_begins disk start limit kinds reading whole over place begins still = record {
    at_is = sym place;
    whole = whole;
    behind = record { over = over; place = omega (arith, place); records = tt; images = λ image left. begins image };
    places = refl;
    still = still;
    reads = reads_none g disk;
  }

  -- a record more
  pub walk_on : (old mid new : D) (start limit kinds at later : ℕ) (reading next : Reading) (all more : List (ℕ × Record)) (it : Record) → IsWalked g old mid start limit kinds at reading all
      → IsWhole next → ((past : List Record) → IsBehind g reading mid start limit kinds past → IsBehind g next new start limit kinds (it ∷ past))
      → more ≡ all ++ (at, it) ∷ [] → later ≡ place_of next → IsStill g new → Reads g mid new false → IsWalked g old new start limit kinds later next more
  walk_on old mid new start limit kinds at later reading next all more it w whole behind pushed later_is still calls =
      let past = past_of all in
      let grown : past_of more ≡ it ∷ past = ap past_of pushed ∙ past_of-push all at it in
      record {
        at_is = later_is;
        whole = whole;
        behind = subst (λ (p : List Record). IsBehind g next new start limit kinds p) (sym grown) (behind past w.behind);
        places = pushed ∙ (λ i. w.places i ++ ((w.at_is ∙ w.behind.place) i, it) ∷ []) ∙ ap (placed start) (sym grown);
        still = still;
        reads = read_more g old mid new false w.reads calls;
      }

  -- ---- what a reading says of a frame

  pub settled_from : (old new : D) (frame : Frame) (start limit kinds : ℕ) (area : Area) (all : List (ℕ × Record)) → IsFrameOf frame start limit kinds → IsRead start limit kinds area all
      → AllImages g new (HasRecords start limit (past_of all)) → AllImages g old (IsMarked frame) → AllImages g new (g.images old) → IsSettledOn g area new frame (past_of all)
  settled_from old new frame start limit kinds area all of read has marked fewer = record {
    idle = read.idle;
    of = record { start = read.start_is ∙ sym of.start_is; limit = read.limit_is ∙ sym of.limit_is; apart = of.apart };
    place = read.end_is ∙ ap (λ (k : ℕ). k + length (spelled (past_of all))) (sym of.start_is);
    records = subst (λ (k : ℕ). AreRecords k (past_of all)) (sym of.kinds_is) read.records;
    images = λ image left. record {
      marked = marked image (fewer image left);
      records = subst (λ (p : ℕ × ℕ). HasRecords p.0 p.1 (past_of all) image) (λ i. (sym of.start_is i, sym of.limit_is i)) (has image left);
    };
  }

  pub settled_if : (old new : D) (frame : Frame) (start limit kinds : ℕ) (result : Result (Area × List (ℕ × Record)) StoreFault) → IsFrameOf frame start limit kinds
      → IfOk result (λ opened. IsRead start limit kinds opened.0 opened.1) → AllImages g new (λ image. ReadsArea start limit kinds image result)
      → AllImages g old (IsMarked frame) → AllImages g new (g.images old) → IfOk result (λ opened. IsSettledOn g opened.0 new frame (past_of opened.1))
  settled_if old new frame start limit kinds (Ok opened) of read has marked fewer = settled_from old new frame start limit kinds opened.0 opened.1 of read has marked fewer
  settled_if old new frame start limit kinds (Err fault) of read has marked fewer = tt

  some_of : (content : Option (List ℕ)) → is_some content ≡ true → (bytes : List ℕ) × (content ≡ Some bytes)
  some_of None e = absurd (cc)
  some_of (Some bytes) e = (bytes, refl)

  finds_in : (start limit kinds : ℕ) (past : List Record) (image : List ℕ) (result : Result (Area × List (ℕ × Record)) StoreFault) → AreRecords kinds past → HasRecords start limit past image
      → IfOk result (λ opened. IsRead start limit kinds opened.0 opened.1) → ReadsArea start limit kinds image result → FindsRecords start past result
  finds_in start limit kinds past image (Ok opened) fit has read reads =
      read.places ∙ ap (placed start) (same_records start limit kinds (past_of opened.1) past image read.records fit reads has)
  finds_in start limit kinds past image (Err faults.Device) fit has read reads = tt
  finds_in start limit kinds past image (Err (faults.Corrupted offset)) fit has read reads = not_broken start limit kinds past offset image fit has reads
  finds_in start limit kinds past image (Err faults.Memory) fit has read reads = tt

  -- a disk that tells its bytes is read as what it holds
  pub finds_if : ((disk : D) (c : List ℕ) → g.content disk ≡ Some c → g.images disk c) → (old new : D) (start limit kinds : ℕ) (past : List Record)
      (result : Result (Area × List (ℕ × Record)) StoreFault) → tells g new ≡ tells g old → AreRecords kinds past → AllImages g old (HasRecords start limit past) → tells g old ≡ true
      → AllImages g new (g.images old) → IfOk result (λ opened. IsRead start limit kinds opened.0 opened.1) → AllImages g new (λ image. ReadsArea start limit kinds image result)
      → FindsRecords start past result
  finds_if law old new start limit kinds past result telling fit has told fewer read reads =
      let bytes = some_of (g.content new) (telling ∙ told) in
      let image = law new bytes.0 bytes.1 in
      finds_in start limit kinds past bytes.0 result fit (has bytes.0 (fewer bytes.0 image)) read (reads bytes.0 image)

  -- where a reading has come to the gate that is shut, its area is what was read
  pub read_through : (disk : D) (start limit kinds : ℕ) (reading : Reading) (area : Area) (all : List (ℕ × Record)) → IsThrough g reading disk start limit kinds (past_of all)
      → areas.start_of area ≡ start_of reading → areas.limit_of area ≡ limit_of reading → areas.end_of area ≡ place_of reading → areas.is_waiting area ≡ false
      → all ≡ placed start (past_of all) → IsRead start limit kinds area all
  read_through disk start limit kinds reading area all through starts ends end idle places = record {
    idle = idle;
    start_is = starts ∙ through.over.start_is;
    limit_is = ends ∙ through.over.limit_is;
    end_is = end ∙ through.place;
    places = places;
    records = through.records;
  }
