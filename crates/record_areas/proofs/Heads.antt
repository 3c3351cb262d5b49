-- What stands first where a record may, by the bytes that were read.
use Rattle.std.proofs.Common.{◌≡◌, ◌⊎◌, inl, inr, ⊎_elim, ℕ, suc, ◌+◌, ◌-◌, ◌<◌, ◌≤◌, Bool, true, false, cond, ltb, eqb, List, [], ◌∷◌, ◌++◌, length, take, drop, Option, Some, None, refl, sym, ap, subst, ◌∙◌, append_assoc, arith, length-append, take-append-drop}
use Rattle.std.specs.Option.{option_and_then}
use Rattle.std.proofs.lemmas.Bool.{cases_lt, eqb-false, eqb-true, le-ltb, lt-ltb, ltb-true}
use Rattle.std.proofs.lemmas.List.{drop_at, length-take-le, take-append-le, take-take, take_at}
use Rattle.std.specs.Prelude.{min}
use Rattle.byteorder.specs.Endian.{big_bytes, big_number}
use Rattle.byte_strings.specs.Codecs.{IsBytes}
use Rattle.byte_strings.specs.Readers.{counted_at, number_at}
use Rattle.byte_strings.proofs.Fields.{guard_some, u32_codec}
use Rattle.journal_records.specs.declared.record.Record.{Record}
use Rattle.journal_records.specs.Reading.{body_in, record_at}
use Rattle.journal_records.specs.Spelling.{record_framed, record_tail}
use Rattle.record_areas.specs.Frames.{HasNoRecord, bytes_between}
use Rattle.journal_records.specs.declared.fault.StoreFault.{StoreFault}
use Rattle.journal_records.specs.declared.fault.StoreFault.TheVariants as faults
use Rattle.record_areas.specs.BodyLengths.{may_begin}
use Rattle.record_areas.specs.Windows.{Refuses, StandsShut, TellsNoPlace, head_of, may_stand, sized}
use Rattle.record_areas.specs.declared.opening.Head.TheVariants.{Broken, Opened, Shut}
use Rattle.record_areas.proofs.FirstBytes.{no_body_begins}
use Rattle.record_areas.proofs.Seeing.{between_on}

-- the bytes that were read are the first of all
pub first_of : (held all : List ℕ) → held ≡ take (length held) all → all ≡ held ++ drop (length held) all
first_of held all seen = sym (take-append-drop (length held) all) ∙ ap (λ (front : List ℕ). front ++ drop (length held) all) (sym seen)

-- ---- a record by the length before it

none_found : (left : List ℕ) (found : Option Record) → ◌≡◌ {A = Option (Record × List ℕ)} (option_and_then (λ it. Some (it, left)) found) None → found ≡ None
none_found left None e = refl
none_found left (Some it) e = absurd (cc)

record_short : (kinds size : ℕ) (bytes rest : List ℕ) → number_at 4 bytes ≡ Some (size, rest) → length rest < size → record_at kinds bytes ≡ None
unfolding record_at counted_at
record_short kinds size bytes rest number few = rw (number, lt-ltb (length rest) size few) refl

record_whole : (kinds size : ℕ) (bytes rest : List ℕ) → number_at 4 bytes ≡ Some (size, rest) → size ≤ length rest
    → record_at kinds bytes ≡ option_and_then (λ it. Some (it, drop size rest)) (body_in kinds (take size rest))
unfolding record_at counted_at
record_whole kinds size bytes rest number some = rw (number, le-ltb (length rest) size some) refl

no_number : (kinds : ℕ) (bytes : List ℕ) → length bytes < 4 → record_at kinds bytes ≡ None
unfolding record_at counted_at
no_number kinds bytes few = rw (lt-ltb (length bytes) 4 few) refl

-- the number stays where more bytes follow
number_more : (size : ℕ) (bytes rest more : List ℕ) → IsBytes bytes → number_at 4 bytes ≡ Some (size, rest) → number_at 4 (bytes ++ more) ≡ Some (size, rest ++ more)
number_more size bytes rest more fits number =
    let taken = u32_codec.takes bytes size rest fits number in
    ap (number_at 4) (ap (λ (l : List ℕ). l ++ more) taken.0.parts ∙ append_assoc (big_bytes 4 size) rest more) ∙ u32_codec.again size (rest ++ more) taken.1

-- ---- what stands first

-- an open gate and a length
pub record IsOpened (size : ℕ) (held : List ℕ) : Type 0 where
  pub rest : List ℕ
  pub left : List ℕ
  pub is : held ≡ 75 ∷ rest
  pub number : number_at 4 rest ≡ Some (size, left)

size_is : (size : ℕ) (number : Option (ℕ × List ℕ)) → sized number ≡ Opened size → (left : List ℕ) × (number ≡ Some (size, left))
size_is size None e = absurd (cc)
size_is size (Some n) e = (n.1, let same : n.0 ≡ size = cc in ap (λ (k : ℕ). Some (k, n.1)) same)

pub opened_is : (size : ℕ) (held : List ℕ) → head_of held ≡ Opened size → IsOpened size held
opened_is size [] e = absurd (cc)
opened_is size (gate ∷ rest) e = by_gate (eqb gate 75) refl e where
  by_gate : (b : Bool) → eqb gate 75 ≡ b → cond b (sized (number_at 4 rest)) Shut ≡ Opened size → IsOpened size (gate ∷ rest)
  by_gate true opened sizes =
      let n = size_is size (number_at 4 rest) sizes in
      record { rest = rest; left = n.0; is = ap (λ (k : ℕ). k ∷ rest) (eqb-true gate 75 opened); number = n.1 }
  by_gate false shut never = absurd (cc)

-- a shut gate
pub shut_is : (held all : List ℕ) → head_of held ≡ Shut → held ≡ take (length held) all → StandsShut all
shut_is [] all e seen = absurd (cc)
shut_is (gate ∷ rest) all e seen = by_gate (eqb gate 75) refl e where
  never_shut : (number : Option (ℕ × List ℕ)) → sized number ≡ Shut → ⊥
  never_shut None e = absurd (cc)
  never_shut (Some n) e = absurd (cc)

  by_gate : (b : Bool) → eqb gate 75 ≡ b → cond b (sized (number_at 4 rest)) Shut ≡ Shut → StandsShut all
  by_gate true opened sizes = absurd (never_shut (number_at 4 rest) sizes)
  by_gate false shut same = record { gate = gate; rest = rest ++ drop (length (gate ∷ rest)) all; is = first_of (gate ∷ rest) all seen; closed = eqb-false gate 75 shut }

-- neither
broken_here : (kinds : ℕ) (held : List ℕ) → head_of held ≡ Broken → HasNoRecord kinds held × (length held < 5)
broken_here kinds [] e = (tt, omega arith)
broken_here kinds (gate ∷ rest) e = by_gate (eqb gate 75) refl e where
  short : (b : Bool) → ltb (length rest) 4 ≡ b → sized (number_at 4 rest) ≡ Broken → length rest < 4
  short true few sizes = ltb-true (length rest) 4 few
  short false some sizes = absurd (let never : Opened _ ≡ Broken = rw some at sizes in cc)

  by_gate : (b : Bool) → eqb gate 75 ≡ b → cond b (sized (number_at 4 rest)) Shut ≡ Broken → HasNoRecord kinds (gate ∷ rest) × (length (gate ∷ rest) < 5)
  by_gate true opened sizes = let few = short (ltb (length rest) 4) refl sizes in ((eqb-true gate 75 opened, no_number kinds rest few), omega (arith, few))
  by_gate false shut never = absurd (cc)

pub broken_is : (kinds : ℕ) (held all : List ℕ) → head_of held ≡ Broken → (5 ≤ length held) ⊎ (held ≡ all) → HasNoRecord kinds all
broken_is kinds held all e enough =
    let here = broken_here kinds held e in
    ⊎_elim (λ (some : 5 ≤ length held). absurd (omega (arith, some, here.1))) (λ (whole : held ≡ all). subst (HasNoRecord kinds) whole here.0) enough

-- ---- an open gate

opened_in_all : (size : ℕ) (held all : List ℕ) (o : IsOpened size held) → held ≡ take (length held) all → all ≡ 75 ∷ (o.rest ++ drop (length held) all)
opened_in_all size held all o seen = first_of held all seen ∙ ap (λ (l : List ℕ). l ++ drop (length held) all) o.is

rest_bytes : (size : ℕ) (held : List ℕ) (o : IsOpened size held) → IsBytes held → IsBytes o.rest
rest_bytes size held o fits i = let all : IsBytes (75 ∷ o.rest) = subst IsBytes o.is fits in all (suc i)

number_long : (size : ℕ) (bytes rest : List ℕ) → IsBytes bytes → number_at 4 bytes ≡ Some (size, rest) → length bytes ≡ 4 + length rest
number_long size bytes rest fits number =
    let taken = u32_codec.takes bytes size rest fits number in
    omega (arith, ap length taken.0.parts, length-append (big_bytes 4 size) rest)

-- the body is longer than all that there may be
pub too_long : (kinds size most : ℕ) (held all : List ℕ) → IsBytes held → IsOpened size held → held ≡ take (length held) all → length all ≤ most → most - 5 < size → HasNoRecord kinds all
too_long kinds size most held all fits o seen few long =
    let more = drop (length held) all in
    let whole = opened_in_all size held all o seen in
    let number = number_more size o.rest o.left more (rest_bytes size held o fits) o.number in
    let lengths = number_long size o.rest o.left (rest_bytes size held o fits) o.number in
    let short : length (o.left ++ more) < size = omega (arith, ap length whole, length-append o.rest more, length-append o.left more, lengths, few, long) in
    subst (HasNoRecord kinds) (sym whole) (refl, record_short kinds size (o.rest ++ more) (o.left ++ more) number short)

-- more bytes were read behind the length
pub opened_more : (size : ℕ) (held later : List ℕ) → IsBytes held → take (length held) later ≡ held → IsOpened size held → IsOpened size later
opened_more size held later fits kept o =
    let more = drop (length held) later in
    record {
      rest = o.rest ++ more;
      left = o.left ++ more;
      is = sym (take-append-drop (length held) later) ∙ ap (λ (l : List ℕ). l ++ more) (kept ∙ o.is);
      number = number_more size o.rest o.left more (rest_bytes size held o fits) o.number;
    }

-- the body is no record's
pub no_body : (kinds size : ℕ) (held all : List ℕ) → IsBytes held → IsOpened size held → held ≡ take (length held) all → (5 + size ≤ length held) ⊎ (held ≡ all)
    → record_at kinds (drop 1 held) ≡ None → HasNoRecord kinds all
no_body kinds size held all fits o seen enough none = ⊎_elim
    (λ (some : 5 + size ≤ length held).
    let more = drop (length held) all in
    let small = rest_bytes size held o fits in
    let lengths = number_long size o.rest o.left small o.number in
    let room : size ≤ length o.left = omega (arith, some, ap length o.is, lengths) in
    let here : record_at kinds o.rest ≡ None = ap (λ (l : List ℕ). record_at kinds (drop 1 l)) (sym o.is) ∙ none in
    let body = none_found (drop size o.left) (body_in kinds (take size o.left)) (sym (record_whole kinds size o.rest o.left o.number room) ∙ here) in
    let later : record_at kinds (o.rest ++ more) ≡ None =
    record_whole kinds size (o.rest ++ more) (o.left ++ more) (number_more size o.rest o.left more small o.number) (omega (arith, room, length-append o.left more))
    ∙ ap (λ (l : List ℕ). option_and_then (λ (it : Record). Some (it, drop size (o.left ++ more))) (body_in kinds l)) (take-append-le size o.left more room)
    ∙ ap (option_and_then (λ (it : Record). Some (it, drop size (o.left ++ more)))) body in
    subst (HasNoRecord kinds) (sym (opened_in_all size held all o seen)) (refl, later))
    (λ (whole : held ≡ all).
    subst (HasNoRecord kinds) (sym o.is ∙ whole) (refl, ap (λ (l : List ℕ). record_at kinds (drop 1 l)) (sym o.is) ∙ none))
    enough

-- the gate and the length were read
pub opened_long : (size : ℕ) (held : List ℕ) → IsBytes held → IsOpened size held → 5 ≤ length held
opened_long size held fits o = omega (arith, ap length o.is, number_long size o.rest o.left (rest_bytes size held o fits) o.number)

-- no body that is so long has these first bytes
pub none_begins : (kinds size : ℕ) (held all : List ℕ) → IsBytes held → IsOpened size held → held ≡ take (length held) all → may_stand size held ≡ false → HasNoRecord kinds all
none_begins kinds size held all fits o seen never =
    let more = drop (length held) all in
    let small = rest_bytes size held o fits in
    let number = number_more size o.rest o.left more small o.number in
    let here : record_at kinds (o.rest ++ more) ≡ None = elim (cases_lt (length (o.left ++ more)) size) [
      | inl few ↦ record_short kinds size (o.rest ++ more) (o.left ++ more) number few
      | inr whole ↦ (
          let body = take size (o.left ++ more) in
          let m = min (5 + size) (length held) - 5 in
          let long : length held ≡ 5 + length o.left = omega (arith, ap length o.is, number_long size o.rest o.left small o.number) in
          let told = guard_some (ltb (length o.rest) 4) (big_number 4 o.rest, drop 4 o.rest) (size, o.left) o.number in
          let left_is : drop 5 held ≡ o.left = ap (drop 5) o.is ∙ ap (λ (p : ℕ × List ℕ). p.1) told.1 in
          let front : take m (drop 5 held) ≡ take m body =
          ap (take m) left_is ∙ sym (take-append-le m o.left more (omega (arith, long))) ∙ sym (take-take m size (o.left ++ more) (omega arith)) in
          let size_is : length body ≡ size = length-take-le size (o.left ++ more) whole in
          let none : may_begin (length body) (take m body) ≡ false = (λ i. may_begin (size_is i) (sym front i)) ∙ never in
          record_whole kinds size (o.rest ++ more) (o.left ++ more) number whole
          ∙ ap (option_and_then (λ (it : Record). Some (it, drop size (o.left ++ more)))) (no_body_begins kinds m body (body_in kinds body) refl none))
    ] in
    subst (HasNoRecord kinds) (sym (opened_in_all size held all o seen)) (refl, here)

-- a fault that is none of the bytes refuses them
pub unplaced : (kinds place : ℕ) (before : List ℕ) (fault : StoreFault) → TellsNoPlace fault → Refuses kinds place before fault
unplaced kinds place before faults.Device none = tt
unplaced kinds place before (faults.Corrupted offset) none = absurd none
unplaced kinds place before faults.Memory none = tt

-- ---- a record that was taken

-- all bytes are the record's, and those behind it
taken_is : (it : Record) (size : ℕ) (held left all : List ℕ) → IsOpened size held → held ≡ take (length held) all → drop 1 held ≡ record_tail it ++ left
    → all ≡ record_framed it ++ (left ++ drop (length held) all)
taken_is it size held left all o seen is =
    let more = drop (length held) all in
    let body : o.rest ≡ record_tail it ++ left = ap (drop 1) (sym o.is) ∙ is in
    opened_in_all size held all o seen ∙ ap (λ (l : List ℕ). 75 ∷ (l ++ more)) body ∙ ap (λ (l : List ℕ). 75 ∷ l) (append_assoc (record_tail it) left more)

pub taken_next : (it : Record) (size place limit next : ℕ) (held left image : List ℕ) → IsOpened size held → held ≡ take (length held) (bytes_between place limit image)
    → drop 1 held ≡ record_tail it ++ left → next ≡ place + length (record_framed it) → bytes_between next limit image ≡ left ++ drop (length held) (bytes_between place limit image)
taken_next it size place limit next held left image o seen is at =
    let all = bytes_between place limit image in
    ap (λ (k : ℕ). bytes_between k limit image) at
    ∙ sym (between_on place (length (record_framed it)) limit image)
    ∙ ap (drop (length (record_framed it))) (taken_is it size held left all o seen is)
    ∙ drop_at (record_framed it) (left ++ drop (length held) all) (length (record_framed it)) refl

pub taken_reads : (it : Record) (size place limit next : ℕ) (held left image : List ℕ) → IsOpened size held → held ≡ take (length held) (bytes_between place limit image)
    → drop 1 held ≡ record_tail it ++ left → next ≡ place + length (record_framed it) → bytes_between place limit image ≡ record_framed it ++ bytes_between next limit image
taken_reads it size place limit next held left image o seen is at =
    taken_is it size held left (bytes_between place limit image) o seen is ∙ ap (λ (l : List ℕ). record_framed it ++ l) (sym (taken_next it size place limit next held left image o seen is at))

pub taken_seen : (it : Record) (size place limit next : ℕ) (held left image : List ℕ) → IsOpened size held → held ≡ take (length held) (bytes_between place limit image)
    → drop 1 held ≡ record_tail it ++ left → next ≡ place + length (record_framed it) → left ≡ take (length left) (bytes_between next limit image)
taken_seen it size place limit next held left image o seen is at =
    sym (take_at left (drop (length held) (bytes_between place limit image)) (length left) refl)
    ∙ ap (take (length left)) (sym (taken_next it size place limit next held left image o seen is at))
