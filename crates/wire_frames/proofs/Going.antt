-- The frames of a text, one after another.
use Rattle.std.proofs.Common.{◌≡◌, ⊎_elim, ℕ, ◌+◌, ◌-◌, ◌<◌, ◌≤◌, Bool, true, false, cond, ltb, List, [], ◌∷◌, ◌++◌, length, take, drop, flat_map, sym, ap, subst, ◌∙◌, arith, append_assoc}
use Rattle.std.specs.List.{AllByRecursion}
use Rattle.std.proofs.lemmas.Grind.{flat_map-append}
use Rattle.std.proofs.lemmas.List.{append-nil, length-append, length-drop, drop-drop, drop-append-le, take-append-le, take_all, nil_from_length}
use Rattle.std.specs.Bool.{MatchBool}
use Rattle.std.proofs.lemmas.Bool.{le-ltb, cases_Bool}
use Rattle.rule_model.specs.declared.event.Act.{Act}
use Rattle.wire_frames.specs.Spelling.{frame_of, IsRequest}
use Rattle.wire_frames.specs.Streams.{stream_of, announced, is_length, needed, IsPart, IsBad, whole_in, front_of}
use Rattle.wire_frames.specs.Reading.{act_in}
use Rattle.wire_frames.specs.PartialFrames.{bytes_in}
use Rattle.wire_frames.specs.Outcomes.{IsRead}
use Rattle.wire_frames.specs.declared.outcome.FrameOutcome.{FrameOutcome}
use Rattle.wire_frames.specs.declared.front.Front.TheVariants.{Part, Bad, Whole}
use Rattle.byte_strings.specs.Codecs.{IsBytes}
use Rattle.byte_strings.proofs.Fields.{IsBytes-drop}
use Rattle.wire_frames.proofs.Fronts.{IsFront, part_is, bad_is, whole_is, needed_least, needed_more, needed_whole, needed_odd, announced_more}
use Rattle.wire_frames.proofs.Filling.{behind, behind_is}

pub each_append : (xs ys : List Act) → AllByRecursion IsRequest xs → AllByRecursion IsRequest ys → AllByRecursion IsRequest (xs ++ ys)
each_append [] ys a b = b
each_append (x ∷ xs) ys a b = (a.0, each_append xs ys a.1 b)

-- requests behind others
pub stream_append : (xs ys : List Act) (rest : List ℕ) → stream_of (xs ++ ys) rest ≡ flat_map frame_of xs ++ stream_of ys rest
stream_append xs ys rest = ap (λ (l : List ℕ). l ++ rest) (flat_map-append frame_of xs ys) ∙ append_assoc (flat_map frame_of xs) (flat_map frame_of ys) rest

pub stream_one : (act : Act) (rest : List ℕ) → stream_of (act ∷ []) rest ≡ frame_of act ++ rest
stream_one act rest = ap (λ (l : List ℕ). l ++ rest) (append-nil (frame_of act))

-- one frame more is read
pub reads_on : (acts : List Act) (act : Act) (left all rest : List ℕ) → stream_of acts left ≡ all → left ≡ frame_of act ++ rest → stream_of (acts ++ act ∷ []) rest ≡ all
reads_on acts act left all rest whole is = stream_append acts (act ∷ []) rest ∙ ap (λ (l : List ℕ). flat_map frame_of acts ++ l) (stream_one act rest ∙ sym is) ∙ whole

-- a bad frame stays bad, whatever comes behind it
pub bad_more : (bytes more : List ℕ) → IsBad bytes → IsBad (bytes ++ more)
bad_more bytes more bad =
    let least = needed_least bytes in
    let long = bad.whole in
    let four : 4 ≤ length bytes = omega (arith, least, long) in
    let same = needed_more bytes more four in
    let said = announced_more bytes more four in
    let longer = length-append bytes more in record {
      whole = omega (arith, same, long, longer);
      none = λ fit act request is.
          let fit' : is_length (announced bytes) ≡ true = ap is_length (sym said) ∙ fit in
          let size = needed_whole bytes four fit' in
          let left = length-drop 4 bytes in
          let inside : announced bytes ≤ length (drop 4 bytes) = omega (arith, size, left, long, four) in
          bad.none fit' act request
          (is ∙ (λ i. take (said i) (drop-append-le 4 bytes more four i)) ∙ take-append-le (announced bytes) (drop 4 bytes) more inside);
    }

-- ---- the loop over a text

module _ (bytes : List ℕ) where
  -- what is read when the loop ends at the part of a frame, or at a bad one
  pub read_part : (o : FrameOutcome) → o.shut ≡ false → o.used ≤ length bytes → stream_of o.requests.items (drop o.used bytes) ≡ bytes
      → AllByRecursion IsRequest o.requests.items → bytes_in o.tail ≡ drop o.used bytes → IsPart (drop o.used bytes) → IsRead bytes o
  read_part o goes_on within whole each is part = record {
    rest = drop o.used bytes;
    whole = whole;
    each = each;
    place = omega (arith, length-drop o.used bytes, within);
    left = subst (λ b. MatchBool b ((bytes_in o.tail ≡ []) × IsBad (drop o.used bytes)) ((bytes_in o.tail ≡ drop o.used bytes) × IsPart (drop o.used bytes))) (sym goes_on) (is, part);
  }

  pub read_bad : (o : FrameOutcome) → o.shut ≡ true → o.used ≤ length bytes → stream_of o.requests.items (drop o.used bytes) ≡ bytes
      → AllByRecursion IsRequest o.requests.items → bytes_in o.tail ≡ [] → IsBad (drop o.used bytes) → IsRead bytes o
  read_bad o shut within whole each is bad = record {
    rest = drop o.used bytes;
    whole = whole;
    each = each;
    place = omega (arith, length-drop o.used bytes, within);
    left = subst (λ b. MatchBool b ((bytes_in o.tail ≡ []) × IsBad (drop o.used bytes)) ((bytes_in o.tail ≡ drop o.used bytes) × IsPart (drop o.used bytes))) (sym shut) (is, bad);
  }

-- one round of the loop
pub record IsRound (acts : List Act) (act : Act) (bytes : List ℕ) (used size : ℕ) (all : List ℕ) : Type 0 where
  pub within : used + size ≤ length bytes
  pub some : 4 < size
  pub whole : stream_of (acts ++ act ∷ []) (drop (used + size) bytes) ≡ all
  pub request : IsRequest act

pub round : (acts : List Act) (act : Act) (bytes : List ℕ) (used size : ℕ) (all : List ℕ) → IsBytes bytes → used ≤ length bytes → stream_of acts (drop used bytes) ≡ all → front_of (behind used bytes) ≡ Whole act size
    → IsRound acts act bytes used size all
round acts act bytes used size all fits within whole front =
    let here : front_of (drop used bytes) ≡ Whole act size = ap front_of (sym (behind_is used bytes)) ∙ front in
    let f = whole_is (drop used bytes) act size (IsBytes-drop used bytes fits) here in
    let inside = f.inside in record {
      within = omega (arith, inside, length-drop used bytes, within);
      some = f.some;
      whole = reads_on acts act (drop used bytes) all (drop (used + size) bytes) whole (f.parts ∙ ap (λ (l : List ℕ). frame_of act ++ l) (drop-drop size used bytes));
      request = f.request;
    }

pub part_here : (bytes : List ℕ) (used k : ℕ) → front_of (behind used bytes) ≡ Part k → IsPart (drop used bytes)
part_here bytes used k e = part_is (drop used bytes) k (ap front_of (sym (behind_is used bytes)) ∙ e)

pub bad_here : (bytes : List ℕ) (used : ℕ) → front_of (behind used bytes) ≡ Bad → IsBad (drop used bytes)
bad_here bytes used e = bad_is (drop used bytes) (ap front_of (sym (behind_is used bytes)) ∙ e)

-- ---- what is held, and what comes behind it

-- what is held is one frame
pub full_front : (held : List ℕ) → length held ≡ needed held → front_of held ≡ whole_in (act_in (drop 4 held)) (length held)
unfolding front_of act_in
full_front held full =
    let n : ℕ = announced held in
    let least = needed_least held in
    let four : 4 ≤ length held = omega (arith, full, least) in
    let enough : ltb (length held) (needed held) ≡ false = le-ltb _ _ (omega (arith, full)) in
    ⊎_elim
    (λ (fit : is_length n ≡ true).
    let whole : needed held ≡ 4 + n = needed_whole held four fit in
    let left = length-drop 4 held in
    let all : take n (drop 4 held) ≡ drop 4 held = take_all n (drop 4 held) (omega (arith, left, full, whole)) in
    (λ i. cond (enough i) (Part (needed held - length held)) (cond (fit i) (whole_in (act_in (all i)) (sym full i)) Bad)))
    (λ (odd : is_length n ≡ false).
    let short : needed held ≡ 4 = needed_odd held four odd in
    let left = length-drop 4 held in
    let gone : drop 4 held ≡ [] = nil_from_length (drop 4 held) (omega (arith, left, full, short)) in
    (λ i. cond (enough i) (Part (needed held - length held)) (cond (odd i) (whole_in (act_in (take n (drop 4 held))) (needed held)) Bad))
    ∙ ap (λ (l : List ℕ). whole_in (act_in l) (length held)) (sym gone))
    (cases_Bool (is_length n))

pub held_bad : (held more : List ℕ) (o : FrameOutcome) → o.shut ≡ true → o.used ≡ 0 → o.requests.items ≡ [] → bytes_in o.tail ≡ [] → IsBad held → IsRead (held ++ more) o
held_bad held more o shut none empty gone bad = record {
  rest = held ++ more;
  whole = ap (λ (l : List Act). stream_of l (held ++ more)) empty;
  each = subst (AllByRecursion IsRequest) (sym empty) tt;
  place = omega (arith, none);
  left = subst (λ b. MatchBool b ((bytes_in o.tail ≡ []) × IsBad (held ++ more)) ((bytes_in o.tail ≡ held ++ more) × IsPart (held ++ more))) (sym shut) (gone, bad_more held more bad);
}

pub held_whole : (held more : List ℕ) (act : Act) (o o' : FrameOutcome) → IsFront held act (length held) → IsRead more o
    → o'.requests.items ≡ act ∷ o.requests.items → o'.used ≡ o.used + length held → bytes_in o'.tail ≡ bytes_in o.tail → o'.shut ≡ o.shut → IsRead (held ++ more) o'
held_whole held more act o o' f read same used tail shut =
    let gone : drop (length held) held ≡ [] = nil_from_length (drop (length held) held) (omega (arith, length-drop (length held) held)) in
    let is : held ≡ frame_of act = f.parts ∙ ap (λ (l : List ℕ). frame_of act ++ l) gone ∙ append-nil (frame_of act) in
    let place = read.place in record {
      rest = read.rest;
      whole = ap (λ (l : List Act). stream_of l read.rest) same ∙ append_assoc (frame_of act) (flat_map frame_of o.requests.items) read.rest ∙ ap (λ (l : List ℕ). frame_of act ++ l) read.whole ∙ ap (λ (l : List ℕ). l ++ more) (sym is);
      each = subst (AllByRecursion IsRequest) (sym same) (f.request, read.each);
      place = omega (arith, used, place, length-append held more);
      left = subst (λ (p : Bool × List ℕ). MatchBool p.0 ((p.1 ≡ []) × IsBad read.rest) ((p.1 ≡ read.rest) × IsPart read.rest)) (λ i. (sym shut i, sym tail i)) read.left;
    }
