-- What a piece of the stream brings.
use Rattle.std.proofs.Common.{◌≡◌, inl, inr, ℕ, ◌+◌, ◌^◌, ◌<◌, Bool, true, false, if◌then◌else◌, Some, None, List, [], ◌∷◌, ◌++◌, length, flat_map, Option, refl, sym, ap, subst, ◌∙◌, arith, append_assoc}
use Rattle.std.proofs.lemmas.Grind.{flat_map-append}
use Rattle.std.proofs.lemmas.List.{append-nil, length-append}
use Rattle.std.specs.Bool.{MatchBool}
use Rattle.std.specs.List.{AllByRecursion}
use Rattle.ks_outside.specs.Carried.{Carried}
use Rattle.ks_outside.specs.declared.link.Link.{Ghosts as LinkGhosts}
use Rattle.ks_outside.proofs.Carried.{carried_none}
use Rattle.rule_model.specs.declared.event.Act.{Act}
use Rattle.rule_model.specs.declared.reply.Reply.{Reply}
use Rattle.wire_frames.specs.Spelling.{frame_of, IsRequest}
use Rattle.wire_frames.specs.Streams.{stream_of, IsPart, IsBad}
use Rattle.wire_frames.specs.Standing.{start_of, held_in, is_shut, Stands, IsBadAt, Faults}
use Rattle.wire_frames.specs.declared.fault.FrameFault.TheVariants.{Bad}
use Rattle.wire_frames.specs.declared.frames.Frames.{Frames}
use Rattle.wire_frames.proofs.Going.{stream_append}
use Rattle.connections.specs.Talks.{Exchange, asked, size_of, told, has_joined, is_due, InTurn, NoneFull}
use Rattle.connections.specs.Ends.{is_link_fault, EndsSo}
use Rattle.connections.specs.Steps.{EndsAmong, Goes, StopsAmong}
use Rattle.connections.specs.Pieces.{Follows, PieceServed, PieceStops}
use Rattle.connections.specs.declared.answering.Progress.{Progress}
use Rattle.connections.specs.declared.end.End.{End}
use Rattle.connections.specs.declared.end.End.TheVariants.{EndOfInput, Truncated, BadFrame, LinkFault, RunFull, Memory}
use Rattle.connections.proofs.Talking.{asked_append, size_append, joined_append, turn_append, open_append, full_append, cut_append, each_front, each_back}

-- what stands behind the requests of a stream begins at its place
place_is : (stream : List ℕ) (acts : List Act) (rest : List ℕ) (place : ℕ) → stream ≡ stream_of acts rest → place + length rest ≡ length stream → place ≡ length (flat_map frame_of acts)
place_is stream acts rest place whole is =
    let long : length stream ≡ length (flat_map frame_of acts) + length rest = ap (λ (l : List ℕ). length l) whole ∙ length-append (flat_map frame_of acts) rest in
    omega (arith, long, is)

pub is_bad : (f : Frames) (rest : List ℕ) → is_shut f ≡ true → MatchBool (is_shut f) (IsBad rest) ((held_in f ≡ rest) × IsPart rest) → IsBad rest
is_bad f rest shut left = subst (λ (b : Bool). MatchBool b (IsBad rest) ((held_in f ≡ rest) × IsPart rest)) shut left

pub is_part : (f : Frames) (rest : List ℕ) → is_shut f ≡ false → MatchBool (is_shut f) (IsBad rest) ((held_in f ≡ rest) × IsPart rest) → (held_in f ≡ rest) × IsPart rest
is_part f rest shut left = subst (λ (b : Bool). MatchBool b (IsBad rest) ((held_in f ≡ rest) × IsPart rest)) shut left

-- a place that is told is that of a bad frame
pub is_told : (shut : Bool) (start offset : ℕ) → Some offset ≡ (if shut then Some start else None) → (shut ≡ true) × (start ≡ offset)
is_told true start offset told = (refl, cc)
is_told false start offset told = absurd (cc)

pub is_untold : (shut : Bool) (start : ℕ) → ◌≡◌ {A = Option ℕ} None (if shut then Some start else None) → shut ≡ false
is_untold true start told = absurd (cc)
is_untold false start told = refl

-- what an end among requests says of the whole stream
ends_so : (end : End) (place : ℕ) (joined : Bool) (talk more : List Exchange) (left : List Act) (missing rest : List ℕ) (over : Option (List ℕ)) → NoneFull talk
    → place ≡ size_of talk → joined ≡ has_joined false talk → AllByRecursion IsRequest left → EndsAmong end place joined more left missing
    → EndsSo end (talk ++ more) (stream_of left rest) missing over
ends_so LinkFault place joined talk more left missing rest over unfull place_same joined_same each ends = inr (ends.0, cut_append talk more ends.0 missing unfull ends.1)
ends_so Memory place joined talk more left missing rest over unfull place_same joined_same each ends = absurd ends
ends_so RunFull place joined talk more left missing rest over unfull place_same joined_same each ends = (full_append talk more unfull ends.0, ends.1)
ends_so EndOfInput place joined talk more left missing rest over unfull place_same joined_same each ends = absurd ends
ends_so Truncated place joined talk more left missing rest over unfull place_same joined_same each ends = absurd ends
ends_so (BadFrame offset) place joined talk more left missing rest over unfull place_same joined_same each ends =
    let act : Act = ends.2.0 in
    let acts : List Act = ends.2.1 in
    let is : left ≡ act ∷ acts = ends.2.2 in
    let offset_is : offset ≡ place + size_of more = ends.1 in
    let first : AllByRecursion IsRequest (act ∷ acts) = subst (λ (l : List Act). AllByRecursion IsRequest l) is each in
    let same : has_joined joined more ≡ has_joined false (talk ++ more) = ap (λ (b : Bool). has_joined b more) joined_same ∙ sym (joined_append false talk more) in
    let undue : is_due (has_joined joined more) act ≡ false = ends.2.3 in (
      (open_append talk more unfull ends.0.0, ends.0.1),
      omega (arith, offset_is, place_same, size_append talk more),
      inr (record {
        act = act;
        more = stream_of acts rest;
        request = first.0;
        frame = ap (λ (l : List Act). stream_of l rest) is ∙ append_assoc (frame_of act) (flat_map frame_of acts) rest;
        undue = subst (λ (b : Bool). is_due b act ≡ false) same undue;
      }),
    )

module _ {L A : Type 0} (g : LinkGhosts L) (answers : A → Act → Reply → A → Type 0) (stream piece : List ℕ) (talk : List Exchange) (f : Frames) (p : Progress) (follows : Follows stream talk f p) where
  -- nothing of the piece was answered
  at_once : (link : L) (before : A) (end : End) (rest : List ℕ) → stream ++ piece ≡ stream_of (asked talk) rest → is_link_fault end ≡ false
      → ((over : Option (List ℕ)) → EndsSo end talk rest [] over) → PieceStops g answers link link before before stream piece talk p end
  at_once link before end rest whole fault ends =
      let same : talk ++ [] ≡ talk = append-nil talk in
      record {
        more = [];
        rest = rest;
        part = [];
        missing = [];
        talks = refl;
        requests = whole ∙ ap (λ (t : List Exchange). stream_of (asked t) rest) (sym same);
        each = subst (λ (t : List Exchange). AllByRecursion IsRequest (asked t)) (sym same) follows.stands.each;
        turn = subst (λ (t : List Exchange). InTurn false t) (sym same) follows.turn;
        replies = refl;
        carried = subst (λ (b : Bool). Carried g link link [] [] b) (sym fault) (carried_none g link);
        ends = λ over. subst (λ (t : List Exchange). EndsSo end t rest [] over) (sym same) (ends over);
        joined = follows.joined ∙ ap (λ (t : List Exchange). has_joined false t) (sym same);
      }

  pub piece_bad_at_once : (link : L) (before : A) (now : Frames) (offset : ℕ) → Faults f piece now (Bad offset)
      → PieceStops g answers link link before before stream piece talk p (BadFrame offset)
  piece_bad_at_once link before now offset faults =
      let bad : IsBadAt (stream ++ piece) (asked talk) offset = (faults stream (asked talk) follows.stands).1 in
      at_once link before (BadFrame offset) bad.rest bad.whole refl (λ over. ((follows.unfull, refl), place_is (stream ++ piece) (asked talk) bad.rest offset bad.whole bad.place, inl bad.bad))

  pub piece_memory : (link : L) (before : A) → PieceStops g answers link link before before stream piece talk p Memory
  piece_memory link before =
      let rest : List ℕ = follows.stands.rest in
      let whole : stream ≡ stream_of (asked talk) rest = follows.stands.whole in
      at_once link before Memory (rest ++ piece) (ap (λ (l : List ℕ). l ++ piece) whole ∙ append_assoc (flat_map frame_of (asked talk)) rest piece) refl (λ over. (follows.unfull, refl))

  -- the places of the requests are within what was taken
  pub place_fits : (frames : Frames) (requests : List Act) → Stands (stream ++ piece) (asked talk ++ requests) frames → length stream + length piece < 2 ^ 62
      → p.place + length (flat_map frame_of requests) < 2 ^ 62
  place_fits frames requests stands short =
      let rest : List ℕ = stands.rest in
      let whole : stream ++ piece ≡ flat_map frame_of (asked talk ++ requests) ++ rest = stands.whole in
      let long : length (stream ++ piece) ≡ length (flat_map frame_of (asked talk ++ requests)) + length rest =
      ap (λ (l : List ℕ). length l) whole ∙ length-append (flat_map frame_of (asked talk ++ requests)) rest in
      let parts : length (flat_map frame_of (asked talk ++ requests)) ≡ size_of talk + length (flat_map frame_of requests) =
      ap (λ (l : List ℕ). length l) (flat_map-append frame_of (asked talk) requests) ∙ length-append (flat_map frame_of (asked talk)) (flat_map frame_of requests) in
      omega (arith, short, long, parts, length-append stream piece, follows.place)

  module _ (link after : L) (before now : A) (frames : Frames) (requests : List Act) (stands : Stands (stream ++ piece) (asked talk ++ requests) frames) where
    pub piece_stops : (next : Progress) (end : End) → StopsAmong g answers link after before now p next requests end → PieceStops g answers link after before now stream piece talk next end
    piece_stops next end stops =
        let more : List Exchange = stops.talk in
        let left : List Act = stops.left in
        let rest : List ℕ = stands.rest in
        let split : requests ≡ asked more ++ left = stops.requests_are in
        let all : asked talk ++ requests ≡ asked (talk ++ more) ++ left =
        ap (λ (l : List Act). asked talk ++ l) split ∙ sym (append_assoc (asked talk) (asked more) left) ∙ ap (λ (l : List Act). l ++ left) (sym (asked_append talk more)) in
        let whole : stream ++ piece ≡ stream_of (asked talk ++ requests) rest = stands.whole in
        let each : AllByRecursion IsRequest (asked (talk ++ more) ++ left) = subst (λ (l : List Act). AllByRecursion IsRequest l) all stands.each in
        record {
          more = more;
          rest = stream_of left rest;
          part = stops.part;
          missing = stops.missing;
          talks = stops.talks;
          requests = whole ∙ ap (λ (l : List Act). stream_of l rest) all ∙ stream_append (asked (talk ++ more)) left rest;
          each = each_front (asked (talk ++ more)) left each;
          turn = turn_append false talk more follows.turn (subst (λ (b : Bool). InTurn b more) follows.joined stops.turn);
          replies = stops.replies;
          carried = stops.carried;
          ends = λ over. ends_so end p.place p.joined talk more left stops.missing rest over follows.unfull follows.place follows.joined (each_back (asked (talk ++ more)) left each) stops.ends;
          joined = stops.joined ∙ ap (λ (b : Bool). has_joined b more) follows.joined ∙ sym (joined_append false talk more);
        }

    module _ (next : Progress) (goes : Goes g answers link after before now p next requests []) where
      all_asked : asked talk ++ requests ≡ asked (talk ++ goes.talk)
      all_asked =
          let is : requests ≡ asked goes.talk ++ [] = goes.requests_are in
          ap (λ (l : List Act). asked talk ++ l) (is ∙ append-nil (asked goes.talk)) ∙ sym (asked_append talk goes.talk)

      pub piece_served : is_shut frames ≡ false → PieceServed g answers link after before now stream piece talk frames next
      piece_served good =
          let more : List Exchange = goes.talk in
          record {
            more = more;
            follows = record {
              stands = subst (λ (l : List Act). Stands (stream ++ piece) l frames) all_asked stands;
              good = good;
              turn = turn_append false talk more follows.turn (subst (λ (b : Bool). InTurn b more) follows.joined goes.turn);
              unfull = open_append talk more follows.unfull goes.unfull;
              joined = goes.joined ∙ ap (λ (b : Bool). has_joined b more) follows.joined ∙ sym (joined_append false talk more);
              place = omega (arith, goes.place, follows.place, size_append talk more);
            };
            talks = goes.talks;
            carried = goes.carried;
          }

      pub piece_bad : is_shut frames ≡ true → PieceStops g answers link after before now stream piece talk next (BadFrame (start_of frames))
      piece_bad shut =
          let more : List Exchange = goes.talk in
          let rest : List ℕ = stands.rest in
          let whole : stream ++ piece ≡ stream_of (asked (talk ++ more)) rest = stands.whole ∙ ap (λ (l : List Act). stream_of l rest) all_asked in
          record {
            more = more;
            rest = rest;
            part = told more;
            missing = [];
            talks = goes.talks;
            requests = whole;
            each = subst (λ (l : List Act). AllByRecursion IsRequest l) all_asked stands.each;
            turn = turn_append false talk more follows.turn (subst (λ (b : Bool). InTurn b more) follows.joined goes.turn);
            replies = sym (append-nil (told more));
            carried = goes.carried;
            ends = λ over. (
              (open_append talk more follows.unfull goes.unfull, refl),
              place_is (stream ++ piece) (asked (talk ++ more)) rest (start_of frames) whole stands.place,
              inl (is_bad frames rest shut stands.left),
            );
            joined = goes.joined ∙ ap (λ (b : Bool). has_joined b more) follows.joined ∙ sym (joined_append false talk more);
          }
