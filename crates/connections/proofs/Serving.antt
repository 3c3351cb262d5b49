-- A connection goes on, and ends.
use Rattle.std.proofs.Common.{◌≡◌, ◌≢◌, inl, inr, ℕ, ◌+◌, Bool, true, false, List, [], ◌++◌, length, refl, sym, ap, subst, ◌∙◌, arith, append_assoc}
use Rattle.std.proofs.lemmas.List.{append-nil, length-append}
use Rattle.std.proofs.lemmas.Bool.{cases_Bool}
use Rattle.std.specs.Io.KnownBytes.{IsAtEnd}
use Rattle.ks_outside.specs.Carried.{Carried}
use Rattle.ks_outside.specs.declared.link.Link.{Ghosts as LinkGhosts}
use Rattle.ks_outside.proofs.Carried.{carried_none, carried_on}
use Rattle.rule_model.specs.declared.event.Act.{Act}
use Rattle.rule_model.specs.declared.reply.Reply.{Reply}
use Rattle.wire_frames.specs.Streams.{stream_of}
use Rattle.wire_frames.specs.Standing.{is_shut, Stands}
use Rattle.wire_frames.specs.declared.frames.Frames.{Frames}
use Rattle.wire_frames.proofs.Fronts.{needed_least}
use Rattle.connections.specs.Talks.{Exchange, asked, told, Talks}
use Rattle.connections.specs.Ends.{is_link_fault, EndsSo, Talked}
use Rattle.connections.specs.Pieces.{Follows, PieceServed, PieceStops}
use Rattle.connections.specs.declared.answering.Progress.{Progress}
use Rattle.connections.specs.declared.end.End.{End}
use Rattle.connections.specs.declared.end.End.TheVariants.{EndOfInput, Truncated, LinkFault, Memory}
use Rattle.connections.proofs.Talking.{told_append, talks_append}
use Rattle.connections.proofs.Piecing.{is_bad, is_part}

-- so many bytes were taken, and all requests of them were answered
pub record Going {L A : Type 0} (g : LinkGhosts L) (answers : A → Act → Reply → A → Type 0) (link now : L) (before after : A) (frames : Frames) (progress : Progress) (taken : ℕ) : Type 0 where
  pub stream : List ℕ
  pub talk : List Exchange
  pub follows : Follows stream talk frames progress
  pub talks : Talks answers before talk after
  pub carried : Carried g link now stream (told talk) false
  pub long : length stream ≡ taken

-- a reader that has read nothing has met no bad frame
not_shut : (f : Frames) → Stands [] [] f → is_shut f ≡ false
not_shut f stands =
    let rest : List ℕ = stands.rest in
    let none : length rest ≡ 0 = ap (λ (l : List ℕ). length l) (sym stands.whole) in
    elim (cases_Bool (is_shut f)) [
      | inl shut ↦ let bad = is_bad f rest shut stands.left in let least = needed_least rest in let whole = bad.whole in absurd (omega (arith, none, least, whole))
      | inr good ↦ good
    ]

module _ {L A : Type 0} (g : LinkGhosts L) (answers : A → Act → Reply → A → Type 0) where
  pub going_none : (link : L) (before : A) (f : Frames) (p : Progress) → Stands [] [] f → p.joined ≡ false → p.place ≡ 0 → Going g answers link link before before f p 0
  going_none link before f p stands joined place = record {
    stream = [];
    talk = [];
    follows = record { stands = stands; good = not_shut f stands; turn = tt; unfull = tt; joined = joined; place = place };
    talks = refl;
    carried = carried_none g link;
    long = refl;
  }

  module _ (link now : L) (before then : A) (f : Frames) (p : Progress) (taken : ℕ) (going : Going g answers link now before then f p taken) where
    -- what a read and the answers behind it carried
    carried_more : (read after : L) (piece part : List ℕ) (failed : Bool) → Carried g now read piece [] false → Carried g read after [] part failed
        → Carried g link after (going.stream ++ piece) (told going.talk ++ part) failed
    carried_more read after piece part failed took told_part =
        let both = carried_on g now read after piece [] [] part false failed took told_part in
        let all = carried_on g link now after going.stream (piece ++ []) (told going.talk) part false failed going.carried both in
        subst (λ (l : List ℕ). Carried g link after (going.stream ++ l) (told going.talk ++ part) failed) (append-nil piece) all

    pub going_on : (read after : L) (last : A) (piece : List ℕ) (next : Frames) (q : Progress) (count : ℕ) → Carried g now read piece [] false → length piece ≡ count
        → PieceServed g answers read after then last going.stream piece going.talk next q → Going g answers link after before last next q (taken + count)
    going_on read after last piece next q count took long served = record {
      stream = going.stream ++ piece;
      talk = going.talk ++ served.more;
      follows = served.follows;
      talks = talks_append answers before then last going.talk served.more going.talks served.talks;
      carried = subst (λ (l : List ℕ). Carried g link after (going.stream ++ piece) l false) (sym (told_append going.talk served.more)) (carried_more read after piece (told served.more) false took served.carried);
      long = omega (arith, long, going.long, length-append going.stream piece);
    }

    pub serves_piece : (read after : L) (last : A) (piece : List ℕ) (q : Progress) (end : End) → Carried g now read piece [] false
        → PieceStops g answers read after then last going.stream piece going.talk q end → Talked g answers link after before last q.joined end
    serves_piece read after last piece q end took stops = record {
      talk = going.talk ++ stops.more;
      taken = going.stream ++ piece;
      rest = stops.rest;
      part = told going.talk ++ stops.part;
      missing = stops.missing;
      talks = talks_append answers before then last going.talk stops.more going.talks stops.talks;
      requests = stops.requests;
      each = stops.each;
      turn = stops.turn;
      replies = told_append going.talk stops.more ∙ ap (λ (l : List ℕ). told going.talk ++ l) stops.replies ∙ sym (append_assoc (told going.talk) stops.part stops.missing);
      carried = carried_more read after piece stops.part (is_link_fault end) took stops.carried;
      ends = stops.ends (g.incoming after);
      joined_is = stops.joined;
    }

    -- the connection ends at what was taken so far
    ends_here : (after : L) (end : End) (rest : List ℕ) → Carried g now after [] [] (is_link_fault end) → going.stream ≡ stream_of (asked going.talk) rest
        → EndsSo end going.talk rest [] (g.incoming after) → Talked g answers link after before then p.joined end
    ends_here after end rest last whole ends = record {
      talk = going.talk;
      taken = going.stream;
      rest = rest;
      part = told going.talk;
      missing = [];
      talks = going.talks;
      requests = whole;
      each = going.follows.stands.each;
      turn = going.follows.turn;
      replies = sym (append-nil (told going.talk));
      carried = subst (λ (p : List ℕ × List ℕ). Carried g link after p.0 p.1 (is_link_fault end)) (λ i. (append-nil going.stream i, append-nil (told going.talk) i))
          (carried_on g link now after going.stream [] (told going.talk) [] false (is_link_fault end) going.carried last);
      ends = ends;
      joined_is = going.follows.joined;
    }

    pub serves_fault : (after : L) → Carried g now after [] [] true → Talked g answers link after before then p.joined LinkFault
    serves_fault after last =
        ends_here after LinkFault going.follows.stands.rest last going.follows.stands.whole (inl ((going.follows.unfull, refl), (is_part f going.follows.stands.rest going.follows.good going.follows.stands.left).1))

    pub serves_limit : Talked g answers link now before then p.joined Memory
    serves_limit = ends_here now Memory going.follows.stands.rest (carried_none g now) going.follows.stands.whole (going.follows.unfull, refl)

    pub serves_input : (after : L) → Carried g now after [] [] false → IsAtEnd (g.incoming after) → going.stream ≡ stream_of (asked going.talk) []
        → Talked g answers link after before then p.joined EndOfInput
    serves_input after last over edge = ends_here after EndOfInput [] last edge ((going.follows.unfull, refl), refl, over)

    pub serves_cut : (after : L) → Carried g now after [] [] false → IsAtEnd (g.incoming after) → (going.stream ≢ stream_of (asked going.talk) [])
        → Talked g answers link after before then p.joined Truncated
    serves_cut after last over inside =
        let rest : List ℕ = going.follows.stands.rest in
        let whole : going.stream ≡ stream_of (asked going.talk) rest = going.follows.stands.whole in
        ends_here after Truncated rest last whole (
          (going.follows.unfull, refl),
          (λ (none : rest ≡ []). inside (whole ∙ ap (λ (l : List ℕ). stream_of (asked going.talk) l) none)),
          (is_part f rest going.follows.good going.follows.stands.left).1,
          over,
        )
