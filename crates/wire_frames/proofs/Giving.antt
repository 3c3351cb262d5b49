-- A reader of frames comes to a bad one.
use Rattle.std.proofs.Common.{◌≡◌, ℕ, ◌+◌, Bool, true, false, List, [], ◌++◌, length, flat_map, sym, ap, subst, ◌∙◌, arith, append_assoc, length-append}
use Rattle.std.specs.Bool.{MatchBool}
use Rattle.rule_model.specs.declared.event.Act.{Act}
use Rattle.wire_frames.specs.Spelling.{frame_of}
use Rattle.wire_frames.specs.Streams.{stream_of, IsPart, IsBad}
use Rattle.wire_frames.specs.PartialFrames.{bytes_in}
use Rattle.wire_frames.specs.Outcomes.{IsRead}
use Rattle.wire_frames.specs.declared.outcome.FrameOutcome.{FrameOutcome}
use Rattle.wire_frames.specs.declared.frames.Frames.{Frames}
use Rattle.wire_frames.specs.Standing.{start_of, held_in, is_shut, Stands, IsBadAt}
use Rattle.wire_frames.proofs.Going.{bad_more, each_append, stream_append}

-- the stream goes on
goes_on : (given : List Act) (rest stream piece : List ℕ) → stream ≡ stream_of given rest → stream ++ piece ≡ stream_of given (rest ++ piece)
goes_on given rest stream piece whole = ap (λ (l : List ℕ). l ++ piece) whole ∙ append_assoc (flat_map frame_of given) rest piece

left_of : (b : Bool) (A B C : Type 0) → MatchBool b (A × B) C → MatchBool b B C
left_of true A B C h = h.1
left_of false A B C h = h

module _ (stream : List ℕ) (given : List Act) (piece : List ℕ) where
  -- behind a bad frame nothing is given any more
  pub shut_again : (f : Frames) → is_shut f ≡ true → Stands stream given f → Stands (stream ++ piece) given f × IsBadAt (stream ++ piece) given (start_of f)
  shut_again f shut s =
      let rest : List ℕ = s.rest in
      let bad : IsBad rest = subst (λ b. MatchBool b (IsBad rest) ((held_in f ≡ rest) × IsPart rest)) shut s.left in
      let more = bad_more rest piece bad in
      let place : start_of f + length (rest ++ piece) ≡ length (stream ++ piece) = omega (arith, s.place, length-append rest piece, length-append stream piece) in
      let whole = goes_on given rest stream piece s.whole in (
        record {
          rest = rest ++ piece;
          whole = whole;
          each = s.each;
          place = place;
          left = subst (λ b. MatchBool b (IsBad (rest ++ piece)) ((held_in f ≡ rest ++ piece) × IsPart (rest ++ piece))) (sym shut) more;
        },
        record { rest = rest ++ piece; whole = whole; each = s.each; place = place; bad = more },
      )

  -- the frame that is next is bad
  pub shut_now : (old new : Frames) (o : FrameOutcome) → is_shut old ≡ false → Stands stream given old → IsRead (held_in old ++ piece) o → o.requests.items ≡ [] → o.shut ≡ true
      → start_of new ≡ start_of old + o.used → is_shut new ≡ true → Stands (stream ++ piece) given new × IsBadAt (stream ++ piece) given (start_of new)
  shut_now old new o was s read none shut start now =
      let rest : List ℕ = s.rest in
      let left : (held_in old ≡ rest) × IsPart rest = subst (λ b. MatchBool b (IsBad rest) ((held_in old ≡ rest) × IsPart rest)) was s.left in
      let ending : (bytes_in o.tail ≡ []) × IsBad read.rest = subst (λ b. MatchBool b ((bytes_in o.tail ≡ []) × IsBad read.rest) ((bytes_in o.tail ≡ read.rest) × IsPart read.rest)) shut read.left in
      let all : read.rest ≡ rest ++ piece = ap (λ (l : List Act). stream_of l read.rest) (sym none) ∙ read.whole ∙ ap (λ (l : List ℕ). l ++ piece) left.0 in
      let bad : IsBad (rest ++ piece) = subst IsBad all ending.1 in
      let used : o.used ≡ 0 = omega (arith, read.place, ap length all, ap length left.0, length-append (held_in old) piece, length-append rest piece) in
      let place : start_of new + length (rest ++ piece) ≡ length (stream ++ piece) = omega (arith, start, used, s.place, length-append rest piece, length-append stream piece) in
      let whole = goes_on given rest stream piece s.whole in (
        record {
          rest = rest ++ piece;
          whole = whole;
          each = s.each;
          place = place;
          left = subst (λ b. MatchBool b (IsBad (rest ++ piece)) ((held_in new ≡ rest ++ piece) × IsPart (rest ++ piece))) (sym now) bad;
        },
        record { rest = rest ++ piece; whole = whole; each = s.each; place = place; bad = bad },
      )

  -- what was read is given
  pub given_more : (old new : Frames) (o : FrameOutcome) → is_shut old ≡ false → Stands stream given old → IsRead (held_in old ++ piece) o
      → start_of new ≡ start_of old + o.used → held_in new ≡ bytes_in o.tail → is_shut new ≡ o.shut → Stands (stream ++ piece) (given ++ o.requests.items) new
  given_more old new o was s read start tail shut =
      let rest : List ℕ = s.rest in
      let left : (held_in old ≡ rest) × IsPart rest = subst (λ b. MatchBool b (IsBad rest) ((held_in old ≡ rest) × IsPart rest)) was s.left in
      let later : stream_of o.requests.items read.rest ≡ rest ++ piece = read.whole ∙ ap (λ (l : List ℕ). l ++ piece) left.0 in
      record {
        rest = read.rest;
        whole = goes_on given rest stream piece s.whole ∙ ap (λ (l : List ℕ). flat_map frame_of given ++ l) (sym later) ∙ sym (stream_append given o.requests.items read.rest);
        each = each_append given o.requests.items s.each read.each;
        place = omega (arith, start, read.place, s.place, ap length left.0, length-append (held_in old) piece, length-append stream piece);
        left = subst (λ (p : Bool × List ℕ). MatchBool p.0 (IsBad read.rest) ((p.1 ≡ read.rest) × IsPart read.rest)) (λ i. (sym shut i, sym tail i)) (left_of o.shut _ _ _ read.left);
      }
