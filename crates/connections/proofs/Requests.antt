-- Requests are answered, one after another.
use Rattle.std.proofs.Common.{◌≡◌, ℕ, ◌+◌, ◌<◌, Bool, true, false, ◌||◌, List, [], ◌∷◌, ◌++◌, length, refl, sym, ap, subst, ◌∙◌, arith, append_assoc}
use Rattle.std.proofs.lemmas.List.{append-nil}
use Rattle.ks_outside.specs.Carried.{Carried}
use Rattle.ks_outside.specs.declared.link.Link.{Ghosts as LinkGhosts}
use Rattle.ks_outside.proofs.Carried.{carried_none, carried_on}
use Rattle.rule_model.specs.declared.event.Act.{Act}
use Rattle.rule_model.specs.declared.reply.Reply.{Reply}
use Rattle.std.specs.List.{AllByRecursion}
use Rattle.wire_frames.specs.Spelling.{frame_of, IsRequest}
use Rattle.wire_frames.specs.Replies.{reply_of}
use Rattle.connections.specs.Talks.{Exchange, asked, size_of, told, joins, is_due, NoneFull}
use Rattle.connections.specs.Ends.{is_link_fault, IsCut}
use Rattle.connections.specs.Steps.{EndsOne, EndsAmong, Tells, TellsLast, Goes, StopsAmong}
use Rattle.connections.specs.declared.answering.Progress.{Progress}
use Rattle.connections.specs.declared.end.End.{End}
use Rattle.connections.specs.declared.end.End.TheVariants.{EndOfInput, Truncated, BadFrame, LinkFault, RunFull, Memory}
use Rattle.connections.proofs.Talking.{asked_append, size_append, told_one, talks_append, joined_append, turn_append, open_append, each_back}

-- of the last reply this is missing
cut_last : (talk : List Exchange) (x : Exchange) (part missing : List ℕ) → NoneFull talk → reply_of x.reply ≡ part ++ missing → 0 < length missing → IsCut (talk ++ x ∷ []) part missing
cut_last talk x part missing unfull frame some = record { front = talk; last = x; talk_is = refl; unfull = unfull; frame = frame; some = some }

-- what an end says behind the last request
ends_among : (end : End) (place : ℕ) (joined : Bool) (talk : List Exchange) (x : Exchange) (left : List Act) (part missing : List ℕ) → NoneFull talk
    → reply_of x.reply ≡ part ++ missing → EndsOne end x.reply part missing → EndsAmong end place joined (talk ++ x ∷ []) left missing
ends_among LinkFault place joined talk x left part missing unfull frame ends = (part, cut_last talk x part missing unfull frame ends)
ends_among Memory place joined talk x left part missing unfull frame ends = absurd ends
ends_among RunFull place joined talk x left part missing unfull frame ends = ((talk, x, refl, unfull, ends.0), ends.1)
ends_among EndOfInput place joined talk x left part missing unfull frame ends = absurd ends
ends_among Truncated place joined talk x left part missing unfull frame ends = absurd ends
ends_among (BadFrame offset) place joined talk x left part missing unfull frame ends = absurd ends

-- the next of the requests that are left is one that a frame can hold
pub next_is : (requests left rest : List Act) (talk : List Exchange) (act : Act) → AllByRecursion IsRequest requests → requests ≡ asked talk ++ left → left ≡ act ∷ rest → IsRequest act
next_is requests left rest talk act all whole first =
    let back : AllByRecursion IsRequest left = each_back (asked talk) left (subst (λ (l : List Act). AllByRecursion IsRequest l) whole all) in
    (subst (λ (l : List Act). AllByRecursion IsRequest l) first back).0

module _ {L A : Type 0} (g : LinkGhosts L) (answers : A → Act → Reply → A → Type 0) where
  pub goes_none : (link : L) (before : A) (progress : Progress) (requests : List Act) → Goes g answers link link before before progress progress requests requests
  goes_none link before progress requests = record {
    talk = [];
    requests_are = refl;
    talks = refl;
    carried = carried_none g link;
    turn = tt;
    unfull = tt;
    joined = refl;
    place = omega arith;
  }

  module _ (link mid after : L) (before then now : A) (old new : Progress) (requests left : List Act) (act : Act) where
    whole_one : (talk : List Exchange) (x : Exchange) → x.act ≡ act → requests ≡ asked talk ++ act ∷ left → requests ≡ asked (talk ++ x ∷ []) ++ left
    whole_one talk x same whole =
        whole ∙ ap (λ (a : Act). asked talk ++ a ∷ left) (sym same) ∙ sym (append_assoc (asked talk) (x.act ∷ []) left)
        ∙ ap (λ (l : List Act). l ++ left) (sym (asked_append talk (x ∷ [])))

    module _ (reply : Reply) (came : Bool) (answered : answers then act reply now) (came_is : came ≡ joins (record { act = act; reply = reply })) where
      pub goes_on : (next : Progress) → Goes g answers link mid before then old new requests (act ∷ left) → Tells g mid after reply
          → is_due new.joined act ≡ true → next.joined ≡ (new.joined || came) → next.place ≡ new.place + length (frame_of act)
          → Goes g answers link after before now old next requests left
      goes_on next goes tells due after_joined after_place =
          let talk : List Exchange = goes.talk in
          let x : Exchange = record { act = act; reply = reply } in
          let size : size_of (x ∷ []) ≡ length (frame_of act) = ap (λ (l : List ℕ). length l) (append-nil (frame_of act)) in
          record {
            talk = talk ++ x ∷ [];
            requests_are = whole_one talk x refl goes.requests_are;
            talks = talks_append answers before then now talk (x ∷ []) goes.talks (now, answered, refl);
            carried = subst (λ (w : List ℕ). Carried g link after [] w false) (sym (told_one talk x)) (carried_on g link mid after [] [] (told talk) (reply_of reply) false false goes.carried tells.carried);
            turn = turn_append old.joined talk (x ∷ []) goes.turn (subst (λ (b : Bool). is_due b act ≡ true) goes.joined due, tt);
            unfull = open_append talk (x ∷ []) goes.unfull (tells.unfull, tt);
            joined = after_joined ∙ (λ i. goes.joined i || came_is i) ∙ sym (joined_append old.joined talk (x ∷ []));
            place = omega (arith, after_place, goes.place, size, size_append talk (x ∷ []));
          }

      pub stops_after : (next : Progress) (end : End) → Goes g answers link mid before then old new requests (act ∷ left) → TellsLast g mid after reply end
          → is_due new.joined act ≡ true → next.joined ≡ (new.joined || came) → StopsAmong g answers link after before now old next requests end
      stops_after next end goes last due after_joined =
          let talk : List Exchange = goes.talk in
          let x : Exchange = record { act = act; reply = reply } in
          record {
            talk = talk ++ x ∷ [];
            left = left;
            part = told talk ++ last.part;
            missing = last.missing;
            requests_are = whole_one talk x refl goes.requests_are;
            talks = talks_append answers before then now talk (x ∷ []) goes.talks (now, answered, refl);
            turn = turn_append old.joined talk (x ∷ []) goes.turn (subst (λ (b : Bool). is_due b act ≡ true) goes.joined due, tt);
            replies = told_one talk x ∙ ap (λ (l : List ℕ). told talk ++ l) last.frame ∙ sym (append_assoc (told talk) last.part last.missing);
            carried = carried_on g link mid after [] [] (told talk) last.part false (is_link_fault end) goes.carried last.carried;
            ends = ends_among end old.place old.joined talk x left last.part last.missing goes.unfull last.frame last.ends;
            joined = after_joined ∙ (λ i. goes.joined i || came_is i) ∙ sym (joined_append old.joined talk (x ∷ []));
          }

    pub stops_before : Goes g answers link mid before then old new requests (act ∷ left) → is_due new.joined act ≡ false
        → StopsAmong g answers link mid before then old new requests (BadFrame new.place)
    stops_before goes undue =
        let talk : List Exchange = goes.talk in
        record {
          talk = talk;
          left = act ∷ left;
          part = told talk;
          missing = [];
          requests_are = goes.requests_are;
          talks = goes.talks;
          turn = goes.turn;
          replies = sym (append-nil (told talk));
          carried = goes.carried;
          ends = ((goes.unfull, refl), goes.place, (act, left, refl, subst (λ (b : Bool). is_due b act ≡ false) goes.joined undue));
          joined = goes.joined;
        }
