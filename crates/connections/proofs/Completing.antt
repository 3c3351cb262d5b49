-- A connection that brought whole frames alone, and whose link did not fail.
use Rattle.std.proofs.Common.{◌≡◌, Bool, false, ⊎_elim, ℕ, ◌-◌, ◌^◌, ◌<◌, ◌≤◌, List, [], ◌∷◌, ◌++◌, Option, None, Some, refl, sym, ap, subst, ◌∙◌, arith, append_assoc}
use Rattle.std.proofs.lemmas.List.{append-nil}
use Rattle.std.specs.Io.KnownBytes.{Consumes, IsAtEnd}
use Rattle.std.specs.List.{AllByRecursion}
use Rattle.ks_outside.specs.Faults.{Rises}
use Rattle.ks_outside.specs.declared.link.Link.{Ghosts as LinkGhosts}
use Rattle.rule_model.specs.declared.event.Act.{Act}
use Rattle.rule_model.specs.declared.reply.Reply.{Reply}
use Rattle.wire_frames.specs.Spelling.{frame_of, IsRequest}
use Rattle.wire_frames.specs.Streams.{stream_of, IsPart, IsBad, IsBehind}
use Rattle.connections.specs.Talks.{asked, has_joined, size_of}
use Rattle.connections.specs.Ends.{AnsweredOf, EndsWhole, IsUndue, StopsAt, Talked}
use Rattle.connections.specs.declared.end.End.{End}
use Rattle.connections.specs.declared.end.End.TheVariants.{EndOfInput, Truncated, BadFrame, LinkFault, RunFull, Memory}

-- what `whole_frames` says
pub record WholeFrames : Type 0 where
  pub begins : (acts others : List Act) (left : List ℕ) → AllByRecursion IsRequest acts → AllByRecursion IsRequest others → stream_of acts [] ≡ stream_of others left → IsBehind acts others left
  pub sound : (acts : List Act) (bytes left : List ℕ) → AllByRecursion IsRequest acts → bytes ++ left ≡ stream_of acts [] → IsBad bytes → ⊥
  pub whole : (acts : List Act) → AllByRecursion IsRequest acts → IsPart (stream_of acts []) → acts ≡ []

-- what is left behind known bytes that were taken
record IsLeft (known : Option (List ℕ)) (stream taken : List ℕ) : Type 0 where
  pub left : List ℕ
  pub known_is : known ≡ Some left
  pub stream_is : stream ≡ taken ++ left

left_of : (known : Option (List ℕ)) (stream taken : List ℕ) → Consumes (Some stream) known taken → IsLeft known stream taken
left_of None stream taken c = absurd c
left_of (Some left) stream taken c = record { left = left; known_is = refl; stream_is = c }

part_of_none : IsPart []
part_of_none = omega arith

not_risen : (before now : ℕ) → before < 2 ^ 64 - 1 → now ≡ before → Rises before now → ⊥
not_risen before now below same rises = ⊎_elim
    (λ (lt : before < now). omega (arith, lt, same))
    (λ (at : (2 ^ 64 - 1 ≤ before) × (now ≡ before)). let most = at.0 in omega (arith, most, below))
    rises

module _ {L A : Type 0} (g : LinkGhosts L) (answers : A → Act → Reply → A → Type 0) (law : WholeFrames) (link after : L) (before : A) (acts : List Act) (each : AllByRecursion IsRequest acts) where
  module _ (known : g.incoming link ≡ Some (stream_of acts [])) (last : A) (joined : Bool) (end : End) (t : Talked g answers link after before last joined end) where
    left : IsLeft (g.incoming after) (stream_of acts []) t.taken
    left = left_of (g.incoming after) (stream_of acts []) t.taken (subst (λ (o : Option (List ℕ)). Consumes o (g.incoming after) t.taken) known t.carried.incoming)

    behind : IsBehind acts (asked t.talk) (t.rest ++ left.left)
    behind = law.begins acts (asked t.talk) (t.rest ++ left.left) each t.each
        (left.stream_is ∙ ap (λ (l : List ℕ). l ++ left.left) t.requests ∙ append_assoc _ t.rest left.left)

    at_end : IsAtEnd (g.incoming after) → left.left ≡ []
    at_end over = subst IsAtEnd left.known_is over

    -- nothing is left of whole frames of which all was taken but a part of one
    none_left : IsAtEnd (g.incoming after) → IsPart t.rest → (behind.more ≡ []) × (t.rest ≡ [])
    none_left over part =
        let is : t.rest ≡ stream_of behind.more [] = sym (append-nil t.rest) ∙ ap (λ (l : List ℕ). t.rest ++ l) (sym (at_end over)) ∙ behind.left_is in
        let none : behind.more ≡ [] = law.whole behind.more behind.each (subst IsPart is part) in
        (none, is ∙ ap (λ (more : List Act). stream_of more []) none)

    answered : (more : List Act) → behind.more ≡ more → AnsweredOf answers before acts more
    answered more is = record { talk = t.talk; last = last; talks = t.talks; acts_are = behind.acts_are ∙ ap (λ (l : List Act). asked t.talk ++ l) is }

    -- a request that was not due is the next one
    stops_at : (offset : ℕ) (u : IsUndue (has_joined false t.talk) t.rest) → offset ≡ size_of t.talk → StopsAt answers before acts offset
    unfolding answered
    stops_at offset u is =
        let parts : stream_of behind.more [] ≡ stream_of (u.act ∷ []) (u.more ++ left.left) =
        sym behind.left_is ∙ ap (λ (l : List ℕ). l ++ left.left) u.frame ∙ append_assoc (frame_of u.act) u.more left.left
        ∙ ap (λ (l : List ℕ). l ++ (u.more ++ left.left)) (sym (append-nil (frame_of u.act))) in
        let next = law.begins behind.more (u.act ∷ []) (u.more ++ left.left) behind.each (u.request, tt) parts in
        record { act = u.act; more = next.more; answered = answered (u.act ∷ next.more) next.acts_are; undue = u.undue; offset_is = is }

  pub complete_so : g.incoming link ≡ Some (stream_of acts []) → g.fault_count link < 2 ^ 64 - 1 → g.fault_count after ≡ g.fault_count link
      → (last : A) (joined : Bool) (end : End) → Talked g answers link after before last joined end → EndsWhole answers before acts end
  complete_so known below same last joined EndOfInput t =
      answered known last joined EndOfInput t [] (none_left known last joined EndOfInput t t.ends.2 (subst IsPart (sym t.ends.1) part_of_none)).0
  complete_so known below same last joined Truncated t =
      absurd (t.ends.1 (none_left known last joined Truncated t t.ends.3 t.ends.2).1)
  complete_so known below same last joined (BadFrame offset) t = ⊎_elim
      (λ (bad : IsBad t.rest). let b = behind known last joined (BadFrame offset) t in absurd (law.sound b.more t.rest (left known last joined (BadFrame offset) t).left b.each b.left_is bad))
      (λ (undue : IsUndue (has_joined false t.talk) t.rest). stops_at known last joined (BadFrame offset) t offset undue t.ends.1)
      t.ends.2
  complete_so known below same last joined LinkFault t = absurd (not_risen (g.fault_count link) (g.fault_count after) below same (t.carried.faults.rises refl))
  complete_so known below same last joined RunFull t = tt
  complete_so known below same last joined Memory t = tt
