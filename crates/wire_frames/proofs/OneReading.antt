-- A stream has its requests in one way.
use Rattle.std.proofs.Common.{◌≡◌, ◌⊎◌, ⊎_elim, Bool, true, false, ℕ, ◌+◌, ◌<◌, ◌≤◌, List, [], ◌∷◌, ◌++◌, length, flat_map, refl, sym, ap, subst, ◌∙◌, arith, append_assoc, inl, inr}
use Rattle.std.specs.List.{AllByRecursion}
use Rattle.std.specs.Bool.{MatchBool}
use Rattle.std.proofs.lemmas.List.{append-nil, append_cancel_left, drop_at, length-append}
use Rattle.rule_model.specs.declared.event.Act.{Act}
use Rattle.wire_frames.specs.declared.front.Front.{Front}
use Rattle.wire_frames.specs.declared.front.Front.TheVariants.{Part, Bad, Whole}
use Rattle.wire_frames.specs.Spelling.{body_of, frame_of, IsRequest}
use Rattle.wire_frames.specs.Streams.{stream_of, IsPart, IsBad, HasRequests, IsBehind, front_of}
use Rattle.wire_frames.specs.declared.frames.Frames.{Frames}
use Rattle.wire_frames.specs.Standing.{held_in, is_shut, Stands}
use Rattle.byte_strings.specs.Codecs.{IsBytes}
use Rattle.byte_strings.proofs.Fields.{IsBytes-drop}
use Rattle.wire_frames.proofs.Fronts.{IsFramed, needed_least, part_again, bad_again, whole_again, framed_front, never_bad}

-- what stands behind the last whole frame is told from the front of a whole one
abbrev is_rest : Front → Type 0
is_rest (Part k) = Unit {0}
is_rest Bad = Unit {0}
is_rest (Whole act size) = ⊥

rest_front : (bytes : List ℕ) → IsBytes bytes → IsPart bytes ⊎ IsBad bytes → is_rest (front_of bytes)
rest_front bytes fits ends = ⊎_elim
    (λ (part : IsPart bytes). subst is_rest (sym (part_again bytes part)) tt)
    (λ (bad : IsBad bytes). subst is_rest (sym (bad_again bytes fits bad)) tt)
    ends

abbrev first_act : Act → Front → Act
first_act d (Part k) = d
first_act d Bad = d
first_act d (Whole act size) = act

-- the front of a stream that has a request
front_is : (act : Act) (acts : List Act) (rest : List ℕ) → IsRequest act → front_of (stream_of (act ∷ acts) rest) ≡ Whole act (4 + length (body_of act))
front_is act acts rest request = ap front_of (append_assoc (frame_of act) (flat_map frame_of acts) rest) ∙ whole_again act (stream_of acts rest) request

behind_first : (act : Act) (acts : List Act) (rest : List ℕ) → stream_of (act ∷ acts) rest ≡ frame_of act ++ stream_of acts rest
behind_first act acts rest = append_assoc (frame_of act) (flat_map frame_of acts) rest

IsBytes-behind : (xs ys : List ℕ) → IsBytes (xs ++ ys) → IsBytes ys
IsBytes-behind xs ys fits = subst IsBytes (drop_at xs ys (length xs) refl) (IsBytes-drop (length xs) (xs ++ ys) fits)

pub one_way : (acts others : List Act) (rest left : List ℕ) → IsBytes (stream_of acts rest) → stream_of acts rest ≡ stream_of others left
    → AllByRecursion IsRequest acts → AllByRecursion IsRequest others → IsPart rest ⊎ IsBad rest → IsPart left ⊎ IsBad left → (acts ≡ others) × (rest ≡ left)
one_way [] [] rest left fits same a b ends ends' = (refl, same)
one_way [] (y ∷ others) rest left fits same a b ends ends' =
    absurd (subst is_rest (ap front_of same ∙ front_is y others left b.0) (rest_front rest fits ends))
one_way (x ∷ acts) [] rest left fits same a b ends ends' =
    absurd (subst is_rest (ap front_of (sym same) ∙ front_is x acts rest a.0) (rest_front left (subst IsBytes same fits) ends'))
one_way (x ∷ acts) (y ∷ others) rest left fits same a b ends ends' =
    let fronts : Whole x (4 + length (body_of x)) ≡ Whole y (4 + length (body_of y)) = sym (front_is x acts rest a.0) ∙ ap front_of same ∙ front_is y others left b.0 in
    let act : x ≡ y = ap (first_act x) fronts in
    let split : frame_of x ++ stream_of acts rest ≡ frame_of x ++ stream_of others left =
    sym (behind_first x acts rest) ∙ same ∙ behind_first y others left ∙ ap (λ (z : Act). frame_of z ++ stream_of others left) (sym act) in
    let behind : stream_of acts rest ≡ stream_of others left = append_cancel_left (frame_of x) (stream_of acts rest) (stream_of others left) split in
    let later = one_way acts others rest left (IsBytes-behind (frame_of x) (stream_of acts rest) (subst IsBytes (behind_first x acts rest) fits)) behind a.1 b.1 ends ends' in
    ((λ i. act i ∷ later.0 i), later.1)

pub one_reading : (stream : List ℕ) → IsBytes stream → (acts others : List Act) (rest left : List ℕ) → HasRequests stream acts rest → HasRequests stream others left → (acts ≡ others) × (rest ≡ left)
one_reading stream fits acts others rest left one two =
    one_way acts others rest left (subst IsBytes one.whole fits) (sym one.whole ∙ two.whole) one.each two.each one.ends two.ends

pub alone : (act : Act) → IsRequest act → HasRequests (frame_of act) (act ∷ []) []
alone act request = record {
  whole = sym (append-nil (frame_of act)) ∙ sym (behind_first act [] []);
  each = (request, tt);
  ends = inl (omega arith);
}

ends_of : (H : Type 0) (b : Bool) (rest : List ℕ) → MatchBool b (IsBad rest) (H × IsPart rest) → IsPart rest ⊎ IsBad rest
ends_of H true rest h = inr h
ends_of H false rest h = inl h.1

stands_has : (stream : List ℕ) (given : List Act) (f : Frames) (s : Stands stream given f) → HasRequests stream given s.rest
stands_has stream given f s = record { whole = s.whole; each = s.each; ends = ends_of (held_in f ≡ s.rest) (is_shut f) s.rest s.left }

pub same_requests : (stream : List ℕ) → IsBytes stream → (given others : List Act) (one two : Frames) → Stands stream given one → Stands stream others two → given ≡ others
same_requests stream fits given others one two s t = (one_reading stream fits given others s.rest t.rest (stands_has stream given one s) (stands_has stream others two t)).0

-- ---- whole frames

pub begin_so : (acts others : List Act) (left : List ℕ) → AllByRecursion IsRequest acts → AllByRecursion IsRequest others → stream_of acts [] ≡ stream_of others left → IsBehind acts others left
begin_so acts [] left a b same = record { more = acts; acts_are = refl; each = a; left_is = sym same }
begin_so [] (y ∷ others) left a b same =
    let none : IsPart [] = omega arith in
    absurd (subst is_rest (sym (part_again [] none) ∙ ap front_of same ∙ front_is y others left b.0) tt)
begin_so (x ∷ acts) (y ∷ others) left a b same =
    let fronts : Whole x (4 + length (body_of x)) ≡ Whole y (4 + length (body_of y)) = sym (front_is x acts [] a.0) ∙ ap front_of same ∙ front_is y others left b.0 in
    let act : x ≡ y = ap (first_act x) fronts in
    let split : frame_of x ++ stream_of acts [] ≡ frame_of x ++ stream_of others left =
    sym (behind_first x acts []) ∙ same ∙ behind_first y others left ∙ ap (λ (z : Act). frame_of z ++ stream_of others left) (sym act) in
    let later : IsBehind acts others left = begin_so acts others left a.1 b.1 (append_cancel_left (frame_of x) (stream_of acts []) (stream_of others left) split) in
    record { more = later.more; acts_are = λ i. act i ∷ later.acts_are i; each = later.each; left_is = later.left_is }

pub never_bad_front : (acts : List Act) (bytes left : List ℕ) → AllByRecursion IsRequest acts → bytes ++ left ≡ stream_of acts [] → IsBad bytes → ⊥
never_bad_front [] bytes left each is bad =
    let none : length bytes + length left ≡ 0 = sym (length-append bytes left) ∙ ap length is in
    omega (arith, needed_least bytes, bad.whole, none)
never_bad_front (x ∷ acts) bytes left each is bad = never_bad x bytes left (stream_of acts []) each.0 (is ∙ behind_first x acts []) bad

pub never_part : (acts : List Act) → AllByRecursion IsRequest acts → IsPart (stream_of acts []) → acts ≡ []
never_part [] each part = refl
never_part (x ∷ acts) each part =
    let f : IsFramed (stream_of (x ∷ acts) []) x = subst (λ (l : List ℕ). IsFramed l x) (sym (behind_first x acts [])) (framed_front x (stream_of acts []) each.0) in
    absurd (never part f.enough)
  where
    never : {m n : ℕ} → m < n → n ≤ m → ⊥
    never lt le = omega arith
