-- Talks, one behind the other.
use Rattle.std.proofs.Common.{◌≡◌, ℕ, ◌+◌, Bool, ◌||◌, List, [], ◌∷◌, ◌++◌, length, flat_map, refl, sym, ap, subst, ◌∙◌, append_assoc}
use Rattle.std.proofs.lemmas.Grind.{flat_map-append}
use Rattle.std.proofs.lemmas.List.{append-nil, length-append}
use Rattle.std.specs.List.{AllByRecursion}
use Rattle.rule_model.specs.declared.event.Act.{Act}
use Rattle.rule_model.specs.declared.reply.Reply.{Reply}
use Rattle.wire_frames.specs.Spelling.{frame_of, IsRequest}
use Rattle.wire_frames.specs.Replies.{reply_of}
use Rattle.connections.specs.Talks.{Exchange, asked, size_of, told, Talks, joins, has_joined, InTurn, NoneFull, EndsFull}
use Rattle.connections.specs.Ends.{IsCut}

pub asked_append : (xs ys : List Exchange) → asked (xs ++ ys) ≡ asked xs ++ asked ys
asked_append [] ys = refl
asked_append (x ∷ xs) ys = ap (λ (l : List Act). x.act ∷ l) (asked_append xs ys)

pub size_append : (xs ys : List Exchange) → size_of (xs ++ ys) ≡ size_of xs + size_of ys
size_append xs ys =
    ap (λ (l : List Act). length (flat_map frame_of l)) (asked_append xs ys) ∙ ap (λ (l : List ℕ). length l) (flat_map-append frame_of (asked xs) (asked ys))
    ∙ length-append (flat_map frame_of (asked xs)) (flat_map frame_of (asked ys))

pub told_append : (xs ys : List Exchange) → told (xs ++ ys) ≡ told xs ++ told ys
told_append [] ys = refl
told_append (x ∷ xs) ys = ap (λ (l : List ℕ). reply_of x.reply ++ l) (told_append xs ys) ∙ sym (append_assoc (reply_of x.reply) (told xs) (told ys))

pub told_one : (xs : List Exchange) (x : Exchange) → told (xs ++ x ∷ []) ≡ told xs ++ reply_of x.reply
told_one xs x = told_append xs (x ∷ []) ∙ ap (λ (l : List ℕ). told xs ++ l) (append-nil (reply_of x.reply))

pub talks_append : {A : Type 0} (answers : A → Act → Reply → A → Type 0) (a b c : A) (xs ys : List Exchange) → Talks answers a xs b → Talks answers b ys c → Talks answers a (xs ++ ys) c
talks_append answers a b c [] ys first then = subst (λ s. Talks answers s ys c) first then
talks_append answers a b c (x ∷ xs) ys first then = (first.0, first.1, talks_append answers first.0 b c xs ys first.2 then)

pub joined_append : (joined : Bool) (xs ys : List Exchange) → has_joined joined (xs ++ ys) ≡ has_joined (has_joined joined xs) ys
joined_append joined [] ys = refl
joined_append joined (x ∷ xs) ys = joined_append (joined || joins x) xs ys

pub turn_append : (joined : Bool) (xs ys : List Exchange) → InTurn joined xs → InTurn (has_joined joined xs) ys → InTurn joined (xs ++ ys)
turn_append joined [] ys first then = then
turn_append joined (x ∷ xs) ys first then = (first.0, turn_append (joined || joins x) xs ys first.1 then)

pub open_append : (xs ys : List Exchange) → NoneFull xs → NoneFull ys → NoneFull (xs ++ ys)
open_append [] ys first then = then
open_append (x ∷ xs) ys first then = (first.0, open_append xs ys first.1 then)

pub full_append : (xs ys : List Exchange) → NoneFull xs → EndsFull ys → EndsFull (xs ++ ys)
full_append xs ys first then =
    let front : List Exchange = then.0 in
    let last : Exchange = then.1 in
    (xs ++ front, last, ap (λ (l : List Exchange). xs ++ l) then.2 ∙ sym (append_assoc xs front (last ∷ [])), open_append xs front first then.3, then.4)

pub cut_append : (xs ys : List Exchange) (piece missing : List ℕ) → NoneFull xs → IsCut ys piece missing → IsCut (xs ++ ys) piece missing
cut_append xs ys piece missing first then =
    let front : List Exchange = then.front in
    let last : Exchange = then.last in
    record {
      front = xs ++ front;
      last = last;
      talk_is = ap (λ (l : List Exchange). xs ++ l) then.talk_is ∙ sym (append_assoc xs front (last ∷ []));
      unfull = open_append xs front first then.unfull;
      frame = then.frame;
      some = then.some;
    }

pub each_front : (xs ys : List Act) → AllByRecursion IsRequest (xs ++ ys) → AllByRecursion IsRequest xs
each_front [] ys all = tt
each_front (x ∷ xs) ys all = (all.0, each_front xs ys all.1)

pub each_back : (xs ys : List Act) → AllByRecursion IsRequest (xs ++ ys) → AllByRecursion IsRequest ys
each_back [] ys all = all
each_back (x ∷ xs) ys all = each_back xs ys all.1
