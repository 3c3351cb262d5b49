-- Connections in turn: one answerer becomes the other.
use Rattle.std.proofs.Common.{◌≡◌, ℕ, List, [], ◌∷◌, ◌++◌, Option, refl, sym, ap, subst, ◌∙◌, append_assoc, append-nil}
use Rattle.std.proofs.lemmas.List.{map-append}
use Rattle.turn_lock.specs.Fronts.{AllMade}
use Rattle.ks_outside.specs.declared.link.Link.{Ghosts as LinkGhosts}
use Rattle.rule_model.specs.declared.event.Act.{Act}
use Rattle.rule_model.specs.declared.reply.Reply.{Reply}
use Rattle.connection_workers.specs.Arrivals.{Arrives, links_of, worker_of}
use Rattle.connection_workers.specs.Workers.{ByLink, ByLinks, HasTaken, Visit, Visits, visited}
use Rattle.connection_workers.specs.declared.intake.Arrival.{Arrival}

made_append : {L : Type 0} (worker : ℕ) (xs ys : List (Arrival L)) → AllMade worker_of worker xs → AllMade worker_of worker ys → AllMade worker_of worker (xs ++ ys)
made_append worker [] ys first then = then
made_append worker (x ∷ xs) ys first then = (first.0, made_append worker xs ys first.1 then)

visited_append : {L : Type 0} (xs ys : List (Visit L)) → visited (xs ++ ys) ≡ visited xs ++ visited ys
visited_append [] ys = refl
visited_append (x ∷ xs) ys = ap (λ l. x.link ∷ l) (visited_append xs ys)

module _ {L A : Type 0} (g : LinkGhosts L) (answers : A → Act → Reply → A → Type 0) (leaves : L → Option L → Type 0) where
  visits_append : (a b c : A) (xs ys : List (Visit L)) → Visits g answers leaves a xs b → Visits g answers leaves b ys c → Visits g answers leaves a (xs ++ ys) c
  visits_append a b c [] ys first then = subst (λ (s : A). Visits g answers leaves s ys c) first then
  visits_append a b c (x ∷ xs) ys first then = (first.0, first.1, visits_append first.0 b c xs ys first.2 then)

  pub no_link : (a : A) → ByLinks g answers leaves a [] a
  no_link a = ([], refl, refl)

  one_link : (before now : A) (link : L) (left : Option L) → ByLink g answers leaves before link left now → ByLinks g answers leaves before (link ∷ []) now
  one_link before now link left by = (by.0 ∷ [], (now, by.1, refl), ap (λ (l : L). l ∷ []) (sym by.2))

  pub links_on : (a b c : A) (ls ms : List L) → ByLinks g answers leaves a ls b → ByLinks g answers leaves b ms c → ByLinks g answers leaves a (ls ++ ms) c
  links_on a b c ls ms first then = (
    first.0 ++ then.0,
    visits_append a b c first.0 then.0 first.1 then.1,
    ap (λ (l : List L). l ++ ms) first.2 ∙ (ap (λ (l : List L). visited first.0 ++ l) then.2 ∙ sym (visited_append first.0 then.0)),
  )

  -- nothing was taken
  pub none_taken : (worker : ℕ) (arrivals : List (Arrival L)) (a : A) → HasTaken g answers leaves worker arrivals arrivals a a
  none_taken worker arrivals a = record { more = []; grown = sym (append-nil arrivals); made = tt; served = no_link a }

  -- and one link more
  pub taken_more : (worker : ℕ) (old mid new : List (Arrival L)) (a b c : A) (link : L) (left : Option L) → HasTaken g answers leaves worker old mid a b → Arrives worker link mid new
      → ByLink g answers leaves b link left c → HasTaken g answers leaves worker old new a c
  taken_more worker old mid new a b c link left taken arrives by =
      let last = arrives.last in
      let same : links_of taken.more ++ link ∷ [] ≡ links_of (taken.more ++ last ∷ []) =
      ap (λ (l : L). links_of taken.more ++ l ∷ []) (sym arrives.link_is) ∙ sym (map-append (λ (x : Arrival L). x.link.value) taken.more (last ∷ [])) in
      record {
        more = taken.more ++ last ∷ [];
        grown = arrives.grown ∙ (ap (λ (l : List (Arrival L)). l ++ last ∷ []) taken.grown ∙ append_assoc old taken.more (last ∷ []));
        made = made_append worker taken.more (last ∷ []) taken.made (arrives.worker_is, tt);
        served = subst (λ (l : List L). ByLinks g answers leaves a l c) same (links_on a b c (links_of taken.more) (link ∷ []) taken.served (one_link b c link left by));
      }
