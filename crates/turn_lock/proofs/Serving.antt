-- A turn comes, and its entries are counted.
use Rattle.std.proofs.Common.{◌≡◌, ◌≢◌, ℕ, ◌+◌, ◌%◌, ◌^◌, ◌<◌, ◌≤◌, List, [], ◌∷◌, ◌++◌, length, take, get_or, set, sym, refl, ap, ◌∙◌, subst, ⊎_elim, inr, arith, Option, Some, length-set, length-append, get_or-set_other, get_or-set_same}
use mathlib.Core.Logic.{dite}
use mathlib.Core.Option.{none, some}
use mathlib.Core.List.{IsPrefix}
use native.Mathlib.Decide.{ℕ_discrete}
use lib.ListN.{get_elem?}
use lib.Seq.{set-get_or}
use Rattle.atomic_table.specs.Table.{Me, step, keeps, takes, Allows}
use Rattle.atomic_table.proofs.Lists.{set_here, set_again, one_turn}
use Rattle.turn_lock.specs.declared.view.Stage.TheVariants.{Waits, Serves}
use Rattle.turn_lock.specs.declared.view.Hand.{Hand}
use Rattle.turn_lock.specs.declared.view.View.{View}
use Rattle.turn_lock.specs.Views.{turns_of, IsServing, turn_in, hand, view, turns}
use Rattle.turn_lock.specs.Rule.{own, Tally, Stands, AllHold, IsSound}
use Rattle.turn_lock.specs.Endings.{serving_one, same_at}
use Rattle.turn_lock.specs.Steps.{AllSee, held, recorded, looked, counted}
use Rattle.turn_lock.proofs.Prefixes.{prefix_self, prefix_more, prefix_trans, take_next, own_other}
use Rattle.turn_lock.proofs.Sums.{at_inside}
use Rattle.turn_lock.proofs.Standing.{told_again, told_still, stands_by, holds_by, views_set, waiting_few, words_again, owned_of}

module _ {T E K : Type 0} (entries : T → List E) (maker : E → ℕ) (fits : K → T → Type 0) (level : List E → ℕ) (name : K) where
  -- each hand begins the history of the value
  sees : (f : Tally E) (seat : ℕ) (x : T) → entries x ≡ f.log → fits name x → (hs : List (Hand E K)) → AllHold maker f.log f.drawn f.holder seat name hs → AllSee entries maker fits x hs
  sees f seat x e fit [] h = tt
  sees f seat x e fit (y ∷ hs) h = (
    subst (λ (k : K). fits k x) (sym h.0) fit,
    subst (IsPrefix y.front) (sym e) h.1,
    owned_of maker f seat (entries x) e y.front y.number h.2,
    sees f seat x e fit hs h.3,
  )

  -- kind 4: a look at which turn is served, and where it is the seat's own, the slot
  pub looks : (slots id : ℕ) (me : Me (Option T) (View E K)) (t : ℕ) → me.0.stage ≡ Waits t
      → Allows (IsSound entries maker fits level name) slots id me 2 (λ n. n) (looked entries maker fits (step slots 2 0 0 none) me)
  looks slots id me t is s r deep at _ =
      let f : Tally E = r.tally in
      let v : View E K = me.0 in
      let known = r.views.each id v at in
      let stands : (f.passed ≤ t) × (t < f.passed + f.waiting) × (f.server t ≡ id) = subst (Stands f id) is known.stands in
      let low = stands.0 in
      let high = stands.1 in
      let q : ℕ = turn_in v.stage in
      let turn : q ≡ t = ap turn_in is in
      let one : turns v ≡ 1 = ap turns_of is in
      let n : ℕ = get_or s.words 2 0 in
      let few = r.few in
      let fewer = waiting_few maker name f s.views r.views in
      dite (ℕ_discrete n (q % 18446744073709551616))
      (λ hit.
      let now : f.passed ≡ t = one_turn f.passed t 18446744073709551616 low (omega arith) (sym r.words.served_is ∙ (hit ∙ ap (λ (z : ℕ). z % 18446744073709551616) turn)) in
      ⊎_elim
      (λ (h : (x : T) × (get_elem? s.homes 0 ≡ some (some (Some x))) × (entries x ≡ f.log) × fits name x).
      let w : View E K = view (Serves q (entries h.0)) v.hands in
      let may = known.may in (
        w,
        takes 0 (Some h.0),
        h.1,
        record {
          tally = f;
          words = words_again f s.words 2 r.words;
          few = r.few;
          told = told_again (level f.log) s.words 2 r.told;
          later = r.later;
          views = views_set maker name f f s.views id v w at r.views refl (omega arith)
              record { may = omega arith; stands = (turn ∙ sym now, omega arith, ap f.server turn ∙ stands.2, h.2); hold = known.hold }
              (λ j u _ o. o);
          slot = inr (id, w, set_here s.views id w (at_inside s.views id v at), tt);
        },
        ((λ _. (h.0, refl, sees f id h.0 h.2 h.3 v.hands known.hold)), λ miss. absurd (miss hit)),
      ))
      (λ (h : (j : ℕ) × (u : View E K) × (get_elem? s.views j ≡ some u) × IsServing u.stage).
      let a : f.server f.passed ≡ h.0 = serving_one f h.0 h.1.stage (r.views.each h.0 h.1 h.2).stands h.3 in
      let b : h.0 ≡ id = sym a ∙ (ap f.server now ∙ stands.2) in
      let c : h.1 ≡ v = same_at s.views id h.1 v (subst (λ (i : ℕ). get_elem? s.views i ≡ some h.1) b h.2) at in
      let d : IsServing v.stage = subst (λ (u : View E K). IsServing u.stage) c h.3 in
      absurd (subst IsServing is d))
      r.slot)
      (λ miss.
      let same : s ≡ record { words = set s.words 2 n; homes = s.homes; views = set s.views id v } =
      λ k. record { words = sym (set-get_or s.words 2 0) k; homes = s.homes; views = sym (set_again s.views id v at) k } in
      (v, keeps, tt, subst (IsSound entries maker fits level name) same r, ((λ hit. absurd (miss hit)), λ _. refl)))

  -- kind 6: an entry of the value in the slot is counted
  pub counts_entry : (slots id : ℕ) (me : Me (Option T) (View E K)) (t n : ℕ) (log front : List E) (called : K) (x : T) (e : E) (es : List E)
      → me ≡ (view (Serves t log) (hand called (Some n) front ∷ []), (0, Some x) ∷ []) → entries x ≡ log ++ e ∷ es → maker e ≡ n → length log + 1 < 2 ^ 64 → ((xs ys : List E) → level xs ≤ level (xs ++ ys))
      → Allows (IsSound entries maker fits level name) slots id me 3 (λ c. (c + 1) % 2 ^ 64) (counted entries (step slots 3 1 0 none) me)
  counts_entry slots id me t n log front called x e es is grown made room rises s r deep at _ =
      let f : Tally E = r.tally in
      let v : View E K = view (Serves t log) (hand called (Some n) front ∷ []) in
      let at' : get_elem? s.views id ≡ some v = subst (λ (m : Me (Option T) (View E K)). get_elem? s.views id ≡ some m.0) is at in
      let known = r.views.each id v at' in
      let stands = known.stands in
      let hold = known.hold in
      let owns = hold.2 in
      let inside = owns.0 in
      let now : List E = log ++ e ∷ [] in
      let w : View E K = view (Serves t now) (hand called (Some n) now ∷ []) in
      let f' : Tally E = record f { log = now } in
      let c : ℕ = get_or s.words 3 0 in
      let y : ℕ = (c + 1) % 18446744073709551616 in
      let wide = r.words.wide in
      let long : length now ≡ length log + 1 = length-append log (e ∷ []) in
      let was : c ≡ length log = r.words.count_is ∙ ap length (sym stands.3) in
      let next : y ≡ length now = omega arith in
      let grow : IsPrefix f.log now = subst (λ (z : List E). IsPrefix z now) stands.3 (prefix_more log (e ∷ [])) in
      let same_own : (m : ℕ) → m ≢ n → own maker m f.log ≡ own maker m now = λ m other. ap (own maker m) (sym stands.3) ∙ sym (own_other maker m log e (λ z. other (sym z ∙ made))) in
      let built : take (length log + 1) (entries x) ≡ now = ap (take (length log + 1)) grown ∙ take_next log e es in
      let seen : w ≡ recorded (held entries me.1) me.0 = ap (λ (z : List E). let u : View E K = view (Serves t z) (hand called (Some n) z ∷ []) in u) (sym built) ∙ ap (λ (m : Me (Option T) (View E K)). recorded (held entries m.1) m.0) (sym is) in (
        w,
        keeps,
        tt,
        record {
          tally = f';
          words = record {
            wide = length-set s.words 3 y ∙ wide;
            drawn_is = get_or-set_other s.words 3 0 y 0 (λ z. omega arith) ∙ r.words.drawn_is;
            next_is = get_or-set_other s.words 3 1 y 0 (λ z. omega arith) ∙ r.words.next_is;
            served_is = get_or-set_other s.words 3 2 y 0 (λ z. omega arith) ∙ r.words.served_is;
            count_is = get_or-set_same s.words 3 y 0 (omega arith) ∙ next;
          };
          few = r.few;
          told = let a = told_still (level f.log) s.words 3 y (λ z. omega arith) r.told in let b = subst (λ (z : List E). level z ≤ level now) stands.3 (rises log (e ∷ [])) in omega arith;
          later = λ m h. sym (same_own m (λ z. omega arith)) ∙ r.later m h;
          views = views_set maker name f f' s.views id v w at' r.views refl refl
              record { may = omega arith; stands = (stands.0, stands.1, stands.2, refl); hold = (hold.0, prefix_self now, (owns.0, owns.1, refl), tt) }
              (λ j u ne o.
              let not_served : (q : ℕ) → q ≡ f.passed → f.server q ≡ j → ⊥ = λ q a d. ne (sym d ∙ (ap f.server (a ∙ sym stands.0) ∙ stands.2)) in
              record {
                may = o.may;
                stands = stands_by f f' j (λ k a b. (a, b)) (λ q a b d. (a, b, d)) (λ q a b d. absurd (not_served q a d)) u.stage o.stands;
                hold = holds_by maker name f f' j j (λ front p. prefix_trans front f.log now p grow)
                    (λ m front p a b d. (a, b, d ∙ same_own m (λ z. ne (sym b ∙ (ap f.holder z ∙ owns.1))))) u.hands o.hold;
              });
          slot = inr (id, w, set_here s.views id w (at_inside s.views id v at'), tt);
        },
        λ i. (seen i, me.1),
      )
