-- Numbers and turns are drawn.
use Rattle.std.proofs.Common.{◌≡◌, ℕ, eqb, set, ◌+◌, ◌%◌, ◌^◌, ◌<◌, List, [], ◌∷◌, get_or, sym, refl, ap, ◌∙◌, subst, arith, Option, Some, None, length-set, get_or-set_other, get_or-set_same}
use Rattle.std.proofs.Math.Nat.{mod-add-mod}
use mathlib.Core.Option.{none, some}
use lib.ListN.{get_elem?}
use lib.Seq.{set-get_or}
use prog.Atomic.{either}
use Rattle.atomic_table.specs.Table.{Me, Act, step, keeps, stepped, carried_after, Valid, Allows}
use Rattle.atomic_table.proofs.Lists.{exchanged, set_again}
use Rattle.turn_lock.specs.declared.view.Stage.TheVariants.{Idle, Makes, Waits}
use Rattle.turn_lock.specs.declared.view.View.{View}
use Rattle.turn_lock.specs.Views.{turns_of, IsServing, made_in, hand, view, numbers_in, turns, number_to}
use Rattle.turn_lock.specs.Rule.{own, Tally, IsSound}
use Rattle.turn_lock.specs.Steps.{numbered, drew, drew_if}
use Rattle.turn_lock.proofs.Prefixes.{own_none}
use Rattle.turn_lock.proofs.Sums.{put, put_here, put_else}
use Rattle.turn_lock.proofs.Standing.{told_still, stands_by, holds_by, views_set, kept_by}

module _ {T E K : Type 0} (entries : T → List E) (maker : E → ℕ) (fits : K → T → Type 0) (level : List E → ℕ) (name : K) where
  -- kind 9: a pass's number is drawn
  pub draws_number : (slots id : ℕ) (me : Me (Option T) (View E K)) (k : ℕ) (called : K) (front : List E) → me.0 ≡ view (Makes k) (hand called None front ∷ []) → k + 1 < 2 ^ 64
      → Allows (IsSound entries maker fits level name) slots id me 0 (λ n. (n + 1) % 2 ^ 64) (numbered (step slots 0 1 0 none) me)
  draws_number slots id me k called front is room s r deep at _ =
      let f : Tally E = r.tally in
      let v : View E K = view (Makes k) (hand called None front ∷ []) in
      let at' : get_elem? s.views id ≡ some v = subst (λ (z : View E K). get_elem? s.views id ≡ some z) is at in
      let known = r.views.each id v at' in
      let drawn : k ≡ f.drawn = known.stands.0 in
      let drawer : id ≡ f.drawer = known.stands.1 in
      let w : View E K = view (Makes (k + 1)) (hand called (Some k) front ∷ []) in
      let f' : Tally E = record f { drawn = k + 1; holder = put f.holder k id } in
      let n : ℕ = get_or s.words 0 0 in
      let y : ℕ = (n + 1) % 18446744073709551616 in
      let found : n ≡ k = r.words.drawn_is ∙ sym drawn in
      let next : y ≡ k + 1 = omega arith in
      let wide = r.words.wide in
      let none_made : own maker k f.log ≡ [] = r.later k (omega arith) in (
        w,
        keeps,
        tt,
        record {
          tally = f';
          words = record {
            wide = length-set s.words 0 y ∙ wide;
            drawn_is = get_or-set_same s.words 0 y 0 (omega arith) ∙ next;
            next_is = get_or-set_other s.words 0 1 y 0 (λ e. omega arith) ∙ r.words.next_is;
            served_is = get_or-set_other s.words 0 2 y 0 (λ e. omega arith) ∙ r.words.served_is;
            count_is = get_or-set_other s.words 0 3 y 0 (λ e. omega arith) ∙ r.words.count_is;
          };
          few = room;
          told = told_still (level f.log) s.words 0 y (λ e. omega arith) r.told;
          later = λ m h. r.later m (omega arith);
          views = views_set maker name f f' s.views id v w at' r.views (omega arith) refl
              record {
                may = omega arith;
                stands = (refl, drawer);
                hold = (known.hold.0, known.hold.1, (omega arith, put_here f.holder k id, own_none maker k front f.log known.hold.1 none_made ∙ sym none_made), tt);
              }
              (λ j u ne o. record {
                may = o.may;
                stands = stands_by f f' j (λ z a b. absurd (ne (b ∙ sym drawer))) (λ t a b c. (a, b, c)) (λ t a b c. (a, b, c, refl)) u.stage o.stands;
                hold = holds_by maker name f f' j j (λ _ p. p) (λ m _ p a b c. (omega arith, put_else f.holder k id m (λ z. omega arith) ∙ b, c)) u.hands o.hold;
              });
          slot = kept_by entries fits name f.log s.homes s.views id v w at' (λ z. z) r.slot;
        },
        (found ∙ sym (ap (λ (z : View E K). made_in z.stage) is), λ i. (view (Makes (sym found i + 1)) (number_to (sym found i) (sym is i).hands), me.1)),
      )

  -- kind 3: a turn is drawn
  pub draws_turn : (slots id : ℕ) (me : Me (Option T) (View E K)) → me.0.stage ≡ Idle → 0 < numbers_in me.0.hands
      → Allows (IsSound entries maker fits level name) slots id me 1 (λ n. (n + 1) % 2 ^ 64) (drew (step slots 1 1 0 none) me)
  draws_turn slots id me is some_number s r deep at _ =
      let f : Tally E = r.tally in
      let v : View E K = me.0 in
      let known = r.views.each id v at in
      let t : ℕ = f.passed + f.waiting in
      let w : View E K = view (Waits t) v.hands in
      let f' : Tally E = record f { waiting = f.waiting + 1; server = put f.server t id } in
      let n : ℕ = get_or s.words 1 0 in
      let y : ℕ = (n + 1) % 18446744073709551616 in
      let none_yet : turns v ≡ 0 = ap turns_of is in
      let wide = r.words.wide in
      let next : y ≡ (t + 1) % 18446744073709551616 = ap (λ (z : ℕ). (z + 1) % 18446744073709551616) r.words.next_is ∙ mod-add-mod t 18446744073709551616 1 in
      let sums : t + 1 ≡ f.passed + (f.waiting + 1) = omega arith in (
        w,
        keeps,
        tt,
        record {
          tally = f';
          words = record {
            wide = length-set s.words 1 y ∙ wide;
            drawn_is = get_or-set_other s.words 1 0 y 0 (λ e. omega arith) ∙ r.words.drawn_is;
            next_is = get_or-set_same s.words 1 y 0 (omega arith) ∙ (next ∙ ap (λ (z : ℕ). z % 18446744073709551616) sums);
            served_is = get_or-set_other s.words 1 2 y 0 (λ e. omega arith) ∙ r.words.served_is;
            count_is = get_or-set_other s.words 1 3 y 0 (λ e. omega arith) ∙ r.words.count_is;
          };
          few = r.few;
          told = told_still (level f.log) s.words 1 y (λ e. omega arith) r.told;
          later = r.later;
          views = views_set maker name f f' s.views id v w at r.views refl (omega arith)
              record { may = omega arith; stands = (omega arith, omega arith, put_here f.server t id); hold = known.hold }
              (λ j u ne o. record {
                may = o.may;
                stands = stands_by f f' j (λ k a b. (a, b)) (λ q a b c. (a, omega arith, put_else f.server t id q (λ z. omega arith) ∙ c))
                    (λ q a b c. (a, omega arith, put_else f.server t id q (λ z. omega arith) ∙ c, refl)) u.stage o.stands;
                hold = o.hold;
              });
          slot = kept_by entries fits name f.log s.homes s.views id v w at (λ z. absurd (subst IsServing is z)) r.slot;
        },
        (t, r.words.next_is, refl),
      )

  -- a turn is drawn where the word of the next one is the number that was asked for
  pub draws_free : (slots id : ℕ) (me : Me (Option T) (View E K)) (old new : ℕ) → new ≡ (old + 1) % 18446744073709551616 → me.0.stage ≡ Idle → 0 < numbers_in me.0.hands
      → Allows (IsSound entries maker fits level name) slots id me 1 (λ n. either (eqb n old) new n) (drew_if (step slots 1 old new none) me)
  draws_free slots id me old new next is some_number s r deep at small =
      let n : ℕ = get_or s.words 1 0 in
      exchanged n old new
      (λ y. (w : View E K) × (a : Act (Option T)) × Valid s.homes me.1 a × IsSound entries maker fits level name (stepped s 1 y id me.1 w a) × drew_if (step slots 1 old new none) me n (w, carried_after me.1 a))
      (λ hit.
      let d = draws_turn slots id me is some_number s r deep at small in
      let path : (n + 1) % 18446744073709551616 ≡ new = ap (λ (z : ℕ). (z + 1) % 18446744073709551616) hit ∙ sym next in (
        d.0,
        d.1,
        d.2,
        subst (λ (y : ℕ). IsSound entries maker fits level name (stepped s 1 y id me.1 d.0 d.1)) path d.3,
        ((λ _. d.4), λ miss. absurd (miss hit)),
      ))
      (λ miss.
      let same : s ≡ record { words = set s.words 1 n; homes = s.homes; views = set s.views id me.0 } =
      λ k. record { words = sym (set-get_or s.words 1 0) k; homes = s.homes; views = sym (set_again s.views id me.0 at) k } in
      (me.0, keeps, tt, subst (IsSound entries maker fits level name) same r, ((λ hit. absurd (miss hit)), λ _. refl)))
