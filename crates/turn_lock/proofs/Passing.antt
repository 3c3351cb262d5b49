-- A turn ends: it is passed on, or kept for good.
use Rattle.std.proofs.Common.{◌≡◌, ◌≢◌, ℕ, ◌+◌, ◌-◌, ◌%◌, ◌^◌, ◌<◌, List, [], ◌∷◌, length, get_or, set, sym, refl, ap, ◌∙◌, subst, inl, arith, Option, Some, length-set, get_or-set_other, get_or-set_same}
use Rattle.std.proofs.Math.Nat.{mod-add-mod}
use mathlib.Core.Option.{none, some}
use mathlib.Core.List.{IsPrefix}
use lib.ListN.{get_elem?}
use Rattle.atomic_table.specs.Table.{State, Me, step, gives, stepped, rest, Allows}
use Rattle.atomic_table.proofs.Lists.{set_here}
use Rattle.turn_lock.specs.declared.view.Stage.TheVariants.{Idle, Serves, Closes}
use Rattle.turn_lock.specs.declared.view.View.{View}
use Rattle.turn_lock.specs.Views.{log_in, turn_in, hand, view, front_to}
use Rattle.turn_lock.specs.Rule.{own, Tally, IsSound}
use Rattle.turn_lock.specs.Steps.{left, left_seeing, closed}
use Rattle.turn_lock.proofs.Prefixes.{prefix_self}
use Rattle.turn_lock.proofs.Standing.{told_again, told_still, stands_by, views_set, words_again}

module _ {T E K : Type 0} (entries : T → List E) (maker : E → ℕ) (fits : K → T → Type 0) (level : List E → ℕ) (name : K) where
  abbrev V : Type 0
  V = View E K

  abbrev M : Type 0
  M = Me (Option T) V

  abbrev Sound : State (Option T) V → Type 0
  Sound = IsSound entries maker fits level name

  -- the value goes back with the history as it is, and the next turn is served
  passed_on : (s : State (Option T) V) (r : Sound s) (id t n : ℕ) (log front now : List E) (called : K) (x : T) → 0 < length s.homes
      → get_elem? s.views id ≡ some (view (Serves t log) (hand called (Some n) front ∷ [])) → entries x ≡ log → fits called x → IsPrefix now log → own maker n now ≡ own maker n log
      → Sound record { words = set s.words 2 ((get_or s.words 2 0 + 1) % 2 ^ 64); homes = set s.homes 0 (some (Some x)); views = set s.views id (view Idle (hand called (Some n) now ∷ [])) }
  passed_on s r id t n log front now called x deep at whole fit pre owned =
      let f : Tally E = r.tally in
      let v : V = view (Serves t log) (hand called (Some n) front ∷ []) in
      let known = r.views.each id v at in
      let stands = known.stands in
      let some_turn = stands.1 in
      let hold = known.hold in
      let w : V = view Idle (hand called (Some n) now ∷ []) in
      let f' : Tally E = record f { passed = f.passed + 1; waiting = f.waiting - 1 } in
      let y : ℕ = (get_or s.words 2 0 + 1) % 18446744073709551616 in
      let wide = r.words.wide in
      let sums : f.passed + f.waiting ≡ f.passed + 1 + (f.waiting - 1) = omega arith in
      let mine : f.server f.passed ≡ id = ap f.server (sym stands.0) ∙ stands.2 in
      record {
        tally = f';
        words = record {
          wide = length-set s.words 2 y ∙ wide;
          drawn_is = get_or-set_other s.words 2 0 y 0 (λ z. omega arith) ∙ r.words.drawn_is;
          next_is = get_or-set_other s.words 2 1 y 0 (λ z. omega arith) ∙ (r.words.next_is ∙ ap (λ (z : ℕ). z % 18446744073709551616) sums);
          served_is = get_or-set_same s.words 2 y 0 (omega arith) ∙ (ap (λ (z : ℕ). (z + 1) % 18446744073709551616) r.words.served_is ∙ mod-add-mod f.passed 18446744073709551616 1);
          count_is = get_or-set_other s.words 2 3 y 0 (λ z. omega arith) ∙ r.words.count_is;
        };
        few = r.few;
        told = told_still (level f.log) s.words 2 y (λ z. omega arith) r.told;
        later = r.later;
        views = views_set maker name f f' s.views id v w at r.views refl (omega arith)
            record { may = omega arith; stands = tt; hold = (hold.0, subst (IsPrefix now) stands.3 pre, (hold.2.0, hold.2.1, owned ∙ ap (own maker n) stands.3), tt) }
            (λ j u ne o. record {
              may = o.may;
              stands = stands_by f f' j (λ k a b. (a, b))
                  (λ q a b c. let later : q ≢ f.passed = λ z. ne (sym c ∙ (ap f.server z ∙ mine)) in (omega arith, omega arith, c))
                  (λ q a b c. absurd (ne (sym c ∙ (ap f.server a ∙ mine)))) u.stage o.stands;
              hold = o.hold;
            });
        slot = inl (x, set_here s.homes 0 (some (Some x)) deep, whole ∙ stands.3, subst (λ (k : K). fits k x) hold.0 fit);
      }

  -- kind 8: the turn is passed, and the front stays
  pub passes_turn : (slots id : ℕ) (me : M) (t n : ℕ) (log front : List E) (called : K) (x : T) → 0 < slots → me ≡ (view (Serves t log) (hand called (Some n) front ∷ []), (0, Some x) ∷ [])
      → entries x ≡ log → fits called x → Allows Sound slots id me 2 (λ c. (c + 1) % 2 ^ 64) (left (step slots 2 1 0 none) me)
  passes_turn slots id me t n log front called x some_slot is whole fit s r deep at _ =
      let v : V = view (Serves t log) (hand called (Some n) front ∷ []) in
      let at' : get_elem? s.views id ≡ some v = subst (λ (m : M). get_elem? s.views id ≡ some m.0) is at in
      let known = r.views.each id v at' in
      let hold = known.hold in
      let log_is = known.stands.3 in
      let w : V = view Idle (hand called (Some n) front ∷ []) in
      let y : ℕ = (get_or s.words 2 0 + 1) % 18446744073709551616 in (
        w,
        gives,
        tt,
        subst (λ (cs : List (ℕ × Option T)). Sound (stepped s 2 y id cs w gives)) (sym (ap (λ (m : M). m.1) is))
            (passed_on s r id t n log front front called x (omega arith) at' whole fit (subst (IsPrefix front) (sym log_is) hold.1) (hold.2.2 ∙ ap (own maker n) (sym log_is))),
        λ i. (view Idle (sym is i).0.hands, rest me.1),
      )

  -- kind 8, and the front is the whole history
  pub passes_turn_seeing : (slots id : ℕ) (me : M) (t n : ℕ) (log front : List E) (called : K) (x : T) → 0 < slots → me ≡ (view (Serves t log) (hand called (Some n) front ∷ []), (0, Some x) ∷ [])
      → entries x ≡ log → fits called x → Allows Sound slots id me 2 (λ c. (c + 1) % 2 ^ 64) (left_seeing (step slots 2 1 0 none) me)
  passes_turn_seeing slots id me t n log front called x some_slot is whole fit s r deep at _ =
      let v : V = view (Serves t log) (hand called (Some n) front ∷ []) in
      let at' : get_elem? s.views id ≡ some v = subst (λ (m : M). get_elem? s.views id ≡ some m.0) is at in
      let w : V = view Idle (hand called (Some n) log ∷ []) in
      let y : ℕ = (get_or s.words 2 0 + 1) % 18446744073709551616 in (
        w,
        gives,
        tt,
        subst (λ (cs : List (ℕ × Option T)). Sound (stepped s 2 y id cs w gives)) (sym (ap (λ (m : M). m.1) is))
            (passed_on s r id t n log front log called x (omega arith) at' whole fit (prefix_self log) refl),
        λ i. (view Idle (front_to (log_in (sym is i).0.stage) (sym is i).0.hands), rest me.1),
      )

  -- the value goes back, and the turn is kept
  pub closes : (slots id : ℕ) (me : M) (t : ℕ) (log : List E) (called : K) (number : Option ℕ) (front : List E) (x : T) → 0 < slots
      → me ≡ (view (Serves t log) (hand called number front ∷ []), (0, Some x) ∷ []) → entries x ≡ log → fits called x
      → Allows Sound slots id me 0 (λ c. c) (closed (step slots 0 0 0 none) me)
  closes slots id me t log called number front x some_slot is whole fit s r deep at _ =
      let f : Tally E = r.tally in
      let v : V = view (Serves t log) (hand called number front ∷ []) in
      let at' : get_elem? s.views id ≡ some v = subst (λ (m : M). get_elem? s.views id ≡ some m.0) is at in
      let known = r.views.each id v at' in
      let stands = known.stands in
      let hold = known.hold in
      let w : V = view (Closes t) (hand called number front ∷ []) in
      let y : ℕ = get_or s.words 0 0 in
      let kept : Sound record { words = set s.words 0 y; homes = set s.homes 0 (some (Some x)); views = set s.views id w } = record {
        tally = f;
        words = words_again f s.words 0 r.words;
        few = r.few;
        told = told_again (level f.log) s.words 0 r.told;
        later = r.later;
        views = views_set maker name f f s.views id v w at' r.views refl refl
            record { may = known.may; stands = (stands.0, stands.1, stands.2); hold = hold }
            (λ j u _ o. o);
        slot = inl (x, set_here s.homes 0 (some (Some x)) (omega arith), whole ∙ stands.3, subst (λ (k : K). fits k x) hold.0 fit);
      } in (
        w,
        gives,
        tt,
        subst (λ (cs : List (ℕ × Option T)). Sound (stepped s 0 y id cs w gives)) (sym (ap (λ (m : M). m.1) is)) kept,
        λ i. (view (Closes (turn_in (sym is i).0.stage)) (sym is i).0.hands, rest me.1),
      )
