-- A pass sees the whole history without a turn.
use Rattle.std.proofs.Common.{◌≡◌, ℕ, List, [], ◌∷◌, ◌≤◌, get_or, get_or-set_other, get_or-set_same, length-set, max, set, sym, refl, ◌∙◌, subst, arith, Option, Some}
use mathlib.Core.Option.{none, some}
use lib.ListN.{get_elem?}
use Rattle.atomic_table.specs.Table.{Me, step, keeps, Allows}
use Rattle.atomic_table.proofs.Lists.{set_again}
use Rattle.turn_lock.specs.declared.view.Stage.TheVariants.{Idle, Serves}
use Rattle.turn_lock.specs.declared.view.View.{View}
use Rattle.turn_lock.specs.Views.{hand, view, front_to}
use Rattle.turn_lock.specs.Rule.{Tally, IsSound}
use Rattle.turn_lock.specs.Steps.{FirstBegins, caught_up, told}
use Rattle.turn_lock.proofs.Prefixes.{prefix_self}
use Rattle.turn_lock.proofs.Standing.{told_again, views_set, words_again, kept_by}

module _ {T E K : Type 0} (entries : T → List E) (maker : E → ℕ) (fits : K → T → Type 0) (level : List E → ℕ) (name : K) where
  pub catches_up : (slots id : ℕ) (me : Me (Option T) (View E K)) (called : K) (n : ℕ) (front : List E) → me.0 ≡ view Idle (hand called (Some n) front ∷ [])
      → Allows (IsSound entries maker fits level name) slots id me 4 (λ c. c) (caught_up maker level (step slots 4 0 0 none) me)
  catches_up slots id me called n front is s r deep at _ =
      let f : Tally E = r.tally in
      let v : View E K = view Idle (hand called (Some n) front ∷ []) in
      let at' : get_elem? s.views id ≡ some v = subst (λ (z : View E K). get_elem? s.views id ≡ some z) is at in
      let hold = (r.views.each id v at').hold in
      let mine = hold.2 in
      let w : View E K = view Idle (hand called (Some n) f.log ∷ []) in (
        w,
        keeps,
        tt,
        record {
          tally = f;
          words = words_again f s.words 4 r.words;
          few = r.few;
          told = told_again (level f.log) s.words 4 r.told;
          later = r.later;
          views = views_set maker name f f s.views id v w at' r.views refl refl
              record { may = omega arith; stands = tt; hold = (hold.0, prefix_self f.log, (mine.0, mine.1, refl), tt) }
              (λ j u _ o. o);
          slot = kept_by entries fits name f.log s.homes s.views id v w at' (λ z. z) r.slot;
        },
        (
          f.log,
          r.told,
          (λ i. (view (sym is i).stage (front_to f.log (sym is i).hands), me.1)),
          subst (λ (z : View E K). FirstBegins maker f.log z.hands) (sym is) (hold.1, mine.2),
        ),
      )

  -- a level is told that the history has
  pub tells : (slots id : ℕ) (me : Me (Option T) (View E K)) (t n k : ℕ) (log front : List E) (called : K) → me.0 ≡ view (Serves t log) (hand called (Some n) front ∷ [])
      → k ≤ level log → Allows (IsSound entries maker fits level name) slots id me 4 (λ c. max c k) (told (step slots 4 k 0 none) me)
  tells slots id me t n k log front called is few s r deep at _ =
      let f : Tally E = r.tally in
      let v : View E K = view (Serves t log) (hand called (Some n) front ∷ []) in
      let at' : get_elem? s.views id ≡ some v = subst (λ (z : View E K). get_elem? s.views id ≡ some z) is at in
      let stands = (r.views.each id v at').stands in
      let c : ℕ = get_or s.words 4 0 in
      let y : ℕ = max c k in
      let wide = r.words.wide in
      let was = r.told in
      let most : k ≤ level f.log = subst (λ (z : List E). k ≤ level z) stands.3 few in
      let both : y ≤ level f.log = omega arith in
      let now : IsSound entries maker fits level name record { words = set s.words 4 y; homes = s.homes; views = s.views } = record {
        tally = f;
        words = record {
          wide = length-set s.words 4 y ∙ wide;
          drawn_is = get_or-set_other s.words 4 0 y 0 (λ z. omega arith) ∙ r.words.drawn_is;
          next_is = get_or-set_other s.words 4 1 y 0 (λ z. omega arith) ∙ r.words.next_is;
          served_is = get_or-set_other s.words 4 2 y 0 (λ z. omega arith) ∙ r.words.served_is;
          count_is = get_or-set_other s.words 4 3 y 0 (λ z. omega arith) ∙ r.words.count_is;
        };
        few = r.few;
        told = subst (λ (z : ℕ). z ≤ level f.log) (sym (get_or-set_same s.words 4 y 0 (omega arith))) both;
        later = r.later;
        views = r.views;
        slot = r.slot;
      } in (
        me.0,
        keeps,
        tt,
        subst (λ (vs : List (View E K)). IsSound entries maker fits level name record { words = set s.words 4 y; homes = s.homes; views = vs }) (sym (set_again s.views id me.0 at)) now,
        refl,
      )
