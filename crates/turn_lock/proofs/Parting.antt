-- Seats are cut in two and joined.
use Rattle.std.proofs.Common.{◌≡◌, ◌≢◌, ℕ, ◌+◌, ◌<◌, List, [], ◌∷◌, ◌++◌, length, get_or, set, sym, refl, ap, ◌∙◌, subst, ⊎_elim, arith, Option, Some, None, length-set}
use mathlib.Core.Option.{none, some}
use lib.ListN.{get_elem?}
use Rattle.atomic_table.specs.Table.{Me, step, keeps, Allows, Splits, Joins}
use Rattle.atomic_table.proofs.Lists.{at_set, set_else, set_again}
use Rattle.turn_lock.specs.declared.view.Stage.{Stage}
use Rattle.turn_lock.specs.declared.view.Stage.TheVariants.{Idle, Makes, Closes, Ends}
use Rattle.turn_lock.specs.declared.view.View.{View}
use Rattle.turn_lock.specs.Views.{turns_of, IsServing, turn_in, made_in, hand, view, turns, numbers, numbers_in}
use Rattle.turn_lock.specs.Rule.{total, Tally, Stands, Knows, ViewsAre, IsSound}
use Rattle.turn_lock.specs.Steps.{longer, kept_part, heir_part, note_part, gathered, completed, nobody, compare, BothBegin, compared}
use Rattle.turn_lock.proofs.Prefixes.{longer_prefix, longer_own, longer_owned, longer_begins}
use Rattle.turn_lock.proofs.Sums.{total_set, moved, moved_here, moved_else}
use Rattle.turn_lock.proofs.Standing.{told_again, stands_by, holds_by, holds_append, holds_unnumbered, views_set, views_more, words_again, numbers_append, numbers_unnumbered, kept_by, kept_longer}

module _ {T E K : Type 0} (entries : T → List E) (maker : E → ℕ) (fits : K → T → Type 0) (level : List E → ℕ) (name : K) where
  abbrev V : Type 0
  V = View E K

  -- kind 1: the right to draw numbers goes to a new seat
  pub heirs : (id : ℕ) (v : V) (k : ℕ) → v.stage ≡ Makes k → Splits (IsSound entries maker fits level name) id v (kept_part v) (heir_part v)
  heirs id v k is s r at =
      let f : Tally E = r.tally in
      let known = r.views.each id v at in
      let stands : (k ≡ f.drawn) × (id ≡ f.drawer) = subst (Stands f id) is known.stands in
      let l : V = kept_part v in
      let h : V = heir_part v in
      let f' : Tally E = record f { drawer = length s.views } in
      let no_turn : turns v ≡ 0 = ap turns_of is in
      let wide : length (set s.views id l) ≡ length s.views = length-set s.views id l in
      let cut : ViewsAre maker name f' (set s.views id l) = views_set maker name f f' s.views id v l at r.views refl (omega arith)
      record { may = omega arith; stands = tt; hold = known.hold }
      (λ j u ne o. record {
        may = o.may;
        stands = stands_by f f' j (λ _ _ z. absurd (ne (z ∙ sym stands.1))) (λ _ a b c. (a, b, c)) (λ _ a b c. (a, b, c, refl)) u.stage o.stands;
        hold = o.hold;
      }) in
      let at_last : Stands f' (length (set s.views id l)) (Makes k) = (stands.0, wide) in
      record {
        tally = f';
        words = record { wide = r.words.wide; drawn_is = r.words.drawn_is; next_is = r.words.next_is; served_is = r.words.served_is; count_is = r.words.count_is };
        few = r.few;
        told = r.told;
        later = r.later;
        views = views_more maker name f' f' (set s.views id l) h cut refl (numbers_unnumbered v.hands) (omega arith)
            record {
              may = omega arith;
              stands = subst (Stands f' (length (set s.views id l))) (sym is) at_last;
              hold = holds_unnumbered maker name f id (length (set s.views id l)) v.hands known.hold;
            }
            (λ j u _ o. o);
        slot = kept_longer entries fits name f.log s.homes (set s.views id l) h (kept_by entries fits name f.log s.homes s.views id v l at (λ z. absurd (subst IsServing is z)) r.slot);
      }

  -- kind 1: a copy of what was seen
  pub notes : (id : ℕ) (v : V) → Splits (IsSound entries maker fits level name) id v v (note_part v)
  notes id v s r at =
      let f : Tally E = r.tally in
      let known = r.views.each id v at in
      let h : V = note_part v in
      let out : IsSound entries maker fits level name record { words = s.words; homes = s.homes; views = s.views ++ h ∷ [] } = record {
        tally = f;
        words = r.words;
        few = r.few;
        told = r.told;
        later = r.later;
        views = views_more maker name f f s.views h r.views refl (numbers_unnumbered v.hands) (omega arith)
            record { may = omega arith; stands = tt; hold = holds_unnumbered maker name f id (length s.views) v.hands known.hold }
            (λ j u _ o. o);
        slot = kept_longer entries fits name f.log s.homes s.views h r.slot;
      } in
      subst (λ (vs : List V). IsSound entries maker fits level name record { words = s.words; homes = s.homes; views = vs ++ h ∷ [] }) (sym (set_again s.views id v at)) out

  -- kind 2: one seat takes the hands of another, which has no turn, and stands then so
  joined : (id : ℕ) (v : V) (other : ℕ) (w : V) (st : Stage E) (drawer : Tally E → ℕ) → turns_of w.stage ≡ 0 → turns_of st ≡ turns_of v.stage → (IsServing w.stage → ⊥) → (IsServing v.stage → IsServing st)
      → ((f : Tally E) (holder : ℕ → ℕ) → Stands f id v.stage → Stands f other w.stage → Stands (record f { drawer = drawer f; holder = holder }) id st)
      → ((f : Tally E) (holder : ℕ → ℕ) (j : ℕ) (u : Stage E) → j ≢ id → j ≢ other → Stands f id v.stage → Stands f other w.stage → Stands f j u → Stands (record f { drawer = drawer f; holder = holder }) j u)
      → Joins (IsSound entries maker fits level name) id v other w (view st (v.hands ++ w.hands)) nobody
  joined id v other w st drawer idle same_turn no_value on mine_stands rest_stand s r at apart there =
      let f : Tally E = r.tally in
      let b : V = view st (v.hands ++ w.hands) in
      let n : V = nobody in
      let vs : List V = set s.views id b in
      let at_other : get_elem? s.views other ≡ some w = sym (set_else s.views id other b apart) ∙ there in
      let mine = r.views.each id v at in
      let yours = r.views.each other w at_other in
      let holder' : ℕ → ℕ = moved f.holder other id in
      let f' : Tally E = record f { drawer = drawer f; holder = holder' } in
      let numbers_1 : total numbers vs + numbers_in v.hands ≡ total numbers s.views + numbers_in (v.hands ++ w.hands) = total_set numbers s.views id v b at in
      let numbers_2 : total numbers (set vs other n) + numbers_in w.hands ≡ total numbers vs + 0 = total_set numbers vs other w n there in
      let both = numbers_append v.hands w.hands in
      let turns_1 : total turns vs + turns v ≡ total turns s.views + turns_of st = total_set turns s.views id v b at in
      let turns_2 : total turns (set vs other n) + turns w ≡ total turns vs + 0 = total_set turns vs other w n there in
      let all = r.views.drawn_by in
      let some_wait = r.views.waiting_by in
      let may = mine.may in
      let whole : Knows maker name f' id b = record {
        may = omega arith;
        stands = mine_stands f holder' mine.stands yours.stands;
        hold = holds_append maker name f' id v.hands w.hands
            (holds_by maker name f f' id id (λ _ p. p) (λ m _ p a c d. (a, moved_else f.holder other id m (λ z. apart (sym z ∙ c)) ∙ c, d)) v.hands mine.hold)
            (holds_by maker name f f' other id (λ _ p. p) (λ m _ p a c d. (a, moved_here f.holder other id m c, d)) w.hands yours.hold);
      } in
      let spent : Knows maker name f' other n = record { may = omega arith; stands = tt; hold = tt } in
      record {
        tally = f';
        words = record { wide = r.words.wide; drawn_is = r.words.drawn_is; next_is = r.words.next_is; served_is = r.words.served_is; count_is = r.words.count_is };
        few = r.few;
        told = r.told;
        later = r.later;
        views = record {
          drawn_by = omega arith;
          waiting_by = omega arith;
          each = λ j u e. ⊎_elim
              (λ (t : (j ≡ other) × (n ≡ u)). subst (λ (x : ℕ × V). Knows maker name f' x.0 x.1) (λ i. (sym t.0 i, t.1 i)) spent)
              (λ (t : (j ≢ other) × (get_elem? vs j ≡ some u)). ⊎_elim
              (λ (t2 : (j ≡ id) × (b ≡ u)). subst (λ (x : ℕ × V). Knows maker name f' x.0 x.1) (λ i. (sym t2.0 i, t2.1 i)) whole)
              (λ (t2 : (j ≢ id) × (get_elem? s.views j ≡ some u)).
              let o = r.views.each j u t2.1 in record {
                may = o.may;
                stands = rest_stand f holder' j u.stage t2.0 t.0 mine.stands yours.stands o.stands;
                hold = holds_by maker name f f' j j (λ _ p. p) (λ m _ p a c d. (a, moved_else f.holder other id m (λ z. t.0 (sym c ∙ z)) ∙ c, d)) u.hands o.hold;
              })
              (at_set s.views id j b u t.1))
              (at_set vs other j n u e);
        };
        slot = kept_by entries fits name f.log s.homes vs other w n there no_value (kept_by entries fits name f.log s.homes s.views id v b at on r.slot);
      }

  -- kind 2: one seat takes the hands of another
  pub gathers : (id : ℕ) (v : V) (other : ℕ) (w : V) → w.stage ≡ Idle → Joins (IsSound entries maker fits level name) id v other w (gathered v w) nobody
  gathers id v other w is = joined id v other w v.stage (λ f. f.drawer) (ap turns_of is) refl (λ z. subst IsServing is z) (λ z. z)
      (λ f h mine _. stands_by f (record f { holder = h }) id (λ _ a c. (a, c)) (λ _ a c d. (a, c, d)) (λ _ a c d. (a, c, d, refl)) v.stage mine)
      (λ f h j u _ _ _ _ stands. stands_by f (record f { holder = h }) j (λ _ a c. (a, c)) (λ _ a c d. (a, c, d)) (λ _ a c d. (a, c, d, refl)) u stands)

  -- kind 2: the last turn takes the right to draw numbers
  pub completes : (id : ℕ) (v : V) (other : ℕ) (w : V) (t k : ℕ) → v.stage ≡ Closes t → w.stage ≡ Makes k → Joins (IsSound entries maker fits level name) id v other w (completed v w) nobody
  completes id v other w t k closes makes =
      joined id v other w (Ends (turn_in v.stage) (made_in w.stage)) (λ _. id) (ap turns_of makes) (sym (ap turns_of closes)) (λ z. subst IsServing makes z) (λ z. subst IsServing closes z)
      (λ f h mine yours.
      let a : (t ≡ f.passed) × (0 < f.waiting) × (f.server t ≡ id) = subst (Stands f id) closes mine in
      let b : (k ≡ f.drawn) × (other ≡ f.drawer) = subst (Stands f other) makes yours in
      let turn : turn_in v.stage ≡ t = ap turn_in closes in
      let made : made_in w.stage ≡ k = ap made_in makes in
      (turn ∙ a.0, a.1, ap f.server turn ∙ a.2, made ∙ b.0, refl))
      (λ f h j u _ not_other _ yours stands.
      let b : (k ≡ f.drawn) × (other ≡ f.drawer) = subst (Stands f other) makes yours in
      stands_by f (record f { drawer = id; holder = h }) j (λ _ _ z. absurd (not_other (z ∙ sym b.1))) (λ _ a c d. (a, c, d)) (λ _ a c d. (a, c, d, refl)) u stands)

  -- kind 2: of two hands the first takes the longer front, and the second is let go
  pub compares : (slots id : ℕ) (me : Me (Option T) V) (called other : K) (n : ℕ) (front note : List E) → me.0 ≡ view Idle (hand called (Some n) front ∷ hand other None note ∷ [])
      → Allows (IsSound entries maker fits level name) slots id me 0 (λ c. c) (compared maker (step slots 0 0 0 none) me)
  compares slots id me called other n front note is s r deep at _ =
      let f : Tally E = r.tally in
      let v : V = view Idle (hand called (Some n) front ∷ hand other None note ∷ []) in
      let at' : get_elem? s.views id ≡ some v = subst (λ (z : V). get_elem? s.views id ≡ some z) is at in
      let hold = (r.views.each id v at').hold in
      let mine = hold.2 in
      let yours = hold.3 in
      let w : V = view Idle (hand called (Some n) (longer front note) ∷ []) in
      let c : ℕ = get_or s.words 0 0 in
      let begins = longer_begins front note f.log hold.1 yours.1 in (
        w,
        keeps,
        tt,
        record {
          tally = f;
          words = words_again f s.words 0 r.words;
          few = r.few;
          told = told_again (level f.log) s.words 0 r.told;
          later = r.later;
          views = views_set maker name f f s.views id v w at' r.views refl refl
              record {
                may = omega arith;
                stands = tt;
                hold = (hold.0, longer_prefix front note f.log hold.1 yours.1, (mine.0, mine.1, longer_own maker n front note f.log hold.1 yours.1 mine.2), tt);
              }
              (λ j u _ o. o);
          slot = kept_by entries fits name f.log s.homes s.views id v w at' (λ z. z) r.slot;
        },
        (
          (λ i. (view (sym is i).stage (compare (sym is i).hands), me.1)),
          subst (λ (z : V). BothBegin maker z.hands) (sym is) (begins.0, begins.1, longer_owned maker n front note f.log hold.1 yours.1 mine.2),
        ),
      )
