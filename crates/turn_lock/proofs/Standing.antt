-- The parts of the rule that each step keeps in the same way.
use Rattle.std.proofs.Common.{◌≡◌, ◌≢◌, ℕ, zero, suc, ◌+◌, ◌<◌, ◌≤◌, List, [], ◌∷◌, ◌++◌, length, get_or, get_or-set_other, set, sym, refl, ap, ◌∙◌, subst, ⊎_elim, inl, inr, arith, Option, Some, None}
use mathlib.Core.Logic.{dite}
use mathlib.Core.Option.{some, some-ne-none, some-injective}
use mathlib.Core.Option as maybe
use mathlib.Core.List.{IsPrefix}
use native.Mathlib.Decide.{ℕ_discrete}
use lib.ListN.{get_elem?}
use lib.Seq.{set-get_or}
use Rattle.atomic_table.specs.Table.{opening}
use Rattle.atomic_table.proofs.Lists.{at_set, set_here, set_else, at_longer}
use Rattle.turn_lock.specs.declared.view.Stage.{Stage}
use Rattle.turn_lock.specs.declared.view.Stage.TheVariants.{Idle, Makes, Waits, Serves, Closes, Ends}
use Rattle.turn_lock.specs.declared.view.Hand.{Hand}
use Rattle.turn_lock.specs.declared.view.View.{View}
use Rattle.turn_lock.specs.Views.{IsServing, turns, numbers, unnumbered, numbers_in, first_view}
use Rattle.turn_lock.specs.Rule.{own, Tally, Stands, Owns, AllHold, Knows, WordsAre, ViewsAre, IsKept, IsSound}
use Rattle.turn_lock.specs.Steps.{IsOwned}
use Rattle.turn_lock.specs.Endings.{same_at}
use Rattle.turn_lock.proofs.Sums.{total_set, total_snoc, total_le, at_snoc_where, at_inside}

-- what a seat knows of where it stands, by another tally
pub stands_by : {E : Type 0} (f f' : Tally E) (j : ℕ) → ((k : ℕ) → k ≡ f.drawn → j ≡ f.drawer → (k ≡ f'.drawn) × (j ≡ f'.drawer))
    → ((t : ℕ) → f.passed ≤ t → t < f.passed + f.waiting → f.server t ≡ j → (f'.passed ≤ t) × (t < f'.passed + f'.waiting) × (f'.server t ≡ j))
    → ((t : ℕ) → t ≡ f.passed → 0 < f.waiting → f.server t ≡ j → (t ≡ f'.passed) × (0 < f'.waiting) × (f'.server t ≡ j) × (f.log ≡ f'.log))
    → (st : Stage E) → Stands f j st → Stands f' j st
stands_by f f' j a b c Idle h = tt
stands_by f f' j a b c (Makes k) h = a k h.0 h.1
stands_by f f' j a b c (Waits t) h = b t h.0 h.1 h.2
stands_by f f' j a b c (Serves t log) h = let d = c t h.0 h.1 h.2 in (d.0, d.1, d.2, h.3 ∙ d.3)
stands_by f f' j a b c (Closes t) h = let d = c t h.0 h.1 h.2 in (d.0, d.1, d.2)
stands_by f f' j a b c (Ends t k) h = let d = c t h.0 h.1 h.2 in let e = a k h.3 h.4 in (d.0, d.1, d.2, e.0, e.1)

module _ {E K : Type 0} (maker : E → ℕ) (name : K) where
  owns_by : (f f' : Tally E) (j j' : ℕ) (front : List E) → IsPrefix front f.log
      → ((n : ℕ) (front : List E) → IsPrefix front f.log → n < f.drawn → f.holder n ≡ j → own maker n front ≡ own maker n f.log → (n < f'.drawn) × (f'.holder n ≡ j') × (own maker n front ≡ own maker n f'.log))
      → (number : Option ℕ) → Owns maker f.log f.drawn f.holder j front number → Owns maker f'.log f'.drawn f'.holder j' front number
  owns_by f f' j j' front pre q None o = tt
  owns_by f f' j j' front pre q (Some n) o = q n front pre o.0 o.1 o.2

  -- what a seat knows of its hands, by another tally
  pub holds_by : (f f' : Tally E) (j j' : ℕ) → ((front : List E) → IsPrefix front f.log → IsPrefix front f'.log)
      → ((n : ℕ) (front : List E) → IsPrefix front f.log → n < f.drawn → f.holder n ≡ j → own maker n front ≡ own maker n f.log → (n < f'.drawn) × (f'.holder n ≡ j') × (own maker n front ≡ own maker n f'.log))
      → (hs : List (Hand E K)) → AllHold maker f.log f.drawn f.holder j name hs → AllHold maker f'.log f'.drawn f'.holder j' name hs
  holds_by f f' j j' p q [] h = tt
  holds_by f f' j j' p q (x ∷ hs) h = (h.0, p x.front h.1, owns_by f f' j j' x.front h.1 q x.number h.2, holds_by f f' j j' p q hs h.3)

  pub holds_append : (f : Tally E) (j : ℕ) (hs ks : List (Hand E K)) → AllHold maker f.log f.drawn f.holder j name hs → AllHold maker f.log f.drawn f.holder j name ks → AllHold maker f.log f.drawn f.holder j name (hs ++ ks)
  holds_append f j [] ks h k = k
  holds_append f j (x ∷ hs) ks h k = (h.0, h.1, h.2, holds_append f j hs ks h.3 k)

  pub holds_unnumbered : (f : Tally E) (j j' : ℕ) (hs : List (Hand E K)) → AllHold maker f.log f.drawn f.holder j name hs → AllHold maker f.log f.drawn f.holder j' name (unnumbered hs)
  holds_unnumbered f j j' [] h = tt
  holds_unnumbered f j j' (x ∷ hs) h = (h.0, h.1, tt, tt)

  -- one seat's view changes
  pub views_set : (f f' : Tally E) (vs : List (View E K)) (me : ℕ) (v w : View E K) → get_elem? vs me ≡ some v → ViewsAre maker name f vs
      → f'.drawn + numbers v ≡ f.drawn + numbers w → f'.waiting + turns v ≡ f.waiting + turns w → Knows maker name f' me w
      → ((j : ℕ) (u : View E K) → j ≢ me → Knows maker name f j u → Knows maker name f' j u) → ViewsAre maker name f' (set vs me w)
  views_set f f' vs me v w at r by_numbers by_turns mine other =
      let n = total_set numbers vs me v w at in
      let t = total_set turns vs me v w at in
      let a = r.drawn_by in
      let b = r.waiting_by in record {
        drawn_by = omega arith;
        waiting_by = omega arith;
        each = λ j u e. ⊎_elim
            (λ (t : (j ≡ me) × (w ≡ u)). subst (λ (x : ℕ × View E K). Knows maker name f' x.0 x.1) (λ i. (sym t.0 i, t.1 i)) mine)
            (λ (t : (j ≢ me) × (get_elem? vs j ≡ some u)). other j u t.0 (r.each j u t.1))
            (at_set vs me j w u e);
      }

  -- one seat comes, with no number
  pub views_more : (f f' : Tally E) (vs : List (View E K)) (w : View E K) → ViewsAre maker name f vs → f'.drawn ≡ f.drawn → numbers w ≡ 0 → f'.waiting ≡ f.waiting + turns w
      → Knows maker name f' (length vs) w → ((j : ℕ) (u : View E K) → j < length vs → Knows maker name f j u → Knows maker name f' j u) → ViewsAre maker name f' (vs ++ w ∷ [])
  views_more f f' vs w r same_drawn no_number by_turns mine other =
      let n = total_snoc numbers vs w in
      let t = total_snoc turns vs w in
      let a = r.drawn_by in
      let b = r.waiting_by in record {
        drawn_by = omega arith;
        waiting_by = omega arith;
        each = λ j u e. ⊎_elim
            (λ (t : (j < length vs) × (get_elem? vs j ≡ some u)). other j u t.0 (r.each j u t.1))
            (λ (t : (j ≡ length vs) × (w ≡ u)). subst (λ (x : ℕ × View E K). Knows maker name f' x.0 x.1) (λ i. (sym t.0 i, t.1 i)) mine)
            (at_snoc_where vs w u j e);
      }

  -- no more seats have a turn than numbers were drawn
  pub waiting_few : (f : Tally E) (vs : List (View E K)) → ViewsAre maker name f vs → f.waiting ≤ f.drawn
  waiting_few f vs r =
      let a = r.drawn_by in
      let b = r.waiting_by in
      let c = total_le turns numbers vs (λ j v e. (r.each j v e).may) in omega arith

-- a word is read
pub words_again : {E : Type 0} (f : Tally E) (ws : List ℕ) (i : ℕ) → WordsAre f ws → WordsAre f (set ws i (get_or ws i 0))
words_again f ws i r = subst (WordsAre f) (sym (set-get_or ws i 0)) r

pub told_again : (k : ℕ) (ws : List ℕ) (i : ℕ) → get_or ws 4 0 ≤ k → get_or (set ws i (get_or ws i 0)) 4 0 ≤ k
told_again k ws i h = subst (λ (l : List ℕ). get_or l 4 0 ≤ k) (sym (set-get_or ws i 0)) h

-- another word changes
pub told_still : (k : ℕ) (ws : List ℕ) (i y : ℕ) → 4 ≢ i → get_or ws 4 0 ≤ k → get_or (set ws i y) 4 0 ≤ k
told_still k ws i y other h = subst (λ (z : ℕ). z ≤ k) (sym (get_or-set_other ws i 4 y 0 other)) h

pub numbers_append : {E K : Type 0} (hs ks : List (Hand E K)) → numbers_in (hs ++ ks) ≡ numbers_in hs + numbers_in ks
numbers_append [] ks = omega arith
numbers_append (x ∷ hs) ks = omega (arith, numbers_append hs ks)

pub numbers_unnumbered : {E K : Type 0} (hs : List (Hand E K)) → numbers_in (unnumbered hs) ≡ 0
numbers_unnumbered [] = refl
numbers_unnumbered (x ∷ hs) = refl

-- all that the pass made is in its front, where the rule says so of the history
pub owned_of : {E : Type 0} (maker : E → ℕ) (f : Tally E) (seat : ℕ) (log : List E) → log ≡ f.log → (front : List E) (number : Option ℕ) → Owns maker f.log f.drawn f.holder seat front number → IsOwned maker log front number
owned_of maker f seat log e front None o = tt
owned_of maker f seat log e front (Some n) o = o.2 ∙ ap (own maker n) (sym e)

module _ {T E K : Type 0} (entries : T → List E) (fits : K → T → Type 0) (name : K) where
  -- the slot, where one seat's view changes
  pub kept_by : (log : List E) (homes : List (maybe.Option (Option T))) (vs : List (View E K)) (me : ℕ) (v w : View E K) → get_elem? vs me ≡ some v → (IsServing v.stage → IsServing w.stage)
      → IsKept entries fits name log homes vs → IsKept entries fits name log homes (set vs me w)
  kept_by log homes vs me v w at on kept = ⊎_elim (λ t. inl t)
      (λ (t : (j : ℕ) × (u : View E K) × (get_elem? vs j ≡ some u) × IsServing u.stage). dite (ℕ_discrete t.0 me)
      (λ e. let same : t.1 ≡ v = same_at vs me t.1 v (subst (λ (i : ℕ). get_elem? vs i ≡ some t.1) e t.2) at in
      inr (me, w, set_here vs me w (at_inside vs me v at), on (subst (λ (u : View E K). IsServing u.stage) same t.3)))
      (λ ne. inr (t.0, t.1, set_else vs me t.0 w ne ∙ t.2, t.3))) kept

  -- the slot, where one seat comes
  pub kept_longer : (log : List E) (homes : List (maybe.Option (Option T))) (vs : List (View E K)) (w : View E K) → IsKept entries fits name log homes vs → IsKept entries fits name log homes (vs ++ w ∷ [])
  kept_longer log homes vs w kept = ⊎_elim (λ t. inl t)
      (λ (t : (j : ℕ) × (u : View E K) × (get_elem? vs j ≡ some u) × IsServing u.stage). inr (t.0, t.1, at_longer vs (w ∷ []) t.0 t.1 t.2, t.3)) kept

module _ {T E K : Type 0} (entries : T → List E) (maker : E → ℕ) (fits : K → T → Type 0) (level : List E → ℕ) (name : K) where
  -- at the start
  pub opens : (x : T) → entries x ≡ [] → fits name x → IsSound entries maker fits level name (opening (0 ∷ 0 ∷ 0 ∷ 0 ∷ 0 ∷ []) (Some x ∷ []) (first_view name))
  opens x none_yet fit = let f : Tally E = record { log = []; drawn = 0; passed = 0; waiting = 0; drawer = 0; server = λ _. 0; holder = λ _. 0 } in record {
    tally = f;
    words = record { wide = refl; drawn_is = refl; next_is = refl; served_is = refl; count_is = refl };
    few = omega arith;
    told = omega arith;
    later = λ n _. refl;
    views = record { drawn_by = refl; waiting_by = refl; each = first f refl refl };
    slot = inl (x, refl, none_yet, fit);
  }
    where
      first : (f : Tally E) → f.drawn ≡ 0 → f.drawer ≡ 0 → (j : ℕ) (v : View E K) → get_elem? (first_view name ∷ []) j ≡ some v → Knows maker name f j v
      first f a b zero v e = let mine : Knows maker name f 0 (first_view name) = record { may = omega arith; stands = (sym a, sym b); hold = (refl, (f.log, refl), tt, tt) } in
          subst (Knows maker name f 0) (some-injective (first_view name) v e) mine
      first f a b (suc j) v e = absurd (some-ne-none v (sym e))
