-- Counting the entries of a turn, one after another.
use Rattle.std.proofs.Common.{◌≡◌, ℕ, ◌+◌, ◌<◌, ◌≤◌, [], ◌∷◌, ◌++◌, List, length, refl, sym, ap, ◌∙◌, Option, Some, arith, subst, append_assoc, length-append}
use Rattle.std.proofs.lemmas.List.{append-nil, append_cancel_left}
use Rattle.atomic_table.specs.Table.{Me}
use Rattle.turn_lock.specs.declared.view.Stage.TheVariants.{Serves}
use Rattle.turn_lock.specs.declared.view.View.{View}
use Rattle.turn_lock.specs.Views.{view, hand}
use Rattle.turn_lock.specs.Steps.{recorded, held}
use Rattle.turn_lock.specs.Rule.{own}
use Rattle.turn_lock.specs.Fronts.{AllMade, IsFrontOf, Extends}
use Rattle.turn_lock.proofs.Prefixes.{prefix_self, prefix_trans, own_append}
use Rattle.turn_lock.proofs.Posing.{counted_one}

-- what a front is after these entries
abbrev pub front_after : {E : Type 0} → List E → List E → List E → List E
front_after front log [] = front
front_after front log (e ∷ es) = log ++ e ∷ es

-- the seat while the first k entries are counted
pub record IsCounting {T E K : Type 0} (entries : T → List E) (maker : E → ℕ) (name : K) (n t : ℕ) (log front : List E) (x : T) (all k : ℕ) (me : Me (Option T) (View E K)) : Type 0 where
  pub past : List E
  pub left : List E
  pub grown : entries x ≡ (log ++ past) ++ left
  pub counted : length past ≡ k
  pub whole : length past + length left ≡ all
  pub made : AllMade maker n left
  pub posed : me ≡ (view (Serves t (log ++ past)) (hand name (Some n) (front_after front log past) ∷ []), (0, Some x) ∷ [])

front_more : {E : Type 0} (front log past : List E) (e : E) → front_after front log (past ++ e ∷ []) ≡ log ++ (past ++ e ∷ [])
front_more front log [] e = refl
front_more front log (y ∷ past) e = refl

module _ {T E K : Type 0} (entries : T → List E) (maker : E → ℕ) (name : K) (n t : ℕ) (log front : List E) (x : T) (all : ℕ) where
  -- what the next step needs
  pub record Next (me : Me (Option T) (View E K)) : Type 0 where
    pub log' : List E
    pub front' : List E
    pub entry : E
    pub es : List E
    pub is : me ≡ (view (Serves t log') (hand name (Some n) front' ∷ []), (0, Some x) ∷ [])
    pub grown : entries x ≡ log' ++ entry ∷ es
    pub made : maker entry ≡ n

  pub next_of : (k : ℕ) (me : Me (Option T) (View E K)) → k < all → IsCounting entries maker name n t log front x all k me → Next me
  next_of k me lt c = go c.left c.grown c.made (let a = c.counted in let b = c.whole in omega arith)
    where
      go : (left : List E) → entries x ≡ (log ++ c.past) ++ left → AllMade maker n left → 0 < length left → Next me
      go [] e m h = absurd (omega arith)
      go (y ∷ ys) e m h = record { log' = log ++ c.past; front' = front_after front log c.past; entry = y; es = ys; is = c.posed; grown = e; made = m.0 }

  pub counts_on : (k : ℕ) (me me' : Me (Option T) (View E K)) → k < all → IsCounting entries maker name n t log front x all k me → me' ≡ (recorded (held entries me.1) me.0, me.1)
      → IsCounting entries maker name n t log front x all (k + 1) me'
  counts_on k me me' lt c f = go c.left c.grown c.made c.whole
    where
      go : (left : List E) → entries x ≡ (log ++ c.past) ++ left → AllMade maker n left → length c.past + length left ≡ all → IsCounting entries maker name n t log front x all (k + 1) me'
      go [] e m h = let a = c.counted in absurd (omega arith)
      go (y ∷ ys) e m h =
          let long : length (c.past ++ y ∷ []) ≡ length c.past + 1 = length-append c.past (y ∷ []) in
          let a = c.counted in
          let apart : (log ++ c.past) ++ y ∷ [] ≡ log ++ (c.past ++ y ∷ []) = append_assoc log c.past (y ∷ []) in
          let more : (log ++ c.past) ++ y ∷ ys ≡ (log ++ (c.past ++ y ∷ [])) ++ ys = sym (append_assoc (log ++ c.past) (y ∷ []) ys) ∙ ap (λ (l : List E). l ++ ys) apart in
          let now = counted_one entries me me' t (Some n) (log ++ c.past) (front_after front log c.past) name x y ys c.posed e f in
          record {
            past = c.past ++ y ∷ [];
            left = ys;
            grown = e ∙ more;
            counted = omega arith;
            whole = omega arith;
            made = m.1;
            posed = now ∙ (λ i. (view (Serves t (apart i)) (hand name (Some n) ((apart ∙ sym (front_more front log c.past y)) i) ∷ []), (0, Some x) ∷ []));
          }

  pub all_counted : (k : ℕ) (me : Me (Option T) (View E K)) → all ≤ k → (c : IsCounting entries maker name n t log front x all k me) → entries x ≡ log ++ c.past
  all_counted k me le c = go c.left c.grown c.whole
    where
      go : (left : List E) → entries x ≡ (log ++ c.past) ++ left → length c.past + length left ≡ all → entries x ≡ log ++ c.past
      go [] e h = e ∙ append-nil (log ++ c.past)
      go (y ∷ ys) e h = let a = c.counted in absurd (omega arith)

  pub counted_none : (me : Me (Option T) (View E K)) → me ≡ (view (Serves t log) (hand name (Some n) front ∷ []), (0, Some x) ∷ []) → (more : List E) → entries x ≡ log ++ more → length more ≡ all → AllMade maker n more
      → IsCounting entries maker name n t log front x all 0 me
  counted_none me e more grown long made = record {
    past = [];
    left = more;
    grown = grown ∙ ap (λ (l : List E). l ++ more) (sym (append-nil log));
    counted = refl;
    whole = omega arith;
    made = made;
    posed = e ∙ (λ i. (view (Serves t (sym (append-nil log) i)) (hand name (Some n) front ∷ []), (0, Some x) ∷ []));
  }

pub after_some : {E : Type 0} (front log past : List E) → 0 < length past → front_after front log past ≡ log ++ past
after_some front log [] h = absurd (omega arith)
after_some front log (y ∷ past) h = refl

pub after_none : {E : Type 0} (front log past : List E) → length past ≡ 0 → front_after front log past ≡ front
after_none front log [] h = refl
after_none front log (y ∷ past) h = absurd (omega arith)

-- what leaving after these entries makes of the pass's front
pub goes_on : {E : Type 0} (maker : E → ℕ) (n : ℕ) (log front past made more : List E) → IsFrontOf maker n front log → AllMade maker n made
    → log ++ past ≡ log ++ made → log ++ past ≡ log ++ more → Extends maker n front (front_after front log past) more
goes_on {E} maker n log front past made more before all e f = go past (append_cancel_left log past more f) all'
  where
    all' : AllMade maker n more
    all' = subst (AllMade maker n) (append_cancel_left log made more (sym e ∙ f)) all

    go : (past : List E) → past ≡ more → AllMade maker n more → Extends maker n front (front_after front log past) more
    go [] e a =
        let out : Extends maker n front front [] = record { begins = prefix_self front; grown = sym (append-nil (own maker n front)) } in
        subst (Extends maker n front front) e out
    go (y ∷ past) e a =
        let out : Extends maker n front (log ++ more) more = record {
          begins = prefix_trans front log (log ++ more) before.begins (more, refl);
          grown = own_append maker n log more a ∙ ap (λ (l : List E). l ++ more) (sym before.owned);
        } in
        subst (λ (l : List E). Extends maker n front (log ++ l) more) (sym e) out
