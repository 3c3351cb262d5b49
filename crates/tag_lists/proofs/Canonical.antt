-- A list stays in canonical order with one more parameter.
use Rattle.std.proofs.Common.{◌≡◌, ℕ, ◌+◌, ◌^◌, ◌<◌, ◌≤◌, Bool, true, false, not, ◌&&◌, ◌||◌, cond, ltb, eqb, List, [], ◌∷◌, ◌++◌, length, refl, sym, ap, ◌∙◌, subst, arith, append_assoc}
use Rattle.std.specs.List.{AllByRecursion}
use Rattle.std.proofs.lemmas.Bool.{eqb-true, eqb-false, ne_eqb, ltb-true, ltb-false, le-ltb}
use Rattle.std.proofs.lemmas.List.{append-nil}
use Rattle.tags.specs.declared.tag.Tag.{Tag}
use Rattle.tags.specs.declared.param.Param.{Param}
use Rattle.tags.specs.declared.param.ParamValue.{ParamValue}
use Rattle.tags.specs.declared.param.ParamValue.TheVariants.{Number, Flag, Raw}
use Rattle.tags.specs.Tag.{type_of, low_of, repeats}
use Rattle.tag_lists.specs.declared.shape.Shape.{Shape}
use Rattle.tag_lists.specs.declared.shape.Shape.TheVariants.{Short, Long, Truth, Sized}
use Rattle.tag_lists.specs.Order.{shape_of, FitsShape, Fits, number_in, rank, MayStandBeside, StandsBefore, IsInOrder, MayBeListed, with_param, with_params}
use Rattle.tag_lists.specs.Reading.{was_read}
use Rattle.tag_lists.proofs.Tags.{tag_from_low}

pub all_with : {X : Type 0} (P Q : X → Type 0) → ((x : X) → P x → Q x) → (xs : List X) → AllByRecursion P xs → AllByRecursion Q xs
all_with P Q f [] h = tt
all_with P Q f (x ∷ xs) h = (f x h.0, all_with P Q f xs h.1)

pub all_two : {X : Type 0} (P Q R : X → Type 0) → ((x : X) → P x → Q x → R x) → (xs : List X) → AllByRecursion P xs → AllByRecursion Q xs → AllByRecursion R xs
all_two P Q R f [] h k = tt
all_two P Q R f (x ∷ xs) h k = (f x h.0 k.0, all_two P Q R f xs h.1 k.1)

pub all_ever : {X : Type 0} (P : X → Type 0) → ((x : X) → P x) → (xs : List X) → AllByRecursion P xs
all_ever P f [] = tt
all_ever P f (x ∷ xs) = (f x, all_ever P f xs)

pub beside_sym : (p q : Param) → MayStandBeside p q → MayStandBeside q p
beside_sym p q h e = subst (λ (t : Tag). repeats (type_of t) ≡ true) (sym e) (h (sym e))

-- ---- what holds of each parameter

all_placed : (P : Param → Type 0) (less same : Bool) (p q : Param) (qs rest : List Param) → P p → P q → AllByRecursion P qs → AllByRecursion P rest → AllByRecursion P (cond less (p ∷ q ∷ qs) (cond same (p ∷ qs) (q ∷ rest)))
all_placed P true same p q qs rest hp hq hqs hrest = (hp, (hq, hqs))
all_placed P false true p q qs rest hp hq hqs hrest = (hp, hqs)
all_placed P false false p q qs rest hp hq hqs hrest = (hq, hrest)

pub all-with_param : (P : Param → Type 0) (p : Param) (ps : List Param) → P p → AllByRecursion P ps → AllByRecursion P (with_param p ps)
all-with_param P p [] hp h = (hp, tt)
all-with_param P p (q ∷ qs) hp h = all_placed P (ltb (rank p) (rank q)) (eqb (rank p) (rank q)) p q qs (with_param p qs) hp h.0 h.1 (all-with_param P p qs hp h.1)

length_placed : (less same : Bool) (p q : Param) (qs rest : List Param) → length rest ≤ length qs + 1 → length (cond less (p ∷ q ∷ qs) (cond same (p ∷ qs) (q ∷ rest))) ≤ length (q ∷ qs) + 1
length_placed true same p q qs rest h = omega arith
length_placed false true p q qs rest h = omega arith
length_placed false false p q qs rest h = omega (arith, h)

pub length-with_param : (p : Param) (ps : List Param) → length (with_param p ps) ≤ length ps + 1
length-with_param p [] = omega arith
length-with_param p (q ∷ qs) = length_placed (ltb (rank p) (rank q)) (eqb (rank p) (rank q)) p q qs (with_param p qs) (length-with_param p qs)

-- ---- the order

ordered_placed : (less same : Bool) (p q : Param) (qs rest : List Param) → (less ≡ true → rank p < rank q) → (less ≡ false → rank q ≤ rank p) → (same ≡ true → rank p ≡ rank q) → (same ≡ false → rank p ≡ rank q → ⊥)
    → MayStandBeside p q → AllByRecursion (MayStandBeside p) qs → AllByRecursion (StandsBefore q) qs → IsInOrder qs
    → (rank q < rank p → AllByRecursion (StandsBefore q) rest) → IsInOrder rest → IsInOrder (cond less (p ∷ q ∷ qs) (cond same (p ∷ qs) (q ∷ rest)))
ordered_placed true same p q qs rest below above ties apart beside besides before ordered after ordered_rest =
    ((record { rises = below refl; beside = beside }, all_two (StandsBefore q) (MayStandBeside p) (StandsBefore p) (λ r b m. record { rises = omega (arith, below refl, b.rises); beside = m }) qs before besides), (before, ordered))
ordered_placed false true p q qs rest below above ties apart beside besides before ordered after ordered_rest =
    (all_two (StandsBefore q) (MayStandBeside p) (StandsBefore p) (λ r b m. record { rises = omega (arith, ties refl, b.rises); beside = m }) qs before besides, ordered)
ordered_placed false false p q qs rest below above ties apart beside besides before ordered after ordered_rest =
    (after (omega (arith, above refl, apart refl)), ordered_rest)

pub ordered-with_param : (p : Param) (ps : List Param) → IsInOrder ps → AllByRecursion (MayStandBeside p) ps → IsInOrder (with_param p ps)
ordered-with_param p [] ordered besides = (tt, tt)
ordered-with_param p (q ∷ qs) ordered besides =
    ordered_placed (ltb (rank p) (rank q)) (eqb (rank p) (rank q)) p q qs (with_param p qs) (ltb-true (rank p) (rank q)) (ltb-false (rank p) (rank q)) (eqb-true (rank p) (rank q)) (eqb-false (rank p) (rank q))
    besides.0 besides.1 ordered.0 ordered.1
    (λ lt. all-with_param (StandsBefore q) p qs (record { rises = lt; beside = beside_sym p q besides.0 }) ordered.0)
    (ordered-with_param p qs ordered.1 besides.1)

-- ---- which parameters may follow

both_false : (a b : Bool) → (a || b) ≡ false → (a ≡ false) × (b ≡ false)
both_false true b e = absurd cc
both_false false b e = (refl, e)

follows_by : (r : Bool) (p : Param) (before : List Param) → repeats (type_of p.tag) ≡ r → (not r && was_read p.tag before) ≡ false → AllByRecursion (MayStandBeside p) before
follows_by true p before is h = all_ever (MayStandBeside p) (λ q e. is) before
follows_by false p [] is h = tt
follows_by false p (q ∷ qs) is h =
    let both = both_false (eqb (low_of q.tag) (low_of p.tag)) (was_read p.tag qs) h in
    ((λ e. absurd (eqb-false (low_of q.tag) (low_of p.tag) both.0 (ap low_of (sym e)))), follows_by false p qs is both.1)

-- the test passes where the parameter may stand beside each one before it
pub follows : (p : Param) (before : List Param) → (not (repeats (type_of p.tag)) && was_read p.tag before) ≡ false → AllByRecursion (MayStandBeside p) before
follows p before h = follows_by (repeats (type_of p.tag)) p before refl h

passes_by : (r : Bool) (p : Param) (before : List Param) → repeats (type_of p.tag) ≡ r → AllByRecursion (MayStandBeside p) before → (not r && was_read p.tag before) ≡ false
passes_by true p before is h = refl
passes_by false p [] is h = refl
passes_by false p (q ∷ qs) is h =
    let other : eqb (low_of q.tag) (low_of p.tag) ≡ false = ne_eqb (low_of q.tag) (low_of p.tag) (λ e. let yes : repeats (type_of p.tag) ≡ true = h.0 (sym (tag_from_low q.tag p.tag e)) in absurd cc) in
    rw other (passes_by false p qs is h.1)

pub passes : (p : Param) (before : List Param) → AllByRecursion (MayStandBeside p) before → (not (repeats (type_of p.tag)) && was_read p.tag before) ≡ false
passes p before h = passes_by (repeats (type_of p.tag)) p before refl h

-- ---- what stood before

pub value_small : (s : Shape) (v : ParamValue) → FitsShape s v → number_in v < 2 ^ 64
value_small Short (Number n) h = omega (arith, h)
value_small Long (Number n) h = h
value_small Truth (Number n) h = absurd h
value_small Sized (Number n) h = absurd h
value_small s Flag h = omega arith
value_small s (Raw bytes) h = omega arith

-- parameters of one rank are of one tag
pub tag_from_rank : (p q : Param) → Fits p → Fits q → rank p ≡ rank q → p.tag ≡ q.tag
tag_from_rank p q fp fq e =
    tag_from_low p.tag q.tag (omega (arith, e, value_small (shape_of (type_of p.tag)) p.value fp, value_small (shape_of (type_of q.tag)) q.value fq))

back_placed : (r p q : Param) (less same : Bool) (qs rest : List Param) → (same ≡ true → p.tag ≡ q.tag) → (AllByRecursion (MayStandBeside r) rest → MayStandBeside r p × AllByRecursion (MayStandBeside r) qs)
    → AllByRecursion (MayStandBeside r) (cond less (p ∷ q ∷ qs) (cond same (p ∷ qs) (q ∷ rest))) → MayStandBeside r p × AllByRecursion (MayStandBeside r) (q ∷ qs)
back_placed r p q true same qs rest ties more h = (h.0, h.1)
back_placed r p q false true qs rest ties more h = (h.0, ((λ e. h.0 (e ∙ sym (ties refl))), h.1))
back_placed r p q false false qs rest ties more h = let m = more h.1 in (m.0, (h.0, m.1))

-- a parameter that may stand beside each of a list's with one more
pub back-with_param : (r p : Param) (ps : List Param) → Fits p → AllByRecursion Fits ps → AllByRecursion (MayStandBeside r) (with_param p ps) → MayStandBeside r p × AllByRecursion (MayStandBeside r) ps
back-with_param r p [] fp fs h = (h.0, tt)
back-with_param r p (q ∷ qs) fp fs h =
    back_placed r p q (ltb (rank p) (rank q)) (eqb (rank p) (rank q)) qs (with_param p qs) (λ e. tag_from_rank p q fp fs.0 (eqb-true (rank p) (rank q) e)) (back-with_param r p qs fp fs.1) h

-- ---- more parameters

-- each of ps may stand beside each of those before
abbrev pub AreApart : List Param → List Param → Type 0
AreApart before ps = AllByRecursion (λ q. AllByRecursion (MayStandBeside q) before) ps

pub apart_more : (p : Param) (before ps : List Param) → AllByRecursion (MayStandBeside p) ps → AreApart before ps → AreApart (with_param p before) ps
apart_more p before ps beside apart =
    all_two (MayStandBeside p) (λ q. AllByRecursion (MayStandBeside q) before) (λ q. AllByRecursion (MayStandBeside q) (with_param p before)) (λ q b a. all-with_param (MayStandBeside q) p before (beside_sym p q b) a) ps beside apart

pub apart_none : (ps : List Param) → AreApart [] ps
apart_none ps = all_ever (λ q. AllByRecursion (MayStandBeside q) []) (λ q. tt) ps

pub record Stays (list : List Param) (limit : ℕ) : Type 0 where
  pub few : length list ≤ limit
  pub fit : AllByRecursion Fits list
  pub ordered : IsInOrder list

pub stays-with_params : (ps before : List Param) (limit : ℕ) → MayBeListed ps → AreApart before ps → Stays before limit → Stays (with_params before ps) (limit + length ps)
stays-with_params [] before limit may apart h = record { few = omega (arith, h.few); fit = h.fit; ordered = h.ordered }
stays-with_params (p ∷ ps) before limit may apart h =
    let one : Stays (with_param p before) (limit + 1) = record { few = omega (arith, h.few, length-with_param p before); fit = all-with_param Fits p before may.0 h.fit; ordered = ordered-with_param p before h.ordered apart.0 } in
    let all = stays-with_params ps (with_param p before) (limit + 1) may.2 (apart_more p before ps may.1 apart.1) one in
    record { few = omega (arith, all.few); fit = all.fit; ordered = all.ordered }

-- ---- a list that is in order already

place_last : (p : Param) (before : List Param) → AllByRecursion (λ q. rank q < rank p) before → with_param p before ≡ before ++ p ∷ []
place_last p [] h = refl
place_last p (q ∷ qs) h =
    let not_less : ltb (rank p) (rank q) ≡ false = le-ltb (rank p) (rank q) (omega (arith, h.0)) in
    let not_same : eqb (rank p) (rank q) ≡ false = ne_eqb (rank p) (rank q) (λ e. omega (arith, h.0, e)) in
    rw (not_less, not_same) (ap (λ rs. q ∷ rs) (place_last p qs h.1))

all_append : {X : Type 0} (P : X → Type 0) (xs : List X) (y : X) → AllByRecursion P xs → P y → AllByRecursion P (xs ++ y ∷ [])
all_append P [] y h hy = (hy, tt)
all_append P (x ∷ xs) y h hy = (h.0, all_append P xs y h.1 hy)

in_place : (ps before : List Param) → IsInOrder ps → AllByRecursion (λ p. AllByRecursion (λ q. rank q < rank p) before) ps → with_params before ps ≡ before ++ ps
in_place [] before ordered above = sym (append-nil before)
in_place (p ∷ ps) before ordered above =
    ap (λ list. with_params list ps) (place_last p before above.0)
    ∙ in_place ps (before ++ p ∷ []) ordered.1 (all_two (StandsBefore p) (λ r. AllByRecursion (λ q. rank q < rank r) before) (λ r. AllByRecursion (λ q. rank q < rank r) (before ++ p ∷ [])) (λ r s a. all_append (λ q. rank q < rank r) before p a s.rises) ps ordered.0 above.1)
    ∙ append_assoc before (p ∷ []) ps

pub canonical_is : (ps : List Param) → IsInOrder ps → with_params [] ps ≡ ps
canonical_is ps ordered = in_place ps [] ordered (all_ever (λ p. AllByRecursion (λ q. rank q < rank p) []) (λ p. tt) ps)

pub may_from_order : (ps : List Param) → AllByRecursion Fits ps → IsInOrder ps → MayBeListed ps
may_from_order [] fits ordered = tt
may_from_order (p ∷ ps) fits ordered = (fits.0, all_with (StandsBefore p) (MayStandBeside p) (λ q s. s.beside) ps ordered.0, may_from_order ps fits.1 ordered.1)
