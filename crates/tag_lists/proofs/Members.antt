-- The canonical list of some parameters has these parameters, and no others.
use Rattle.std.proofs.Common.{◌≡◌, ℕ, zero, suc, ◌<◌, Bool, true, false, cond, ltb, eqb, ◌⊎◌, List, [], ◌∷◌, length, get_or, refl, sym, ap, ◌∙◌, arith, inl, inr}
use Rattle.std.specs.Prelude.{◌↔◌}
use Rattle.std.specs.List.{AllByRecursion, Contains}
use Rattle.std.proofs.lemmas.Bool.{eqb-true}
use Rattle.tags.specs.declared.tag.TagType.{TagType}
use Rattle.tags.specs.declared.tag.TagType.TheVariants as types
use Rattle.tags.specs.declared.param.Param.{Param}
use Rattle.tags.specs.declared.param.ParamValue.{ParamValue}
use Rattle.tags.specs.declared.param.ParamValue.TheVariants.{Number, Flag, Raw}
use Rattle.tags.specs.Tag.{type_of, repeats}
use Rattle.tag_lists.specs.declared.shape.Shape.TheVariants as shapes
use Rattle.tag_lists.specs.Order.{shape_of, FitsShape, Fits, number_in, rank, MayStandBeside, MayBeListed, with_param, with_params, canonical}
use Rattle.tag_lists.proofs.Canonical.{all-with_param, tag_from_rank, AreApart, apart_more, apart_none}

same_short : (v w : ParamValue) → FitsShape shapes.Short v → FitsShape shapes.Short w → number_in v ≡ number_in w → v ≡ w
same_short (Number m) (Number n) fv fw e = ap Number e
same_short (Number m) Flag fv fw e = absurd fw
same_short (Number m) (Raw bytes) fv fw e = absurd fw
same_short Flag w fv fw e = absurd fv
same_short (Raw bytes) w fv fw e = absurd fv

same_long : (v w : ParamValue) → FitsShape shapes.Long v → FitsShape shapes.Long w → number_in v ≡ number_in w → v ≡ w
same_long (Number m) (Number n) fv fw e = ap Number e
same_long (Number m) Flag fv fw e = absurd fw
same_long (Number m) (Raw bytes) fv fw e = absurd fw
same_long Flag w fv fw e = absurd fv
same_long (Raw bytes) w fv fw e = absurd fv

same_value : (t : TagType) (v w : ParamValue) → repeats t ≡ true → FitsShape (shape_of t) v → FitsShape (shape_of t) w → number_in v ≡ number_in w → v ≡ w
same_value types.EnumRep v w r fv fw e = same_short v w fv fw e
same_value types.UintRep v w r fv fw e = same_short v w fv fw e
same_value types.UlongRep v w r fv fw e = same_long v w fv fw e
same_value types.Enum v w r fv fw e = absurd cc
same_value types.Uint v w r fv fw e = absurd cc
same_value types.Ulong v w r fv fw e = absurd cc
same_value types.Date v w r fv fw e = absurd cc
same_value types.Bool v w r fv fw e = absurd cc
same_value types.Bignum v w r fv fw e = absurd cc
same_value types.Bytes v w r fv fw e = absurd cc

-- of parameters that may stand in one list, those of one rank are equal
same_param : (p q : Param) → Fits p → Fits q → MayStandBeside p q → rank p ≡ rank q → p ≡ q
same_param p q fp fq beside e =
    let tags : p.tag ≡ q.tag = tag_from_rank p q fp fq e in
    let fits : FitsShape (shape_of (type_of p.tag)) q.value = rw tags fq in
    let numbers : number_in p.value ≡ number_in q.value = let own : rank q ≡ rank (record { tag = p.tag; value = q.value }) = ap (λ t. rank (record { tag = t; value = q.value })) (sym tags) in omega (arith, e, own) in
    ap (λ v. record { tag = p.tag; value = v }) (same_value (type_of p.tag) p.value q.value (beside tags) fp fits numbers)
    ∙ ap (λ t. record { tag = t; value = q.value }) tags

-- ---- membership by recursion

abbrev IsAmong : Param → List Param → Type 0
IsAmong r [] = ⊥
IsAmong r (p ∷ ps) = (r ≡ p) ⊎ IsAmong r ps

contains : (r : Param) (ps : List Param) → IsAmong r ps → Contains ps r
contains r [] h = absurd h
contains r (p ∷ ps) (inl e) = (0, omega arith, sym e)
contains r (p ∷ ps) (inr h) = let c = contains r ps h in (suc c.0, omega (arith, c.1), c.2)

among_at : (r : Param) (ps : List Param) (k : ℕ) → k < length ps → get_or ps k r ≡ r → IsAmong r ps
among_at r [] k lt e = absurd (omega (arith, lt))
among_at r (p ∷ ps) zero lt e = inl (sym e)
among_at r (p ∷ ps) (suc k) lt e = inr (among_at r ps k (omega (arith, lt)) e)

among : (r : Param) (ps : List Param) → Contains ps r → IsAmong r ps
among r ps c = among_at r ps c.0 c.1 c.2

to_placed : (r : Param) (less same : Bool) (p q : Param) (qs rest : List Param) → (same ≡ true → p ≡ q) → (IsAmong r (p ∷ qs) → IsAmong r rest) → IsAmong r (p ∷ q ∷ qs) → IsAmong r (cond less (p ∷ q ∷ qs) (cond same (p ∷ qs) (q ∷ rest)))
to_placed r true same p q qs rest ties more h = h
to_placed r false true p q qs rest ties more (inl e) = inl e
to_placed r false true p q qs rest ties more (inr (inl e)) = inl (e ∙ sym (ties refl))
to_placed r false true p q qs rest ties more (inr (inr h)) = inr h
to_placed r false false p q qs rest ties more (inl e) = inr (more (inl e))
to_placed r false false p q qs rest ties more (inr (inl e)) = inl e
to_placed r false false p q qs rest ties more (inr (inr h)) = inr (more (inr h))

to_with : (r p : Param) (ps : List Param) → Fits p → AllByRecursion Fits ps → AllByRecursion (MayStandBeside p) ps → IsAmong r (p ∷ ps) → IsAmong r (with_param p ps)
to_with r p [] fp fs besides h = h
to_with r p (q ∷ qs) fp fs besides h =
    to_placed r (ltb (rank p) (rank q)) (eqb (rank p) (rank q)) p q qs (with_param p qs) (λ e. same_param p q fp fs.0 besides.0 (eqb-true (rank p) (rank q) e)) (to_with r p qs fp fs.1 besides.1) h

over : (r p q : Param) (qs : List Param) → IsAmong r (p ∷ qs) → IsAmong r (p ∷ q ∷ qs)
over r p q qs (inl e) = inl e
over r p q qs (inr h) = inr (inr h)

from_placed : (r : Param) (less same : Bool) (p q : Param) (qs rest : List Param) → (IsAmong r rest → IsAmong r (p ∷ qs)) → IsAmong r (cond less (p ∷ q ∷ qs) (cond same (p ∷ qs) (q ∷ rest))) → IsAmong r (p ∷ q ∷ qs)
from_placed r true same p q qs rest more h = h
from_placed r false true p q qs rest more h = over r p q qs h
from_placed r false false p q qs rest more (inl e) = inr (inl e)
from_placed r false false p q qs rest more (inr h) = over r p q qs (more h)

from_with : (r p : Param) (ps : List Param) → IsAmong r (with_param p ps) → IsAmong r (p ∷ ps)
from_with r p [] h = h
from_with r p (q ∷ qs) h = from_placed r (ltb (rank p) (rank q)) (eqb (rank p) (rank q)) p q qs (with_param p qs) (from_with r p qs) h

-- ---- several parameters

regroup : (r p : Param) (before ps : List Param) → (IsAmong r (p ∷ before) → IsAmong r (with_param p before)) → IsAmong r before ⊎ IsAmong r (p ∷ ps) → IsAmong r (with_param p before) ⊎ IsAmong r ps
regroup r p before ps more (inl h) = inl (more (inr h))
regroup r p before ps more (inr (inl e)) = inl (more (inl e))
regroup r p before ps more (inr (inr h)) = inr h

to_all : (r : Param) (ps before : List Param) → MayBeListed ps → AreApart before ps → AllByRecursion Fits before → IsAmong r before ⊎ IsAmong r ps → IsAmong r (with_params before ps)
to_all r [] before may apart fits (inl h) = h
to_all r [] before may apart fits (inr h) = absurd h
to_all r (p ∷ ps) before may apart fits h =
    to_all r ps (with_param p before) may.2 (apart_more p before ps may.1 apart.1) (all-with_param Fits p before may.0 fits) (regroup r p before ps (to_with r p before may.0 fits apart.0) h)

split_back : (r p : Param) (before ps : List Param) → (IsAmong r (with_param p before) → IsAmong r (p ∷ before)) → IsAmong r (with_param p before) ⊎ IsAmong r ps → IsAmong r before ⊎ IsAmong r (p ∷ ps)
split_back r p before ps back (inr h) = inr (inr h)
split_back r p before ps back (inl h) = elim (back h) [ inl e ↦ inr (inl e) | inr b ↦ inl b ]

from_all : (r : Param) (ps before : List Param) → IsAmong r (with_params before ps) → IsAmong r before ⊎ IsAmong r ps
from_all r [] before h = inl h
from_all r (p ∷ ps) before h = split_back r p before ps (from_with r p before) (from_all r ps (with_param p before) h)

from_none : (r : Param) (ps : List Param) → IsAmong r [] ⊎ IsAmong r ps → IsAmong r ps
from_none r ps (inl h) = absurd h
from_none r ps (inr h) = h

pub same_members : (order : List Param) → MayBeListed order → (r : Param) → Contains order r ↔ Contains (canonical order) r
same_members order may r = (
  λ c. contains r (canonical order) (to_all r order [] may (apart_none order) tt (inr (among r order c))),
  λ c. contains r order (from_none r order (from_all r order [] (among r (canonical order) c))),
)
