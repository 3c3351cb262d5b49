-- The two laws: what is read is spelled so, and what is spelled so is read.
use Rattle.std.proofs.Common.{◌≡◌, ℕ, zero, suc, ◌-◌, ◌+◌, ◌*◌, ◌^◌, ◌%◌, ◌≤◌, Bool, true, false, not, ◌&&◌, cond, eqb, List, [], ◌∷◌, ◌++◌, length, length-append, Option, Some, None, Result, Ok, Err, refl, sym, ap, subst, ◌∙◌, append_assoc, arith}
use Rattle.std.specs.Prelude.{is_some, IfOk, ◌↔◌}
use Rattle.std.specs.List.{flat_map, AllByRecursion, Contains}
use Rattle.std.proofs.lemmas.Bool.{eqb-true}
use Rattle.std.proofs.lemmas.List.{append-nil, nil_from_length}
use Rattle.std.proofs.lemmas.List.Concat.{flat_map-cons}
use Rattle.byteorder.specs.Endian.{big_bytes}
use Rattle.byteorder.specs.Numbers.{length-bytes_high_first}
use Rattle.tags.specs.declared.tag.Tag.{Tag}
use Rattle.tags.specs.declared.param.Param.{Param}
use Rattle.tags.specs.declared.param.ParamValue.{ParamValue}
use Rattle.tags.specs.declared.param.ParamValue.TheVariants.{Number, Flag, Raw}
use Rattle.tags.specs.Tag.{type_of, number_of, repeats}
use Rattle.tag_lists.specs.declared.fault.ListFault.{ListFault}
use Rattle.tag_lists.specs.declared.fault.ListFault.TheVariants.{UnknownTag, WrongKind, Repeated, Trailing}
use Rattle.tag_lists.specs.declared.shape.Shape.{Shape}
use Rattle.tag_lists.specs.declared.shape.Shape.TheVariants as shapes
use Rattle.tag_lists.specs.Order.{FitsShape, shape_of, Fits, MayStandBeside, MayBeListed, IsCanonical, with_param, with_params, canonical}
use Rattle.tag_lists.specs.Spelling.{spelled_value, spelled, spelling, IsListOf}
use Rattle.tag_lists.specs.Reading.{◌>>=◌, Gives, was_read, is_wrong_flag, whole_at, value_at, known_at, tagged_at, param_at, params_at, whole, listed}
use Rattle.tags.specs.Tag.{tag_numbered, tag_with_low}
use Rattle.tags.specs.TagLaws.{numbered_is}
use Rattle.tag_lists.proofs.Tags.{number_from_tag, number_fits}
use Rattle.tag_lists.proofs.Canonical.{follows, passes, all-with_param, back-with_param, AreApart, apart_more, apart_none, beside_sym, stays-with_params, canonical_is, may_from_order, all_two}
use Rattle.tag_lists.proofs.Members.{same_members}
use Rattle.byte_strings.specs.Readers.{number_at}
use Rattle.byte_strings.specs.Codecs.{IsBytes, Takes}
use Rattle.byte_strings.proofs.Fields.{Takes-then, u32_codec}
use Rattle.tag_lists.proofs.Fields.{bind_ok, guard_ok, ok_is, whole_is, number2_codec, value_takes, value_again}

-- ---- one parameter

pub record TakesParam (before : List Param) (bytes : List ℕ) (x : Param × List ℕ) : Type 0 where
  pub takes : Takes bytes (spelled x.0) x.1
  pub fits : Fits x.0
  pub follows : AllByRecursion (MayStandBeside x.0) before

-- the value of a known tag
record TakesKnown (before : List Param) (tag : Tag) (bytes : List ℕ) (x : Param × List ℕ) : Type 0 where
  tag_is : tag ≡ x.0.tag
  takes : Takes bytes (spelled_value (shape_of (type_of x.0.tag)) x.0.value) x.1
  fits : Fits x.0
  follows : AllByRecursion (MayStandBeside x.0) before

known_takes : (at : ℕ) (before : List Param) (tag : Tag) (bytes : List ℕ) (x : Param × List ℕ) → IsBytes bytes → known_at at before tag bytes ≡ Ok x → TakesKnown before tag bytes x
unfolding known_at
known_takes at before tag bytes x fits e =
    let read : Result (Param × List ℕ) ListFault = value_at at (shape_of (type_of tag)) bytes >>= λ v. Ok (record { tag = tag; value = v.0 }, v.1) in
    let a = guard_ok (is_wrong_flag (shape_of (type_of tag)) bytes) (WrongKind at) (cond (not (repeats (type_of tag)) && was_read tag before) (Err (Repeated at)) read) x e in
    let b = guard_ok (not (repeats (type_of tag)) && was_read tag before) (Repeated at) read x a.1 in
    let v = bind_ok (value_at at (shape_of (type_of tag)) bytes) (λ v. Ok (record { tag = tag; value = v.0 }, v.1)) x b.1 in
    let t = value_takes (shape_of (type_of tag)) at bytes v.0 fits a.0 v.1 in
    let made : Param × List ℕ = (record { tag = tag; value = v.0.0 }, v.0.1) in
    subst (λ (y : Param × List ℕ). TakesKnown before tag bytes y) (ok_is made x v.2) (record { tag_is = refl; takes = t.0; fits = t.1; follows = follows made.0 before b.0 })

never : {A : Type 0} (b : Bool) (d f : ListFault) (x : A) → cond b (Err d) (Err f) ≡ Ok x → ⊥
never true d f x e = cc
never false d f x e = cc

tagged_takes : (at : ℕ) (before : List Param) (bytes : List ℕ) (number : ℕ) (left : List ℕ) (found : Option Tag) (x : Param × List ℕ) → Takes bytes (big_bytes 4 number) left → tag_numbered number ≡ found
    → tagged_at at before number found left ≡ Ok x → TakesParam before bytes x
tagged_takes at before bytes number left None x read is e = absurd (never (is_some (tag_with_low (number % 2 ^ 28))) (WrongKind at) (UnknownTag at) x e)
tagged_takes at before bytes number left (Some tag) x read is e =
    let k = known_takes at before tag left x read.rest_fits e in
    let same : number ≡ number_of x.0.tag = sym (number_from_tag number tag is) ∙ ap number_of k.tag_is in
    let first : Takes bytes (big_bytes 4 (number_of x.0.tag)) left = subst (λ (m : ℕ). Takes bytes (big_bytes 4 m) left) same read in
    record { takes = Takes-then bytes (big_bytes 4 (number_of x.0.tag)) left (spelled_value (shape_of (type_of x.0.tag)) x.0.value) x.1 first k.takes; fits = k.fits; follows = k.follows }

pub param_takes : (at : ℕ) (before : List Param) (bytes : List ℕ) (x : Param × List ℕ) → IsBytes bytes → param_at at before bytes ≡ Ok x → TakesParam before bytes x
unfolding param_at
param_takes at before bytes x fits e =
    let n = bind_ok (whole_at at (number_at 4 bytes)) (λ (n : ℕ × List ℕ). tagged_at at before n.0 (tag_numbered n.0) n.1) x e in
    let t = u32_codec.takes bytes n.0.0 n.0.1 fits (whole_is at (number_at 4 bytes) n.0 n.1) in
    tagged_takes at before bytes n.0.0 n.0.1 (tag_numbered n.0.0) x t.0 refl n.2

known_again : (at : ℕ) (before : List Param) (p : Param) (rest : List ℕ) → Fits p → AllByRecursion (MayStandBeside p) before → known_at at before p.tag (spelled_value (shape_of (type_of p.tag)) p.value ++ rest) ≡ Ok (p, rest)
unfolding known_at
known_again at before p rest fits beside =
    let v = value_again (shape_of (type_of p.tag)) p.value rest fits in
    rw (v.right, passes p before beside, v.again at) refl

pub param_again : (at : ℕ) (before : List Param) (p : Param) (rest : List ℕ) → Fits p → AllByRecursion (MayStandBeside p) before → param_at at before (spelled p ++ rest) ≡ Ok (p, rest)
unfolding param_at
param_again at before p rest fits beside =
    let value : List ℕ = spelled_value (shape_of (type_of p.tag)) p.value in
    ap (param_at at before) (append_assoc (big_bytes 4 (number_of p.tag)) value rest)
    ∙ rw (u32_codec.again (number_of p.tag) (value ++ rest) (number_fits p.tag), numbered_is p.tag) (known_again at before p rest fits beside)

-- ---- several parameters

pub record TakesParams (n : ℕ) (before : List Param) (bytes : List ℕ) (x : List Param × List ℕ) : Type 0 where
  pub order : List Param
  pub count : length order ≡ n
  pub takes : Takes bytes (flat_map spelled order) x.1
  pub is : x.0 ≡ with_params before order
  pub may : MayBeListed order
  pub apart : AreApart before order

pub params_take : (n total : ℕ) (before : List Param) (bytes : List ℕ) (x : List Param × List ℕ) → IsBytes bytes → AllByRecursion Fits before → params_at n total before bytes ≡ Ok x → TakesParams n before bytes x
unfolding params_at
params_take zero total before bytes x fits fs e =
    subst (λ (y : List Param × List ℕ). TakesParams 0 before bytes y) (ok_is (before, bytes) x e) (record { order = []; count = refl; takes = record { parts = refl; rest_fits = fits }; is = refl; may = tt; apart = tt })
params_take (suc n) total before bytes x fits fs e =
    let a = bind_ok (param_at (total - length bytes) before bytes) (λ p. params_at n total (with_param p.0 before) p.1) x e in
    let p : Param = a.0.0 in
    let t = param_takes (total - length bytes) before bytes a.0 fits a.1 in
    let r = params_take n total (with_param p before) a.0.1 x t.takes.rest_fits (all-with_param Fits p before t.fits fs) a.2 in
    let back = λ (q : Param) (h : AllByRecursion (MayStandBeside q) (with_param p before)). back-with_param q p before t.fits fs h in
    let both = Takes-then bytes (spelled p) a.0.1 (flat_map spelled r.order) x.1 t.takes r.takes in
    record {
      order = p ∷ r.order;
      count = omega (arith, r.count);
      takes = subst (λ (text : List ℕ). Takes bytes text x.1) (sym (flat_map-cons spelled p r.order)) both;
      is = r.is;
      may = (t.fits, all_two (λ q. AllByRecursion (MayStandBeside q) (with_param p before)) (λ q. AllByRecursion (MayStandBeside q) (with_param p before)) (MayStandBeside p) (λ q h k. beside_sym q p (back q h).0) r.order r.apart r.apart, r.may);
      apart = (t.follows, all_two (λ q. AllByRecursion (MayStandBeside q) (with_param p before)) (λ q. AllByRecursion (MayStandBeside q) (with_param p before)) (λ q. AllByRecursion (MayStandBeside q) before) (λ q h k. (back q h).1) r.order r.apart r.apart);
    }

pub params_again : (ps : List Param) (total : ℕ) (before : List Param) (rest : List ℕ) → MayBeListed ps → AreApart before ps → params_at (length ps) total before (flat_map spelled ps ++ rest) ≡ Ok (with_params before ps, rest)
unfolding params_at
params_again [] total before rest may apart = refl
params_again (p ∷ ps) total before rest may apart =
    let behind : List ℕ = flat_map spelled ps ++ rest in
    let regrouped : flat_map spelled (p ∷ ps) ++ rest ≡ spelled p ++ behind = ap (λ (t : List ℕ). t ++ rest) (flat_map-cons spelled p ps) ∙ append_assoc (spelled p) (flat_map spelled ps) rest in
    ap (params_at (suc (length ps)) total before) regrouped
    ∙ rw (param_again (total - length (spelled p ++ behind)) before p behind may.0 apart.0) (params_again ps total (with_param p before) rest may.2 (apart_more p before ps may.1 apart.1))

-- ---- the whole list

ended : {A : Type 0} (b : Bool) (d : ListFault) (x y : A) → cond b (Ok x) (Err d) ≡ Ok y → (b ≡ true) × (x ≡ y)
ended true d x y e = (refl, ok_is x y e)
ended false d x y e = absurd cc

pub listed_takes : (bytes : List ℕ) (list : List Param) → IsBytes bytes → listed bytes ≡ Ok list → IsListOf bytes list
unfolding listed
listed_takes bytes list fits e =
    let total : ℕ = length bytes in
    let g = bind_ok (whole_at 0 (number_at 2 bytes)) (λ (n : ℕ × List ℕ). params_at n.0 total [] n.1 >>= λ read. whole total read) list e in
    let count : ℕ = g.0.0 in
    let left : List ℕ = g.0.1 in
    let b = bind_ok (params_at count total [] left) (λ read. whole total read) list g.2 in
    let read : List Param × List ℕ = b.0 in
    let w = ended (eqb (length read.1) 0) (Trailing (total - length read.1)) read.0 list b.2 in
    let n = number2_codec.takes bytes count left fits (whole_is 0 (number_at 2 bytes) g.0 g.1) in
    let t = params_take count total [] left read n.0.rest_fits tt b.1 in
    let nothing : read.1 ≡ [] = nil_from_length read.1 (eqb-true _ _ w.0) in
    let both = (Takes-then bytes (big_bytes 2 count) left (flat_map spelled t.order) read.1 n.0 t.takes).parts in
    record {
      order = t.order;
      few = omega (arith, t.count, n.1);
      may = t.may;
      spells =
          both
          ∙ ap (λ (r : List ℕ). (big_bytes 2 count ++ flat_map spelled t.order) ++ r) nothing
          ∙ append-nil (big_bytes 2 count ++ flat_map spelled t.order)
          ∙ ap (λ (k : ℕ). big_bytes 2 k ++ flat_map spelled t.order) (sym t.count);
      is = sym w.1 ∙ t.is;
      members = λ p. subst (λ l. Contains t.order p ↔ Contains l p) (sym (sym w.1 ∙ t.is)) (same_members t.order t.may p);
    }

pub listed_again : (order : List Param) → length order ≤ 65535 → MayBeListed order → listed (spelling order) ≡ Ok (canonical order)
unfolding listed
listed_again order few may =
    let text : List ℕ = flat_map spelled order in
    let a = number2_codec.again (length order) text (omega (arith, few)) in
    let total : ℕ = length (spelling order) in
    let read : params_at (length order) total [] text ≡ Ok (canonical order, []) = ap (params_at (length order) total []) (sym (append-nil text)) ∙ params_again order total [] [] may (apart_none order) in
    ap (λ (o : Option (ℕ × List ℕ)). whole_at 0 o >>= λ count. (params_at count.0 total [] count.1 >>= λ read. whole total read)) a
    ∙ ap (λ (r : Result (List Param × List ℕ) ListFault). r >>= λ read. whole total read) read

-- a canonical list is the list of its own spelling
pub canonical_again : (list : List Param) → IsCanonical list → listed (spelling list) ≡ Ok list
canonical_again list is = listed_again list is.few (may_from_order list is.fit is.ordered) ∙ ap (λ l. Ok l) (canonical_is list is.ordered)

-- a list that was read is canonical
pub canonical_from : (order : List Param) → length order ≤ 65535 → MayBeListed order → IsCanonical (canonical order)
canonical_from order few may =
    let s = stays-with_params order [] 0 may (apart_none order) (record { few = omega arith; fit = tt; ordered = tt }) in
    record { few = omega (arith, s.few, few); fit = s.fit; ordered = s.ordered }

pub canonical_listed : (bytes : List ℕ) (list : List Param) → IsBytes bytes → listed bytes ≡ Ok list → IsCanonical list
canonical_listed bytes list fits e =
    let t = listed_takes bytes list fits e in
    rw t.is (canonical_from t.order t.few t.may)

pub is_found : (bytes : List ℕ) (r : Result (List Param) ListFault) → IsBytes bytes → Gives (λ list. list) r (listed bytes) → IfOk r (λ list. IsListOf bytes list)
is_found bytes (Ok list) fits given = listed_takes bytes list fits given
is_found bytes (Err e) fits given = tt

pub is_canonical : (bytes : List ℕ) (r : Result (List Param) ListFault) → IsBytes bytes → Gives (λ list. list) r (listed bytes) → IfOk r (λ list. IsCanonical list)
is_canonical bytes (Ok list) fits given = canonical_listed bytes list fits given
is_canonical bytes (Err e) fits given = tt

-- ---- each parameter takes five bytes at least

value_long : (s : Shape) (v : ParamValue) → FitsShape s v → 1 ≤ length (spelled_value s v)
value_long shapes.Short (Number n) h = omega arith
value_long shapes.Short Flag h = absurd h
value_long shapes.Short (Raw bytes) h = absurd h
value_long shapes.Long (Number n) h = omega arith
value_long shapes.Long Flag h = absurd h
value_long shapes.Long (Raw bytes) h = absurd h
value_long shapes.Truth (Number n) h = absurd h
value_long shapes.Truth Flag h = omega arith
value_long shapes.Truth (Raw bytes) h = absurd h
value_long shapes.Sized (Number n) h = absurd h
value_long shapes.Sized Flag h = absurd h
value_long shapes.Sized (Raw bytes) h = omega (arith, length-append (big_bytes 2 (length bytes)) bytes)

param_long : (p : Param) → Fits p → 5 ≤ length (spelled p)
param_long p fits =
    let value : List ℕ = spelled_value (shape_of (type_of p.tag)) p.value in
    omega (arith, value_long (shape_of (type_of p.tag)) p.value fits, length-append (big_bytes 4 (number_of p.tag)) value, length-bytes_high_first 4 (number_of p.tag))

params_long : (ps : List Param) → MayBeListed ps → 5 * length ps ≤ length (flat_map spelled ps)
params_long [] may = omega arith
params_long (p ∷ ps) may =
    let joined : length (flat_map spelled (p ∷ ps)) ≡ length (spelled p ++ flat_map spelled ps) = ap (λ (t : List ℕ). length t) (flat_map-cons spelled p ps) in
    omega (arith, joined, length-append (spelled p) (flat_map spelled ps), param_long p may.0, params_long ps may.2)

few_listed : (bytes : List ℕ) (list : List Param) → IsBytes bytes → listed bytes ≡ Ok list → 2 + 5 * length list ≤ length bytes
few_listed bytes list fits e =
    let t = listed_takes bytes list fits e in
    let s = stays-with_params t.order [] 0 t.may (apart_none t.order) (record { few = omega arith; fit = tt; ordered = tt }) in
    let len : length list ≡ length (canonical t.order) = ap (λ (l : List Param). length l) t.is in
    let whole : length bytes ≡ length (spelling t.order) = ap (λ (b : List ℕ). length b) t.spells in
    omega (arith, s.few, len, whole, length-append (big_bytes 2 (length t.order)) (flat_map spelled t.order), length-bytes_high_first 2 (length t.order), params_long t.order t.may)

pub is_few : (bytes : List ℕ) (r : Result (List Param) ListFault) → IsBytes bytes → Gives (λ list. list) r (listed bytes) → IfOk r (λ list. 2 + 5 * length list ≤ length bytes)
is_few bytes (Ok list) fits given = few_listed bytes list fits given
is_few bytes (Err e) fits given = tt
