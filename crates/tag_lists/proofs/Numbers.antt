-- A number of a tag of 32 bits has 32 bits, and bytes are at most 65,535.
use Rattle.std.proofs.Common.{◌≡◌, ◌^◌, ◌<◌, ◌≤◌, length, Bool, true, false, cond, List, [], ◌∷◌, Option, Some, None, refl, sym, ap, ◌∙◌, subst, arith}
use Rattle.std.specs.Prelude.{find, IfSome, unwrap_or}
use Rattle.std.specs.List.{AllByRecursion}
use Rattle.std.specs.Option.{option_and_then}
use Rattle.std.proofs.lemmas.Bool.{eqb-true}
use Rattle.tags.specs.declared.tag.Tag.{Tag}
use Rattle.tags.specs.declared.param.Param.{Param}
use Rattle.tags.specs.declared.param.ParamValue.{ParamValue}
use Rattle.tags.specs.declared.param.ParamValue.TheVariants.{Number, Flag, Raw}
use Rattle.tags.specs.Param.{as_number, as_bytes}
use Rattle.tags.specs.Tag.{type_of, low_of, tag_with_low}
use Rattle.tags.specs.TagLaws.{with_low_is}
use Rattle.tag_lists.specs.declared.shape.Shape.{Shape}
use Rattle.tag_lists.specs.declared.shape.Shape.TheVariants.{Short, Long, Truth, Sized}
use Rattle.tag_lists.specs.Lookups.{is_of, one_of}
use Rattle.tag_lists.specs.Order.{shape_of, FitsShape, Fits, IsCanonical}
use Rattle.tag_lists.specs.Versions.{version_of}

-- a tag is told by its low bits
pub tag_is : (tag t : Tag) → low_of t ≡ low_of tag → tag ≡ t
tag_is tag t e = let same : Some tag ≡ Some t = sym (with_low_is tag) ∙ ap tag_with_low (sym e) ∙ with_low_is t in cc

is_short : (tag t : Tag) → shape_of (type_of tag) ≡ Short → low_of t ≡ low_of tag → shape_of (type_of t) ≡ Short
is_short tag t short e = ap (λ own. shape_of (type_of own)) (sym (tag_is tag t e)) ∙ short

number_small : (v : ParamValue) → FitsShape Short v → unwrap_or (as_number v) 0 < 2 ^ 32
number_small (Number n) fits = fits
number_small Flag fits = absurd fits
number_small (Raw bytes) fits = absurd fits

-- what is found passes, and is as all are
abbrev Found : (Param → Type 0) → (Param → Bool) → Option Param → Type 0
Found P t found = IfSome found (λ p. P p × (t p ≡ true))

found_here : (P : Param → Type 0) (t : Param → Bool) (b : Bool) (x : Param) (rest : Option Param) → t x ≡ b → P x → Found P t rest → Found P t (cond b (Some x) rest)
found_here P t true x rest e h behind = (h, e)
found_here P t false x rest e h behind = behind

found : (P : Param → Type 0) (t : Param → Bool) (xs : List Param) → AllByRecursion P xs → Found P t (find t xs)
found P t [] h = tt
found P t (x ∷ xs) h = found_here P t (t x) x (find t xs) refl h.0 (found P t xs h.1)

number_by : (tag : Tag) (list : List Param) (found : Option Param) → shape_of (type_of tag) ≡ Short → IsCanonical list → found ≡ one_of tag list → unwrap_or (option_and_then (λ p. as_number p.value) found) 0 < 2 ^ 32
number_by tag list None short is e = omega arith
number_by tag list (Some p) short is e =
    let own : Found Fits (is_of tag) (Some p) = subst (Found Fits (is_of tag)) (sym e) (found Fits (is_of tag) list is.fit) in
    let fits : FitsShape Short p.value = subst (λ s. FitsShape s p.value) (is_short tag p.tag short (eqb-true _ _ own.1)) own.0 in
    number_small p.value fits

pub version_small : (tag : Tag) (list : List Param) → shape_of (type_of tag) ≡ Short → IsCanonical list → version_of tag list < 2 ^ 32
version_small tag list short is = number_by tag list (one_of tag list) short is refl

-- ---- the bytes of a parameter

bytes_few : (shape : Shape) (v : ParamValue) → FitsShape shape v → IfSome (as_bytes v) (λ bytes. length bytes ≤ 65535)
bytes_few shape (Number n) fits = tt
bytes_few shape Flag fits = tt
bytes_few Sized (Raw bytes) fits = fits
bytes_few Short (Raw bytes) fits = absurd fits
bytes_few Long (Raw bytes) fits = absurd fits
bytes_few Truth (Raw bytes) fits = absurd fits

-- of the parameter that was found
pub bytes_short : (tag : Tag) (list : List Param) (p : Param) → IsCanonical list → Some p ≡ one_of tag list → IfSome (as_bytes p.value) (λ bytes. length bytes ≤ 65535)
bytes_short tag list p is e =
    let own : Found Fits (is_of tag) (Some p) = subst (Found Fits (is_of tag)) (sym e) (found Fits (is_of tag) list is.fit) in
    bytes_few (shape_of (type_of p.tag)) p.value own.0
