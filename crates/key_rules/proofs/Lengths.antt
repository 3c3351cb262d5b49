-- A list has no more parameters than bytes spell it, and an edit adds at most one.
use Rattle.std.proofs.Common.{◌≡◌, ℕ, ◌+◌, ◌≤◌, not, List, [], ◌∷◌, length, Result, Ok, Err, ap, arith, length-append}
use Rattle.std.specs.Prelude.{IfOk}
use Rattle.std.specs.List.{flat_map}
use Rattle.tags.specs.declared.param.Param.{Param}
use Rattle.tags.specs.declared.param.ParamValue.TheVariants.{Number}
use Rattle.tags.specs.declared.tag.Tag.{Tag}
use Rattle.tags.specs.Tag.{type_of}
use Rattle.tag_lists.specs.declared.shape.Shape.{Shape}
use Rattle.tag_lists.specs.declared.shape.Shape.TheVariants.{Short, Long, Truth, Sized}
use Rattle.tag_lists.specs.Lookups.{is_of, without}
use Rattle.tag_lists.specs.Order.{shape_of, with_param, with_params}
use Rattle.tag_lists.specs.Spelling.{spelled, spelled_value, spelling, IsListOf}
use Rattle.tag_lists.proofs.Canonical.{length-with_param}
use Rattle.tag_lists.proofs.Edits.{length_filter}
use Rattle.key_rules.specs.KeptLists.{most_bytes}

length-with_params : (ps before : List Param) → length (with_params before ps) ≤ length before + length ps
length-with_params [] before = omega arith
length-with_params (p ∷ ps) before = omega (arith, length-with_params ps (with_param p before), length-with_param p before)

-- four bytes of tag
length_tagged : (p : Param) → length (spelled p) ≡ 4 + length (spelled_value (shape_of (type_of p.tag)) p.value)
length_tagged p = omega arith

length-spelled : (ps : List Param) → length ps ≤ length (flat_map spelled ps)
length-spelled [] = omega arith
length-spelled (p ∷ ps) = omega (arith, length-spelled ps, length-append (spelled p) (flat_map spelled ps), length_tagged p)

-- two bytes of count
length_counted : (ps : List Param) → length (spelling ps) ≡ 2 + length (flat_map spelled ps)
length_counted ps = omega arith

pub no_more_than_bytes : (bytes : List ℕ) (list : List Param) → IsListOf bytes list → length list ≤ length bytes
no_more_than_bytes bytes list is =
    let few : length list ≤ length is.order = rw is.is (omega (arith, length-with_params is.order [])) in
    let all : length bytes ≡ length (spelling is.order) = ap length is.spells in
    omega (arith, few, all, length_counted is.order, length-spelled is.order)

pub adds_one : {E : Type 0} (r : Result (List Param) E) (p : Param) (list : List Param) → IfOk r (λ new. new ≡ with_param p (without p.tag list)) → IfOk r (λ new. length new ≤ length list + 1)
adds_one (Ok new) p list h = rw h (omega (arith, length-with_param p (without p.tag list), length_filter (λ q. not (is_of p.tag q)) list))
adds_one (Err fault) p list h = tt

number_few : (shape : Shape) (n : ℕ) → 4 + length (spelled_value shape (Number n)) ≤ most_bytes shape
number_few Short n = omega arith
number_few Long n = omega arith
number_few Truth n = omega arith
number_few Sized n = omega arith

-- a parameter with a number has few bytes
pub number_bytes : (tag : Tag) (n : ℕ) → length (spelled (record { tag = tag; value = Number n })) ≤ most_bytes (shape_of (type_of tag))
number_bytes tag n = omega (arith, length_tagged (record { tag = tag; value = Number n }), number_few (shape_of (type_of tag)) n)

pub adds_bytes : {E : Type 0} (r : Result (List Param) E) (tag : Tag) (n : ℕ) (list : List Param)
    → IfOk r (λ new. length (spelling new) ≤ length (spelling list) + length (spelled (record { tag = tag; value = Number n })))
    → IfOk r (λ new. length (spelling new) ≤ length (spelling list) + most_bytes (shape_of (type_of tag)))
adds_bytes (Ok new) tag n list h = omega (arith, h, number_bytes tag n)
adds_bytes (Err fault) tag n list h = tt
