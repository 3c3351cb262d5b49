-- How many bytes a list's spelling has: a reading, an edit and a filter make it no longer than what they put in.
use Rattle.std.proofs.Common.{◌≡◌, ℕ, ◌+◌, ◌≤◌, Bool, true, false, not, ltb, eqb, cond, List, [], ◌∷◌, length, length-append, Result, Ok, Err, refl, ap, ◌∙◌, arith}
use Rattle.std.specs.Prelude.{IfOk}
use Rattle.std.specs.List.{filter, flat_map, sum_by}
use Rattle.std.proofs.lemmas.List.Concat.{length-flat_map}
use Rattle.std.proofs.lemmas.List.Filters.{sum_by-filter_both}
use Rattle.std.proofs.lemmas.List.Sums.{sum_by-cons}
use Rattle.byteorder.specs.Endian.{big_bytes}
use Rattle.byteorder.specs.Numbers.{length-bytes_high_first}
use Rattle.tags.specs.declared.param.Param.{Param}
use Rattle.tag_lists.specs.declared.fault.ListFault.{ListFault}
use Rattle.tag_lists.specs.Order.{canonical, rank, with_param, with_params}
use Rattle.tag_lists.specs.Reading.{Gives, listed}
use Rattle.tag_lists.specs.Spelling.{IsListOf, spelled, spelling}
use Rattle.byte_strings.specs.Codecs.{IsBytes}
use Rattle.tag_lists.proofs.Laws.{is_found}

unfoldable pub size : Param → ℕ
size p = length (spelled p)

pub size_is : (ps : List Param) → length (spelling ps) ≡ 2 + sum_by size ps
unfolding size
size_is ps =
    length-append (big_bytes 2 (length ps)) (flat_map spelled ps) ∙ ap (λ n. n + length (flat_map spelled ps)) (length-bytes_high_first 2 (length ps))
    ∙ ap (λ n. 2 + n) (length-flat_map spelled ps)

placed : (less same : Bool) (p q : Param) (qs rest : List Param) → sum_by size rest ≤ size p + sum_by size qs
    → sum_by size (cond less (p ∷ q ∷ qs) (cond same (p ∷ qs) (q ∷ rest))) ≤ size p + sum_by size (q ∷ qs)
placed true same p q qs rest h = omega (arith, sum_by-cons size p (q ∷ qs))
placed false true p q qs rest h = omega (arith, sum_by-cons size p qs, sum_by-cons size q qs)
placed false false p q qs rest h = omega (arith, h, sum_by-cons size q rest, sum_by-cons size q qs)

sum_with : (p : Param) (ps : List Param) → sum_by size (with_param p ps) ≤ size p + sum_by size ps
sum_with p [] = omega (arith, sum_by-cons size p [])
sum_with p (q ∷ qs) = placed (ltb (rank p) (rank q)) (eqb (rank p) (rank q)) p q qs (with_param p qs) (sum_with p qs)

sum_more : (before ps : List Param) → sum_by size (with_params before ps) ≤ sum_by size before + sum_by size ps
sum_more before [] = omega arith
sum_more before (p ∷ ps) = omega (arith, sum_more (with_param p before) ps, sum_with p before, sum_by-cons size p ps)

sum_filter : (t : Param → Bool) (ps : List Param) → sum_by size (filter t ps) ≤ sum_by size ps
sum_filter t ps = omega (arith, sum_by-filter_both t (λ p. not (t p)) (λ p. refl) size ps)

-- a list with one more parameter
pub small_with : (p : Param) (ps : List Param) → length (spelling (with_param p ps)) ≤ length (spelling ps) + length (spelled p)
unfolding size
small_with p ps = omega (arith, size_is (with_param p ps), size_is ps, sum_with p ps)

-- a part of a list
pub small_filter : (t : Param → Bool) (ps : List Param) → length (spelling (filter t ps)) ≤ length (spelling ps)
small_filter t ps = omega (arith, size_is (filter t ps), size_is ps, sum_filter t ps)

found_small : (bytes : List ℕ) (list : List Param) → IsListOf bytes list → length (spelling list) ≤ length bytes
found_small bytes list is =
    let long : length bytes ≡ length (spelling is.order) = ap (λ (b : List ℕ). length b) is.spells in
    let same : length (spelling list) ≡ length (spelling (canonical is.order)) = ap (λ ps. length (spelling ps)) is.is in
    omega (arith, long, same, size_is is.order, size_is (canonical is.order), sum_more [] is.order)

if_found : (bytes : List ℕ) (r : Result (List Param) ListFault) → IfOk r (λ list. IsListOf bytes list) → IfOk r (λ list. length (spelling list) ≤ length bytes)
if_found bytes (Ok list) found = found_small bytes list found
if_found bytes (Err e) found = tt

-- a list that was read
pub is_small : (bytes : List ℕ) (r : Result (List Param) ListFault) → IsBytes bytes → Gives (λ list. list) r (listed bytes) → IfOk r (λ list. length (spelling list) ≤ length bytes)
is_small bytes r fits given = if_found bytes r (is_found bytes r fits given)
