-- How many bytes a list has with other versions, by the parameters that say none.
use Rattle.std.proofs.Common.{◌≡◌, ℕ, ◌+◌, ◌*◌, ◌≤◌, Bool, true, false, not, ◌||◌, cond, ltb, eqb, List, [], ◌∷◌, length, refl, sym, ap, ◌∙◌, arith}
use Rattle.std.specs.List.{AllByRecursion, filter, sum_by}
use Rattle.std.proofs.lemmas.Bool.{eqb-true, eqb-false, ne_eqb}
use Rattle.std.proofs.lemmas.List.Filters.{length-filter_both}
use Rattle.std.proofs.lemmas.List.Sums.{sum_by-cons}
use Rattle.tags.specs.declared.tag.Tag.{Tag}
use Rattle.tags.specs.declared.tag.Tag.TheVariants.{OsVersion, OsPatchlevel}
use Rattle.tags.specs.declared.param.Param.{Param}
use Rattle.tags.specs.declared.param.ParamValue.{ParamValue}
use Rattle.tags.specs.declared.param.ParamValue.TheVariants.{Number, Flag, Raw}
use Rattle.tags.specs.Tag.{type_of, low_of, repeats}
use Rattle.tag_lists.specs.declared.shape.Shape.{Shape}
use Rattle.tag_lists.specs.declared.shape.Shape.TheVariants.{Short, Long, Truth, Sized}
use Rattle.tag_lists.specs.Lookups.{is_of, all_of, without}
use Rattle.tag_lists.specs.Order.{shape_of, FitsShape, Fits, rank, MayStandBeside, StandsBefore, IsInOrder, IsCanonical, with_param}
use Rattle.tag_lists.specs.Spelling.{spelled, spelled_value, spelling}
use Rattle.tag_lists.specs.Versions.{numbered, set, size_beside, with_versions}
use Rattle.tag_lists.proofs.Canonical.{all-with_param, tag_from_rank}
use Rattle.tag_lists.proofs.Edits.{all_filter, canonical-without, others}
use Rattle.tag_lists.proofs.Numbers.{tag_is}
use Rattle.tag_lists.proofs.Sizes.{size, size_is}

-- ---- sums over a part of a list, and over one with a parameter more

filtered : (f : Param → ℕ) (b : Bool) (x : Param) (ys : List Param) → sum_by f (cond b (x ∷ ys) ys) ≡ cond b (f x) 0 + sum_by f ys
filtered f true x ys = sum_by-cons f x ys
filtered f false x ys = omega arith

sum_filtered : (f : Param → ℕ) (t : Param → Bool) (xs : List Param) → sum_by f (filter t xs) ≡ sum_by (λ p. cond (t p) (f p) 0) xs
sum_filtered f t [] = refl
sum_filtered f t (x ∷ xs) = omega (arith, filtered f (t x) x (filter t xs), sum_filtered f t xs, sum_by-cons (λ p. cond (t p) (f p) 0) x xs)

same_sums : (f g : Param → ℕ) → ((p : Param) → f p ≡ g p) → (xs : List Param) → sum_by f xs ≡ sum_by g xs
same_sums f g same [] = refl
same_sums f g same (x ∷ xs) = omega (arith, same x, same_sums f g same xs, sum_by-cons f x xs, sum_by-cons g x xs)

placed : (f : Param → ℕ) (less same : Bool) (p q : Param) (qs rest : List Param) → same ≡ false → sum_by f rest ≡ f p + sum_by f qs
    → sum_by f (cond less (p ∷ q ∷ qs) (cond same (p ∷ qs) (q ∷ rest))) ≡ f p + sum_by f (q ∷ qs)
placed f true same p q qs rest apart h = sum_by-cons f p (q ∷ qs)
placed f false true p q qs rest apart h = absurd cc
placed f false false p q qs rest apart h = omega (arith, h, sum_by-cons f q rest, sum_by-cons f q qs)

sum_with : (f : Param → ℕ) (p : Param) (ps : List Param) → Fits p → AllByRecursion Fits ps → AllByRecursion (λ q. is_of p.tag q ≡ false) ps → sum_by f (with_param p ps) ≡ f p + sum_by f ps
sum_with f p [] fits fit others = sum_by-cons f p []
sum_with f p (q ∷ qs) fits fit others =
    placed f (ltb (rank p) (rank q)) (eqb (rank p) (rank q)) p q qs (with_param p qs)
    (ne_eqb (rank p) (rank q) (λ e. eqb-false (low_of q.tag) (low_of p.tag) others.0 (ap low_of (sym (tag_from_rank p q fits fit.0 e)))))
    (sum_with f p qs fits fit.1 others.1)

-- what is set takes the place of what was there
sum_set : (f : Param → ℕ) (tag : Tag) (n : ℕ) (list : List Param) → Fits (numbered tag n) → AllByRecursion Fits list
    → sum_by f (set tag n list) ≡ f (numbered tag n) + sum_by (λ p. cond (not (is_of tag p)) (f p) 0) list
sum_set f tag n list fits fit =
    sum_with f (numbered tag n) (without tag list) fits (all_filter Fits (λ p. not (is_of tag p)) list fit) (others tag list)
    ∙ ap (λ k. f (numbered tag n) + k) (sum_filtered f (λ p. not (is_of tag p)) list)

-- ---- the sizes

beside : Param → ℕ
beside p = cond (not (is_of OsVersion p)) (cond (not (is_of OsPatchlevel p)) (size p) 0) 0

beside_by : (a b : Bool) (n : ℕ) → cond (not a) (cond (not b) n 0) 0 ≡ cond (a || b) 0 n
beside_by true b n = refl
beside_by false true n = refl
beside_by false false n = refl

beside_is : (p : Param) → beside p ≡ size_beside p
unfolding beside size
beside_is p = beside_by (is_of OsVersion p) (is_of OsPatchlevel p) (length (spelled p))

pub size_is_beside : (os patch : ℕ) (list : List Param) → Fits (numbered OsVersion os) → Fits (numbered OsPatchlevel patch) → IsCanonical list
    → length (spelling (with_versions os patch list)) ≡ 2 + (length (spelled (numbered OsVersion os)) + length (spelled (numbered OsPatchlevel patch)) + sum_by size_beside list)
unfolding beside size
size_is_beside os patch list fits fits_patch is =
    let first : List Param = set OsVersion os list in
    let fit : AllByRecursion Fits first = all-with_param Fits (numbered OsVersion os) (without OsVersion list) fits (canonical-without OsVersion list is).fit in
    let rest : Param → ℕ = λ p. cond (not (is_of OsPatchlevel p)) (size p) 0 in
    omega (
      arith,
      size_is (with_versions os patch list),
      sum_set size OsPatchlevel patch first fits_patch fit,
      sum_set rest OsVersion os list fits is.fit,
      same_sums beside size_beside beside_is list,
    )

-- ---- a list has at most two parameters that say versions

none_of : (tag : Tag) (ps : List Param) → AllByRecursion (λ q. is_of tag q ≡ false) ps → length (all_of tag ps) ≡ 0
none_of tag [] h = refl
none_of tag (p ∷ ps) h = rw h.0 (none_of tag ps h.1)

apart : (tag : Tag) (p q : Param) (b : Bool) → is_of tag q ≡ b → repeats (type_of tag) ≡ false → tag ≡ p.tag → MayStandBeside p q → is_of tag q ≡ false
apart tag p q false is once e beside = is
apart tag p q true is once e beside =
    let same : tag ≡ q.tag = tag_is tag q.tag (eqb-true _ _ is) in
    let more : repeats (type_of p.tag) ≡ true = beside (sym e ∙ same) in
    let own : repeats (type_of p.tag) ≡ false = ap (λ t. repeats (type_of t)) (sym e) ∙ once in
    absurd cc

all_apart : (tag : Tag) (p : Param) (qs : List Param) → repeats (type_of tag) ≡ false → tag ≡ p.tag → AllByRecursion (StandsBefore p) qs → AllByRecursion (λ q. is_of tag q ≡ false) qs
all_apart tag p [] once e before = tt
all_apart tag p (q ∷ qs) once e before = (apart tag p q (is_of tag q) refl once e before.0.beside, all_apart tag p qs once e before.1)

one_by : (tag : Tag) (b : Bool) (p : Param) (ps : List Param) → is_of tag p ≡ b → repeats (type_of tag) ≡ false → AllByRecursion (StandsBefore p) ps → length (all_of tag ps) ≤ 1 → length (cond b (p ∷ all_of tag ps) (all_of tag ps)) ≤ 1
one_by tag false p ps is once before h = h
one_by tag true p ps is once before h = omega (arith, none_of tag ps (all_apart tag p ps once (tag_is tag p.tag (eqb-true _ _ is)) before))

at_most_one : (tag : Tag) (ps : List Param) → repeats (type_of tag) ≡ false → IsInOrder ps → length (all_of tag ps) ≤ 1
at_most_one tag [] once ordered = omega arith
at_most_one tag (p ∷ ps) once ordered = one_by tag (is_of tag p) p ps refl once ordered.0 (at_most_one tag ps once ordered.1)

one_less : (tag : Tag) (list : List Param) → repeats (type_of tag) ≡ false → IsInOrder list → length list ≤ length (without tag list) + 1
one_less tag list once ordered = omega (arith, length-filter_both (is_of tag) (λ p. not (is_of tag p)) (λ p. refl) list, at_most_one tag list once ordered)

-- ---- and each parameter has five bytes

value_some : (shape : Shape) (v : ParamValue) → FitsShape shape v → 1 ≤ length (spelled_value shape v)
value_some Short (Number n) fits = omega arith
value_some Long (Number n) fits = omega arith
value_some Truth Flag fits = omega arith
value_some Sized (Raw bytes) fits = omega arith
value_some Short Flag fits = absurd fits
value_some Short (Raw bytes) fits = absurd fits
value_some Long Flag fits = absurd fits
value_some Long (Raw bytes) fits = absurd fits
value_some Truth (Number n) fits = absurd fits
value_some Truth (Raw bytes) fits = absurd fits
value_some Sized (Number n) fits = absurd fits
value_some Sized Flag fits = absurd fits

five_each : (ps : List Param) → AllByRecursion Fits ps → 5 * length ps ≤ sum_by size ps
unfolding size
five_each [] fit = omega arith
five_each (p ∷ ps) fit = omega (arith, five_each ps fit.1, sum_by-cons size p ps, value_some (shape_of (type_of p.tag)) p.value fit.0)

pub five_beside : (list : List Param) → IsCanonical list → 5 * length list ≤ 10 + sum_by size_beside list
unfolding beside
five_beside list is =
    let once = canonical-without OsVersion list is in
    let twice = canonical-without OsPatchlevel (without OsVersion list) once in
    let rest : Param → ℕ = λ p. cond (not (is_of OsPatchlevel p)) (size p) 0 in
    omega (
      arith,
      one_less OsVersion list refl is.ordered,
      one_less OsPatchlevel (without OsVersion list) refl once.ordered,
      five_each (without OsPatchlevel (without OsVersion list)) twice.fit,
      sum_filtered size (λ p. not (is_of OsPatchlevel p)) (without OsVersion list),
      sum_filtered rest (λ p. not (is_of OsVersion p)) list,
      same_sums beside size_beside beside_is list,
    )
