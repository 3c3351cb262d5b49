-- A list stays canonical without the parameters of a tag, and with one in their place.
use Rattle.std.proofs.Common.{◌≡◌, ℕ, zero, suc, ◌+◌, ◌<◌, ◌≤◌, Bool, true, false, not, cond, ltb, eqb, List, [], ◌∷◌, ◌++◌, length, get_or, take, drop, refl, sym, ap, subst, ◌∙◌, arith}
use Rattle.std.specs.List.{AllByRecursion, filter}
use Rattle.std.proofs.lemmas.Bool.{ltb-true, ltb-false, lt-ltb, le-ltb, ne_eqb, eqb-false}
use Rattle.std.proofs.lemmas.List.Filters.{length-filter_both}
use Rattle.tags.specs.declared.tag.Tag.{Tag}
use Rattle.tags.specs.declared.param.Param.{Param}
use Rattle.tags.specs.Tag.{low_of}
use Rattle.tag_lists.specs.Order.{Fits, rank, MayStandBeside, StandsBefore, IsInOrder, IsCanonical, with_param}
use Rattle.tag_lists.specs.Lookups.{is_of, without}
use Rattle.tag_lists.proofs.Canonical.{all-with_param, ordered-with_param, length-with_param, tag_from_rank}
use Rattle.tag_lists.proofs.Lookups.{IsEnd, all_at}

all_cond : (P : Param → Type 0) (b : Bool) (x : Param) (ys : List Param) → P x → AllByRecursion P ys → AllByRecursion P (cond b (x ∷ ys) ys)
all_cond P true x ys hx h = (hx, h)
all_cond P false x ys hx h = h

pub all_filter : (P : Param → Type 0) (t : Param → Bool) (xs : List Param) → AllByRecursion P xs → AllByRecursion P (filter t xs)
all_filter P t [] h = tt
all_filter P t (x ∷ xs) h = all_cond P (t x) x (filter t xs) h.0 (all_filter P t xs h.1)

ordered_cond : (b : Bool) (x : Param) (ys : List Param) → AllByRecursion (StandsBefore x) ys → IsInOrder ys → IsInOrder (cond b (x ∷ ys) ys)
ordered_cond true x ys before ordered = (before, ordered)
ordered_cond false x ys before ordered = ordered

ordered_filter : (t : Param → Bool) (xs : List Param) → IsInOrder xs → IsInOrder (filter t xs)
ordered_filter t [] ordered = tt
ordered_filter t (x ∷ xs) ordered = ordered_cond (t x) x (filter t xs) (all_filter (StandsBefore x) t xs ordered.0) (ordered_filter t xs ordered.1)

pub length_filter : (t : Param → Bool) (xs : List Param) → length (filter t xs) ≤ length xs
length_filter t xs = omega (arith, length-filter_both t (λ x. not (t x)) (λ x. refl) xs)

pub canonical-without : (tag : Tag) (list : List Param) → IsCanonical list → IsCanonical (without tag list)
canonical-without tag list is = record {
  few = omega (arith, is.few, length_filter (λ p. not (is_of tag p)) list);
  fit = all_filter Fits (λ p. not (is_of tag p)) list is.fit;
  ordered = ordered_filter (λ p. not (is_of tag p)) list is.ordered;
}

-- ---- one in their place

others_cond : (tag : Tag) (b : Bool) (x : Param) (ys : List Param) → is_of tag x ≡ b → AllByRecursion (λ q. is_of tag q ≡ false) ys → AllByRecursion (λ q. is_of tag q ≡ false) (cond (not b) (x ∷ ys) ys)
others_cond tag true x ys is h = h
others_cond tag false x ys is h = (is, h)

pub others : (tag : Tag) (xs : List Param) → AllByRecursion (λ q. is_of tag q ≡ false) (without tag xs)
others tag [] = tt
others tag (x ∷ xs) = others_cond tag (is_of tag x) x (without tag xs) refl (others tag xs)

-- none of the others is of the parameter's tag
other_tags : (p : Param) (xs : List Param) → AllByRecursion (λ q. is_of p.tag q ≡ false) xs → AllByRecursion (MayStandBeside p) xs
other_tags p [] h = tt
other_tags p (x ∷ xs) h = ((λ e. absurd (eqb-false (low_of x.tag) (low_of p.tag) h.0 (ap low_of (sym e)))), other_tags p xs h.1)

insert_at : (p : Param) (ps : List Param) (i : ℕ) → i ≤ length ps → ((k : ℕ) (d : Param) → k < i → k < length ps → rank (get_or ps k d) < rank p) → ((k : ℕ) (d : Param) → i ≤ k → k < length ps → rank p < rank (get_or ps k d)) → take i ps ++ p ∷ drop i ps ≡ with_param p ps
insert_at p [] zero le below above = refl
insert_at p [] (suc i) le below above = absurd (omega (arith, le))
insert_at p (q ∷ qs) zero le below above =
    let less : ltb (rank p) (rank q) ≡ true = lt-ltb (rank p) (rank q) (above 0 q (omega arith) (omega arith)) in
    rw less refl
insert_at p (q ∷ qs) (suc i) le below above =
    let over : rank q < rank p = below 0 q (omega arith) (omega arith) in
    let not_less : ltb (rank p) (rank q) ≡ false = le-ltb (rank p) (rank q) (omega (arith, over)) in
    let not_same : eqb (rank p) (rank q) ≡ false = ne_eqb (rank p) (rank q) (λ e. omega (arith, over, e)) in
    rw (not_less, not_same) (ap (λ rs. q ∷ rs) (insert_at p qs i (omega (arith, le)) (λ k d lt in_list. below (suc k) d (omega (arith, lt)) (omega (arith, in_list))) (λ k d ge in_list. above (suc k) d (omega (arith, ge)) (omega (arith, in_list)))))

-- what a search by the rank and an insert lead to
pub record IsInserted (p : Param) (list new : List Param) : Type 0 where
  pub is : new ≡ with_param p (without p.tag list)
  pub canonical : IsCanonical new
  pub len : length new ≤ length list + 1

pub inserted : (p : Param) (list ps new : List Param) (i : ℕ) → Fits p → length list < 65535 → ps ≡ without p.tag list → IsCanonical ps → i ≤ length ps → IsEnd (λ q. ltb (rank q) (rank p)) ps i → new ≡ take i ps ++ p ∷ drop i ps → IsInserted p list new
inserted p list ps new i fits room rest c le end made =
    let apart_all : AllByRecursion (λ q. is_of p.tag q ≡ false) ps = rw rest (others p.tag list) in
    let placed : take i ps ++ p ∷ drop i ps ≡ with_param p ps =
    insert_at p ps i le (λ k d lt in_list. ltb-true (rank (get_or ps k d)) (rank p) (end.0 k d (omega arith) lt))
    (λ k d ge in_list.
    let q : Param = get_or ps k d in
    let at_least : rank p ≤ rank q = ltb-false (rank q) (rank p) (end.1 k d ge in_list) in
    let other : is_of p.tag q ≡ false = all_at (λ r. is_of p.tag r ≡ false) ps apart_all k d in_list in
    let apart : rank p ≡ rank q → ⊥ = λ e. eqb-false (low_of q.tag) (low_of p.tag) other (ap low_of (sym (tag_from_rank p q fits (all_at Fits ps c.fit k d in_list) e))) in
    omega (arith, at_least, apart)) in
    let few : length ps ≤ length list = rw rest (length_filter (λ q. not (is_of p.tag q)) list) in
    let whole : IsCanonical (with_param p ps) = record {
      few = omega (arith, room, few, length-with_param p ps);
      fit = all-with_param Fits p ps fits c.fit;
      ordered = ordered-with_param p ps c.ordered (other_tags p ps apart_all);
    } in
    record {
      is = made ∙ placed ∙ ap (with_param p) rest;
      canonical = subst IsCanonical (sym (made ∙ placed)) whole;
      len = let same : length new ≡ length (with_param p ps) = ap (λ l. length l) (made ∙ placed) in omega (arith, same, few, length-with_param p ps);
    }
