-- Leaving out one tag after the other leaves what has none of them.
use Rattle.std.proofs.Common.{◌≡◌, Bool, true, false, not, ◌&&◌, cond, List, [], ◌∷◌, refl, ap, ◌∙◌}
use Rattle.std.specs.List.{filter, list_all}
use Rattle.tags.specs.declared.tag.Tag.{Tag}
use Rattle.tags.specs.declared.param.Param.{Param}
use Rattle.tag_lists.specs.Lookups.{is_of, without}

abbrev pub without_all : List Tag → List Param → List Param
without_all [] list = list
without_all (tag ∷ tags) list = without_all tags (without tag list)

abbrev pub has_none : List Tag → Param → Bool
has_none tags p = list_all (λ tag. not (is_of tag p)) tags

filter_both : (p q : Param → Bool) (xs : List Param) → filter q (filter p xs) ≡ filter (λ x. p x && q x) xs
filter_both p q [] = refl
filter_both p q (x ∷ xs) =
    elim (p x) as (λ b. filter q (cond b (x ∷ filter p xs) (filter p xs)) ≡ cond (b && q x) (x ∷ filter (λ y. p y && q y) xs) (filter (λ y. p y && q y) xs))
    [ true ↦ ap (λ ys. cond (q x) (x ∷ ys) ys) (filter_both p q xs) | false ↦ filter_both p q xs ]

filter_every : (xs : List Param) → xs ≡ filter (λ x. true) xs
filter_every [] = refl
filter_every (x ∷ xs) = ap (λ ys. x ∷ ys) (filter_every xs)

pub without_all_is : (tags : List Tag) (list : List Param) → without_all tags list ≡ filter (has_none tags) list
without_all_is [] list = filter_every list
without_all_is (tag ∷ tags) list = without_all_is tags (without tag list) ∙ filter_both (λ p. not (is_of tag p)) (has_none tags) list
