-- The tag of a number, and of 28 low bits.
use Rattle.std.proofs.Common.{◌≡◌, ℕ, Bool, true, false, cond, List, [], ◌∷◌, Some, refl, sym, ap, ◌∙◌}
use Rattle.std.specs.Prelude.{find, nat_lt, ◌==◌, ◌<◌, ◌^◌}
use Rattle.std.specs.List.{list_all}
use Rattle.std.proofs.lemmas.Bool.{and_parts, eqb-true, ltb-true}
use Rattle.tags.specs.declared.tag.Tag.{Tag}
use Rattle.tags.specs.Tag.{low_of, number_of, all_tags, tag_numbered, tag_with_low}
use Rattle.tags.specs.TagLaws.{numbered_is, with_low_is}

-- what a search finds passes the test
find_passes : {X : Type 0} (p : X → Bool) (xs : List X) (y : X) → find p xs ≡ Some y → p y ≡ true
find_passes p [] y e = absurd cc
find_passes p (x ∷ xs) y e = elim (p x) as (λ b. p x ≡ b → cond b (Some x) (find p xs) ≡ Some y → p y ≡ true) [
  | true ↦ λ is same. let yes : x ≡ y = cc in ap p (sym yes) ∙ is
  | false ↦ λ is same. find_passes p xs y same
] refl e

-- a tag is told by its low bits
some_is : {X : Type 0} (x y : X) → Some x ≡ Some y → x ≡ y
some_is x y e = cc

pub tag_from_low : (s t : Tag) → low_of s ≡ low_of t → s ≡ t
tag_from_low s t e = some_is s t (sym (with_low_is s) ∙ ap tag_with_low e ∙ with_low_is t)

pub number_from_tag : (number : ℕ) (t : Tag) → tag_numbered number ≡ Some t → number_of t ≡ number
unfolding tag_numbered
number_from_tag number t e = eqb-true _ _ (find_passes (λ tag. number_of tag == number) all_tags t e)

-- what a search finds has what all have
find_has : {X : Type 0} (p q : X → Bool) (xs : List X) (y : X) → list_all q xs ≡ true → find p xs ≡ Some y → q y ≡ true
find_has p q [] y all e = absurd cc
find_has p q (x ∷ xs) y all e =
    let parts = and_parts (q x) (list_all q xs) all in
    elim (p x) as (λ b. cond b (Some x) (find p xs) ≡ Some y → q y ≡ true) [
      | true ↦ λ same. let yes : x ≡ y = cc in ap q (sym yes) ∙ parts.0
      | false ↦ λ same. find_has p q xs y parts.1 same
    ] e

-- a tag's number has four bytes
pub number_fits : (t : Tag) → number_of t < 256 ^ 4
unfolding tag_numbered
number_fits t = ltb-true _ _ (find_has (λ tag. number_of tag == number_of t) (λ tag. nat_lt (number_of tag) (256 ^ 4)) all_tags t refl (numbered_is t))
