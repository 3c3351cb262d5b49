-- What a search by number says in two clauses, as one equation.
use Rattle.std.proofs.Common.{◌≡◌, ℕ, Bool, false, List, [], ◌∷◌, Option, Some, None, refl, sym, ap, ◌∙◌}
use Rattle.std.specs.Prelude.{◌≢◌, find, ◌==◌, IfSome, IfNone}
use Rattle.std.proofs.lemmas.Bool.{ne_eqb}
use Rattle.tags.specs.declared.tag.Tag.{Tag}
use Rattle.tags.specs.Tag.{low_of, number_of, all_tags, tag_numbered, tag_with_low}
use Rattle.tags.specs.TagLaws.{numbered_is, with_low_is}

find_none : {X : Type 0} (p : X → Bool) → ((x : X) → p x ≡ false) → (xs : List X) → find p xs ≡ None
find_none p fails [] = refl
find_none p fails (x ∷ xs) = rw (fails x) (find_none p fails xs)

pub told_number : (number : ℕ) (r : Option Tag) → IfSome r (λ t. number_of t ≡ number) → IfNone r ((t : Tag) → number_of t ≢ number) → r ≡ tag_numbered number
unfolding tag_numbered
told_number number (Some t) found none = sym (numbered_is t) ∙ ap tag_numbered found
told_number number None found none = sym (find_none (λ tag. number_of tag == number) (λ t. ne_eqb _ _ (none t)) all_tags)

pub told_low : (low : ℕ) (r : Option Tag) → IfSome r (λ t. low_of t ≡ low) → IfNone r ((t : Tag) → low_of t ≢ low) → r ≡ tag_with_low low
unfolding tag_with_low
told_low low (Some t) found none = sym (with_low_is t) ∙ ap tag_with_low found
told_low low None found none = sym (find_none (λ tag. low_of tag == low) (λ t. ne_eqb _ _ (none t)) all_tags)
