-- An id of a list whose ids are short is short.
use Rattle.std.proofs.Common.{◌≡◌, ◌≤◌, ℕ, true, sym, List, [], ◌∷◌, length, Some, subst}
use Rattle.std.specs.Prelude.{slice_get}
use Rattle.std.specs.List.{list_all}
use Rattle.std.specs.Option.{option_and_then}
use Rattle.std.proofs.lemmas.Bool.{and_parts, false≢true, leb-true}
use Rattle.tags.specs.declared.param.Param.{Param}
use Rattle.tags.specs.declared.param.ParamValue.{ParamValue}
use Rattle.tags.specs.declared.param.ParamValue.TheVariants.{Number, Flag, Raw}
use Rattle.tags.specs.declared.tag.Tag.{Tag}
use Rattle.tags.specs.Param.{as_bytes}
use Rattle.tag_lists.specs.Lookups.{bytes_of, is_of}
use Rattle.tag_lists.proofs.Lookups.{find-filter}
use Rattle.key_rules.specs.Creation.{IsShortId}
use Rattle.key_rules.specs.Rules.{each_short, is_short}

short_value : (v : ParamValue) → is_short v ≡ true → IsShortId (as_bytes v)
short_value (Number n) e = absurd (false≢true e)
short_value Flag e = absurd (false≢true e)
short_value (Raw bytes) e = leb-true _ _ e

short_alone : (ps : List Param) → list_all (λ p. is_short p.value) ps ≡ true → IsShortId (option_and_then (λ p. as_bytes p.value) (slice_get ps 0))
short_alone [] e = tt
short_alone (p ∷ ps) e = short_value p.value (and_parts (is_short p.value) (list_all (λ q. is_short q.value) ps) e).0

pub short_id : (tag : Tag) (list : List Param) → each_short tag list ≡ true → IsShortId (bytes_of tag list)
short_id tag list e = subst (λ o. IsShortId (option_and_then (λ p. as_bytes p.value) o)) (find-filter (is_of tag) list) (short_alone _ e)

-- and so is a copy of it
pub short_copy : (tag : Tag) (list : List Param) (bytes copy : List ℕ) → each_short tag list ≡ true → bytes_of tag list ≡ Some bytes → copy ≡ bytes → length copy ≤ 1024
short_copy tag list bytes copy short found same =
    subst (λ (l : List ℕ). length l ≤ 1024) (sym same) (subst IsShortId found (short_id tag list short))
