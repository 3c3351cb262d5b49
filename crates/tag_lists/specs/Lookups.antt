-- What a list says of a tag.
use Rattle.std.specs.Prelude.{◌≡◌, ℕ, Bool, true, false, not, ◌&&◌, ◌==◌, List, [], ◌∷◌, Option, None, find, is_some}
use Rattle.std.specs.List.{filter, list_all, list_any}
use Rattle.std.specs.Option.{option_and_then}
use Rattle.tags.specs.declared.tag.Tag.{Tag}
use Rattle.tags.specs.declared.tag.Tag.TheVariants.{Algorithm, Digest}
use Rattle.tags.specs.declared.param.Param.{Param}
use Rattle.tags.specs.declared.param.ParamValue.{ParamValue}
use Rattle.tags.specs.declared.param.ParamValue.TheVariants.{Number, Flag, Raw}
use Rattle.tags.specs.Param.{as_number, as_bytes}
use Rattle.tags.specs.Plan.{is_aes_size}
use Rattle.tags.specs.Tag.{low_of}
use Rattle.tags.specs.Values.{AES, HMAC, DIGESTS, one_in, passes}

-- the parameter is of the tag
abbrev pub is_of : Tag → Param → Bool
is_of tag p = low_of p.tag == low_of tag

-- the parameter's value is this number
abbrev pub is_number : ℕ → ParamValue → Bool
is_number n (Number m) = m == n
is_number n Flag = false
is_number n (Raw bytes) = false

-- the first parameter of the tag
abbrev pub one_of : Tag → List Param → Option Param
one_of tag list = find (is_of tag) list

-- the parameters of the tag
abbrev pub all_of : Tag → List Param → List Param
all_of tag list = filter (is_of tag) list

-- the list without the parameters of the tag
abbrev pub without : Tag → List Param → List Param
without tag list = filter (λ p. not (is_of tag p)) list

-- a parameter of the tag has this number
abbrev pub has_number : Tag → ℕ → List Param → Bool
has_number tag value list = list_any (λ p. is_of tag p && is_number value p.value) list

-- a parameter of the tag stands in the list
abbrev pub stands : Tag → List Param → Bool
stands tag list = is_some (one_of tag list)

-- the number of the tag's first parameter
abbrev pub number_of : Tag → List Param → Option ℕ
number_of tag list = option_and_then (λ p. as_number p.value) (one_of tag list)

-- the bytes of the tag's first parameter
abbrev pub bytes_of : Tag → List Param → Option (List ℕ)
bytes_of tag list = option_and_then (λ p. as_bytes p.value) (one_of tag list)

abbrev pub number_alone : List Param → Option ℕ
number_alone [] = None
number_alone (p ∷ []) = as_number p.value
number_alone (p ∷ q ∷ ps) = None

-- the number of the tag's parameter, where there is exactly one
abbrev pub only_number : Tag → List Param → Option ℕ
only_number tag list = number_alone (all_of tag list)

-- the tag stands exactly once, with this number
abbrev pub is_only : Tag → ℕ → List Param → Bool
is_only tag number list = passes (λ own. own == number) (only_number tag list)

-- each parameter of the tag has a number that passes
abbrev pub each : Tag → (ℕ → Bool) → List Param → Bool
each tag test list = list_all (λ p. passes test (as_number p.value)) (all_of tag list)

-- a key of AES, and one of HMAC
abbrev pub is_aes : List Param → Bool
is_aes key = has_number Algorithm AES key

abbrev pub is_hmac : List Param → Bool
is_hmac key = has_number Algorithm HMAC key

-- what makes a key workable for its cipher: the material of an AES key has 16, 24 or 32 bytes (FIPS 197 section 5), and the
-- digest of an HMAC key is one of SHA-2
pub record IsKey (key : List Param) (size : ℕ) : Type 0 where
  pub aes : is_aes key ≡ true → is_aes_size size ≡ true
  pub hmac : is_hmac key ≡ true → passes (one_in DIGESTS) (number_of Digest key) ≡ true
