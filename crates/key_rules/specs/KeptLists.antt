-- The list that is kept with a new key.
use Rattle.std.specs.Prelude.{ℕ, ◌*◌, Bool, not, List, [], ◌∷◌, Option, Some, None, if◌then◌else◌, unwrap_or}
use Rattle.std.specs.List.{filter, list_all}
use Rattle.tags.specs.declared.param.Param.{Param}
use Rattle.tags.specs.declared.tag.Tag.{Tag}
use Rattle.tags.specs.declared.tag.Tag.TheVariants as tags
use Rattle.tags.specs.Values.{GENERATED, IMPORTED, SECURELY_IMPORTED}
use Rattle.tag_lists.specs.declared.shape.Shape.{Shape}
use Rattle.tag_lists.specs.declared.shape.Shape.TheVariants.{Short}
use Rattle.tag_lists.specs.Lookups.{is_of, number_of, stands}
use Rattle.tag_lists.specs.Versions.{set, with_versions}
use Rattle.key_rules.specs.declared.facts.ImportFacts.{ImportFacts}

-- the tags whose parameters are not the caller's to keep
abbrev pub dropped : List Tag
dropped = tags.ApplicationId ∷ tags.ApplicationData ∷ tags.Nonce ∷ tags.MacLength ∷ tags.Origin ∷ tags.OsVersion ∷ tags.OsPatchlevel ∷ []

abbrev pub is_kept : Param → Bool
is_kept p = list_all (λ tag. not (is_of tag p)) dropped

-- the caller's parameters that are kept
abbrev pub own : List Param → List Param
own list = filter is_kept list

-- the list with this number where the tag is not there
abbrev pub set_missing : Tag → ℕ → List Param → List Param
set_missing tag number list = if stands tag list then list else set tag number list

-- an import's size in bits, where KEY_SIZE is not there
abbrev pub with_size : Option ImportFacts → List Param → List Param
with_size None list = list
with_size (Some import) list = set_missing tags.KeySize (8 * import.length) list

-- GENERATED or IMPORTED; SECURELY_IMPORTED where the import came wrapped
abbrev pub origin : Option ImportFacts → Bool → ℕ
origin None wrapped = GENERATED
origin (Some import) wrapped = if wrapped then SECURELY_IMPORTED else IMPORTED

-- The kept list: the caller's without the tags that are dropped, with CREATION_DATETIME and an import's KEY_SIZE where
-- the caller gave none, with ORIGIN, and with OS_VERSION and OS_PATCHLEVEL of the device.
unfoldable pub kept : Option ImportFacts → Bool → ℕ → ℕ → ℕ → List Param → List Param
kept import wrapped wall os patch list = with_versions os patch (set tags.Origin (origin import wrapped) (with_size import (set_missing tags.CreationDatetime wall (own list))))

-- the most bytes of a parameter with a number of this shape: four of the tag, and the number's 32 bits or a date's 64
abbrev pub most_bytes : Shape → ℕ
most_bytes Short = 8
most_bytes _ = 12

-- the use limit, or 0
unfoldable pub limit : List Param → ℕ
limit list = unwrap_or (number_of tags.UsageCountLimit list) 0
