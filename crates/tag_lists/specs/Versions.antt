-- The versions that a list names, of the operating system and of its patches: those of the system under which its key was made or
-- last upgraded (Android's KeyMint, OS_VERSION and OS_PATCHLEVEL).
use Rattle.std.specs.Prelude.{ℕ, Bool, ◌&&◌, ◌||◌, nat_le, List, length, if◌then◌else◌, unwrap_or}
use Rattle.tags.specs.declared.param.Param.{Param}
use Rattle.tags.specs.declared.param.ParamValue.TheVariants.{Number}
use Rattle.tags.specs.declared.tag.Tag.{Tag}
use Rattle.tags.specs.declared.tag.Tag.TheVariants.{OsVersion, OsPatchlevel}
use Rattle.tag_lists.specs.Lookups.{is_of, number_of, without}
use Rattle.tag_lists.specs.Order.{with_param}
use Rattle.tag_lists.specs.Spelling.{spelled}

-- the number of the tag; a list without the tag has 0 for it
abbrev pub version_of : Tag → List Param → ℕ
version_of tag list = unwrap_or (number_of tag list) 0

-- neither version of the list is greater than the system's
abbrev pub is_no_newer : ℕ → ℕ → List Param → Bool
is_no_newer os patch list = nat_le (version_of OsVersion list) os && nat_le (version_of OsPatchlevel list) patch

-- neither is less
abbrev pub is_no_older : ℕ → ℕ → List Param → Bool
is_no_older os patch list = nat_le os (version_of OsVersion list) && nat_le patch (version_of OsPatchlevel list)

-- a number as a parameter
abbrev pub numbered : Tag → ℕ → Param
numbered tag number = record { tag = tag; value = Number number }

-- the list with this number as the tag's one parameter
abbrev pub set : Tag → ℕ → List Param → List Param
set tag number list = with_param (numbered tag number) (without tag list)

-- the list with the versions of a system, also where they are 0
abbrev pub with_versions : ℕ → ℕ → List Param → List Param
with_versions os patch list = set OsPatchlevel patch (set OsVersion os list)

-- how many bytes a parameter takes that says no version
abbrev pub size_beside : Param → ℕ
size_beside p = if is_of OsVersion p || is_of OsPatchlevel p then 0 else length (spelled p)
