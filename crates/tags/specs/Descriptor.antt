-- The forms of a descriptor.
use Rattle.std.specs.Prelude.{ℕ, Bool, false, ◌&&◌, nat_le, List, Option, Some, None, length}
use Rattle.std.specs.Str.{is_utf8}
use Rattle.tags.specs.declared.descriptor.Descriptor.{Descriptor}
use Rattle.tags.specs.declared.limits.TheConstants.{ALIAS_BYTES}

-- UTF-8 of a byte and more, and at most the most bytes of an alias
abbrev pub is_alias : List ℕ → Bool
is_alias alias = nat_le 1 (length alias) && (nat_le (length alias) ALIAS_BYTES && is_utf8 alias)

-- there is an alias, of such bytes
abbrev pub has_alias_in : Option (List ℕ) → Bool
has_alias_in None = false
has_alias_in (Some alias) = is_alias alias

abbrev pub has_alias : Descriptor → Bool
has_alias descriptor = has_alias_in descriptor.alias
