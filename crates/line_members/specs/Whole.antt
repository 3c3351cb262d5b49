-- Which values are read back as they were written.
use Rattle.std.specs.Prelude.{◌≡◌, ℕ, List, length, true}
use Rattle.std.specs.Str.{is_utf8}
use Rattle.hex.specs.Hex.{IsBytes}
use Rattle.line_members.specs.declared.alias_form.AliasForm.{AliasForm}
use Rattle.line_members.specs.declared.alias_form.AliasForm.TheVariants.{Text, TextOrHex}

-- UTF-8 where it is a text, any bytes where it may be hex
abbrev pub IsAlias : AliasForm → List ℕ → Type 0
IsAlias Text alias = is_utf8 alias ≡ true
IsAlias TextOrHex alias = IsBytes alias

abbrev pub Is32Bytes : List ℕ → Type 0
Is32Bytes bytes = IsBytes bytes × (length bytes ≡ 32)
