-- The value of a line, and an alias in it, by whether their bytes are UTF-8.
use Rattle.std.proofs.Common.{◌≡◌, ℕ, List, Bool, true, false, if◌then◌else◌, Option, Some, None, codes, refl}
use Rattle.std.specs.Str.{IsUtf8, is_utf8}
use Rattle.std.proofs.lemmas.Str.{IsUtf8-from_is_utf8, is_utf8-from_IsUtf8}
use Rattle.serde_json.specs.Data.{Data, string, object, no_members, put}
use Rattle.serde_json.specs.Read.{read}
use Rattle.serde_json.specs.Find.{as_str}
use Rattle.line_members.specs.Members.{parsed, text_of, alias_of}
use Rattle.line_members.specs.declared.alias_form.AliasForm.{AliasForm}
use Rattle.line_members.specs.Values.{hex_data, alias_data}

none_unless : (b : Bool) (o : Option Data) → (b ≡ true → ⊥) → (if b then o else None) ≡ None
none_unless true o h = absurd (h refl)
none_unless false o h = refl

pub parsed_none : (line : List ℕ) → (IsUtf8 line → ⊥) → parsed line ≡ None
parsed_none line h = none_unless (is_utf8 line) (read line) (λ e. h (IsUtf8-from_is_utf8 line e))

pub parsed_as_read : (line : List ℕ) (o : Option Data) → IsUtf8 line → read line ≡ o → parsed line ≡ o
parsed_as_read line o text h = rw (is_utf8-from_IsUtf8 line text) h

-- ---- an alias

one_of_two : (b : Bool) (x y : Data) → (b ≡ true → ⊥) → (if b then x else y) ≡ y
one_of_two true x y h = absurd (h refl)
one_of_two false x y h = refl

pub alias_is_text : (alias : List ℕ) → IsUtf8 alias → alias_data alias ≡ string alias
alias_is_text alias text = rw (is_utf8-from_IsUtf8 alias text) refl

pub alias_is_hex : (alias : List ℕ) → (IsUtf8 alias → ⊥) → alias_data alias ≡ object (put (codes "hex") (hex_data alias) no_members)
alias_is_hex alias none = one_of_two (is_utf8 alias) _ _ (λ e. none (IsUtf8-from_is_utf8 alias e))

text_given : (value : Data) (text : List ℕ) → as_str value ≡ Some text → IsUtf8 text → text_of value ≡ Some text
text_given value text found utf8 = rw (found, is_utf8-from_IsUtf8 text utf8) refl

pub alias_given : (form : AliasForm) (value : Data) (text : List ℕ) → as_str value ≡ Some text → IsUtf8 text → alias_of form value ≡ Some text
alias_given form value text found utf8 = rw (text_given value text found utf8) refl
