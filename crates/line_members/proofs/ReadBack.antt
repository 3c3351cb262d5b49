-- A value that is written is read back as it.
use Rattle.std.proofs.Common.{◌≡◌, ◌<◌, ◌^◌, ℕ, List, length, nat_lt, ◌==◌, Bool, true, false, true≢false, if◌then◌else◌, Some, None, codes, refl, sym, ap}
use Rattle.std.proofs.lemmas.Bool.{lt-ltb}
use Rattle.std.specs.Str.{is_utf8}
use Rattle.hex.specs.Hex.{IsBytes}
use Rattle.hex.proofs.HexLemmas.{decode_of-encode_lower}
use Rattle.serde_json.specs.Data.{Data, string, object, no_members, put}
use Rattle.line_members.specs.Members.{u32_of, hex_of, hex_32_of, ok_of, alias_of}
use Rattle.line_members.specs.Values.{number_data, hex_data, alias_data}
use Rattle.line_members.specs.Whole.{IsAlias, Is32Bytes}
use Rattle.line_members.specs.declared.alias_form.AliasForm.{AliasForm}
use Rattle.line_members.specs.declared.alias_form.AliasForm.TheVariants.{Text, TextOrHex}

where_true : {A : Type 0} (b : Bool) (x : A) → b ≡ true → (if b then Some x else None) ≡ Some x
where_true true x h = refl
where_true false x h = cc

pub number_back : (n : ℕ) → n < 2 ^ 32 → u32_of (number_data n) ≡ Some n
number_back n h = where_true (nat_lt n (2 ^ 32)) n (lt-ltb n (2 ^ 32) h)

pub hex_back : (bytes : List ℕ) → IsBytes bytes → hex_of (hex_data bytes) ≡ Some bytes
hex_back bytes h = ap ok_of (decode_of-encode_lower bytes h)

pub hex_32_back : (bytes : List ℕ) → Is32Bytes bytes → hex_32_of (hex_data bytes) ≡ Some bytes
hex_32_back bytes h = rw (hex_back bytes h.0) (where_true (length bytes == 32) bytes (rw h.1 refl))

alias_in_hex : (b : Bool) (alias : List ℕ) → is_utf8 alias ≡ b → IsBytes alias → alias_of TextOrHex (if b then string alias else object (put (codes "hex") (hex_data alias) no_members)) ≡ Some alias
alias_in_hex true alias text h = rw text refl
alias_in_hex false alias text h = hex_back alias h

alias_in_text : (b : Bool) (alias : List ℕ) (other : Data) → is_utf8 alias ≡ b → b ≡ true → alias_of Text (if b then string alias else other) ≡ Some alias
alias_in_text true alias other text h = rw text refl
alias_in_text false alias other text h = absurd (true≢false (sym h))

pub alias_back : (form : AliasForm) (alias : List ℕ) → IsAlias form alias → alias_of form (alias_data alias) ≡ Some alias
alias_back Text alias h = alias_in_text (is_utf8 alias) alias _ refl h
alias_back TextOrHex alias h = alias_in_hex (is_utf8 alias) alias refl h
