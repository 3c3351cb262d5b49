-- What is found in a value is of its kind: a number of its width, bytes, a text of UTF-8.
use Rattle.std.proofs.Common.{◌≡◌, ◌<◌, ◌^◌, ◌==◌, ℕ, List, length, nat_lt, Bool, true, false, if◌then◌else◌, Option, Some, None, Result, Ok, Err, IfSome, refl, subst}
use Rattle.std.proofs.lemmas.Bool.{ltb-true}
use Rattle.std.proofs.lemmas.Bool.Decides.{Decides-eqb}
use Rattle.std.specs.Str.{is_utf8}
use Rattle.hex.specs.Hex.{IsBytes, decode_of}
use Rattle.hex.specs.declared.error.FromHexError.{FromHexError}
use Rattle.hex.proofs.HexLemmas.{decode_of-ok}
use Rattle.serde_json.specs.Data.{Data}
use Rattle.serde_json.specs.Find.{get, as_str}
use Rattle.line_members.specs.Members.{◌>>=◌, ok_of, bytes_of_hex, u64_of, u32_of, hex_of, hex_32_of, text_or, text_of, alias_of, needed, defaulted, optional, present, kind_or}
use Rattle.line_members.specs.Whole.{IsAlias, Is32Bytes}
use Rattle.line_members.specs.declared.alias_form.AliasForm.TheVariants.{Text}

-- what both found
pub both_found : {A B : Type 0} (o : Option A) (f : A → Option B) (y : B) → (o >>= f) ≡ Some y → (x : A) × (o ≡ Some x) × (f x ≡ Some y)
both_found None f y h = absurd cc
both_found (Some x) f y h = (x, refl, h)

where_given : {A : Type 0} (b : Bool) (x y : A) → (if b then Some x else None) ≡ Some y → (b ≡ true) × (x ≡ y)
where_given true x y h = (refl, cc)
where_given false x y h = absurd cc

pub some_is : {A : Type 0} (x y : A) → Some x ≡ Some y → x ≡ y
some_is x y h = cc

ok_given : {T : Type 0} (r : Result T FromHexError) (x : T) → ok_of r ≡ Some x → r ≡ Ok x
ok_given (Ok y) x h = cc
ok_given (Err e) x h = absurd cc

-- ---- kinds

pub short_found : (value : Data) (n : ℕ) → u32_of value ≡ Some n → n < 2 ^ 32
short_found value n h =
    let whole = both_found (u64_of value) _ n h in
    let short = where_given (nat_lt whole.0 (2 ^ 32)) whole.0 n whole.2 in
    rw (← short.1) (ltb-true whole.0 (2 ^ 32) short.0)

pub hex_text_found : (text bytes : List ℕ) → bytes_of_hex text ≡ Some bytes → IsBytes bytes
hex_text_found text bytes h = (decode_of-ok text bytes (ok_given (decode_of text) bytes h)).3

pub hex_found : (value : Data) (bytes : List ℕ) → hex_of value ≡ Some bytes → IsBytes bytes
hex_found value bytes h =
    let text = both_found (as_str value) bytes_of_hex bytes h in
    hex_text_found text.0 bytes text.2

pub hex_32_found : (value : Data) (bytes : List ℕ) → hex_32_of value ≡ Some bytes → Is32Bytes bytes
hex_32_found value bytes h =
    let whole = both_found (hex_of value) _ bytes h in
    let sized = where_given (length whole.0 == 32) whole.0 bytes whole.2 in
    rw (← sized.1) (hex_found value whole.0 whole.1, (Decides-eqb (length whole.0) 32).0 sized.0)

text_alone : (o : Option (List ℕ)) (text : List ℕ) → (o >>= λ t. if is_utf8 t then Some t else None) ≡ Some text → is_utf8 text ≡ true
text_alone o text h =
    let whole = both_found o _ text h in
    let valid = where_given (is_utf8 whole.0) whole.0 text whole.2 in
    rw (← valid.1) valid.0

no_other : (o : Option (List ℕ)) (alias : List ℕ) → text_or o None ≡ Some alias → o ≡ Some alias
no_other None alias h = absurd cc
no_other (Some text) alias h = h

-- an alias of a script
pub alias_found : (value : Data) (alias : List ℕ) → alias_of Text value ≡ Some alias → IsAlias Text alias
alias_found value alias h = text_alone (as_str value) alias (no_other (text_of value) alias h)

-- ---- members

pub needed_found : {A : Type 0} (Q : A → Type 0) (kind : Data → Option A) (name : List ℕ) (members : Data) (x : A) → ((value : Data) (y : A) → kind value ≡ Some y → Q y) → needed kind name members ≡ Some x → Q x
needed_found Q kind name members x each h =
    let value = both_found (get name members) kind x h in
    each value.0 x value.2

either_found : {A : Type 0} (Q : A → Type 0) (default : A) (kind : Data → Option A) (o : Option Data) (x : A) → Q default → ((value : Data) (y : A) → kind value ≡ Some y → Q y) → kind_or default kind o ≡ Some x → Q x
either_found Q default kind None x first each h = subst Q (some_is default x h) first
either_found Q default kind (Some value) x first each h = each value x h

pub defaulted_found : {A : Type 0} (Q : A → Type 0) (default : A) (kind : Data → Option A) (name : List ℕ) (members : Data) (x : A) → Q default → ((value : Data) (y : A) → kind value ≡ Some y → Q y) → defaulted default kind name members ≡ Some x → Q x
defaulted_found Q default kind name members x first each h = either_found Q default kind (get name members) x first each h

there_found : {A : Type 0} (Q : A → Type 0) (kind : Data → Option A) → ((value : Data) (y : A) → kind value ≡ Some y → Q y) → (value : Data) (o : Option A) → present kind value ≡ Some o → IfSome o Q
there_found Q kind each value o h =
    let whole = both_found (kind value) _ o h in
    subst (λ it. IfSome it Q) (some_is (Some whole.0) o whole.2) (each value whole.0 whole.1)

pub optional_found : {A : Type 0} (Q : A → Type 0) (kind : Data → Option A) (name : List ℕ) (members : Data) (o : Option A) → ((value : Data) (y : A) → kind value ≡ Some y → Q y) → optional kind name members ≡ Some o → IfSome o Q
optional_found Q kind name members o each h = either_found (λ it. IfSome it Q) None (present kind) (get name members) o tt (there_found Q kind each) h
