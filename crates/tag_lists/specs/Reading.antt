-- What bytes spell as an authorization list, or the fault of least offset. Of several faults of one parameter the first
-- of UnknownTag, WrongKind, Repeated and Truncated is given.
use Rattle.std.specs.Prelude.{◌≡◌, ℕ, zero, suc, ◌-◌, ◌^◌, ◌%◌, Bool, false, not, ◌&&◌, ◌==◌, List, [], ◌∷◌, length, if◌then◌else◌}
use Rattle.std.specs.Prelude.{Option, Some, None, is_some, Result, Ok, Err}
use Rattle.std.specs.List.{list_any}
use Rattle.std.specs.Option.{ok_or}
use Rattle.byte_strings.specs.Readers.{byte_at, number_at, counted_at}
use Rattle.tags.specs.declared.tag.Tag.{Tag}
use Rattle.tags.specs.declared.param.Param.{Param}
use Rattle.tags.specs.declared.param.ParamValue.{ParamValue}
use Rattle.tags.specs.declared.param.ParamValue.TheVariants.{Number, Flag, Raw}
use Rattle.tags.specs.Tag.{type_of, low_of, repeats, tag_numbered, tag_with_low}
use Rattle.tag_lists.specs.declared.fault.ListFault.{ListFault}
use Rattle.tag_lists.specs.declared.fault.ListFault.TheVariants.{UnknownTag, WrongKind, Repeated, Truncated, Trailing, Memory}
use Rattle.tag_lists.specs.declared.shape.Shape.{Shape}
use Rattle.tag_lists.specs.declared.shape.Shape.TheVariants as shapes
use Rattle.tag_lists.specs.Order.{shape_of, with_param}

infixl 10 ◌>>=◌
abbrev pub ◌>>=◌ : {A B : Type 0} → Result A ListFault → (A → Result B ListFault) → Result B ListFault
(Ok x) >>= f = f x
(Err e) >>= f = Err e

-- What a call returned, seen by view, is what reading gives, unless memory ran out.
abbrev pub Fails : {Y : Type 0} → ListFault → Result Y ListFault → Type 0
Fails Memory read = Unit {0}
Fails (UnknownTag at) read = read ≡ Err (UnknownTag at)
Fails (WrongKind at) read = read ≡ Err (WrongKind at)
Fails (Repeated at) read = read ≡ Err (Repeated at)
Fails (Truncated at) read = read ≡ Err (Truncated at)
Fails (Trailing at) read = read ≡ Err (Trailing at)

abbrev pub Gives : {X Y : Type 0} → (X → Y) → Result X ListFault → Result Y ListFault → Type 0
Gives view (Ok x) read = read ≡ Ok (view x)
Gives view (Err e) read = Fails e read

-- a parameter of the tag was read
abbrev pub was_read : Tag → List Param → Bool
was_read tag ps = list_any (λ p. low_of p.tag == low_of tag) ps

-- a flag is not the byte 01
abbrev pub is_wrong_flag : Shape → List ℕ → Bool
is_wrong_flag shapes.Truth (b ∷ bytes) = not (b == 1)
is_wrong_flag _ _ = false

-- what is read of bytes that do not end within it
abbrev pub whole_at : {X : Type 0} → ℕ → Option X → Result X ListFault
whole_at at read = ok_or read (Truncated at)

-- a value, and what stands behind it
abbrev pub value_at : ℕ → Shape → List ℕ → Result (ParamValue × List ℕ) ListFault
value_at at shapes.Short bytes = whole_at at (number_at 4 bytes) >>= λ n. Ok (Number n.0, n.1)
value_at at shapes.Long bytes = whole_at at (number_at 8 bytes) >>= λ n. Ok (Number n.0, n.1)
value_at at shapes.Truth bytes = whole_at at (byte_at bytes) >>= λ byte. Ok (Flag, byte.1)
value_at at shapes.Sized bytes = whole_at at (counted_at 2 bytes) >>= λ raw. Ok (Raw raw.0, raw.1)

-- the parameter of a known tag, behind others
unfoldable pub known_at : ℕ → List Param → Tag → List ℕ → Result (Param × List ℕ) ListFault
known_at at before tag bytes =
    if is_wrong_flag (shape_of (type_of tag)) bytes then Err (WrongKind at) else
    if not (repeats (type_of tag)) && was_read tag before then Err (Repeated at) else
    (value_at at (shape_of (type_of tag)) bytes >>= λ v. Ok (record { tag = tag; value = v.0 }, v.1))

-- the parameter of a tag's number, behind others
abbrev pub tagged_at : ℕ → List Param → ℕ → Option Tag → List ℕ → Result (Param × List ℕ) ListFault
tagged_at at before number None bytes = if is_some (tag_with_low (number % 2 ^ 28)) then Err (WrongKind at) else Err (UnknownTag at)
tagged_at at before number (Some tag) bytes = known_at at before tag bytes

-- the parameter at an offset, behind others, and what stands behind it
unfoldable pub param_at : ℕ → List Param → List ℕ → Result (Param × List ℕ) ListFault
param_at at before bytes =
    whole_at at (number_at 4 bytes) >>= λ number. tagged_at at before number.0 (tag_numbered number.0) number.1

-- so many parameters, added to those before; `total` is the length of all bytes
unfoldable pub params_at : ℕ → ℕ → List Param → List ℕ → Result (List Param × List ℕ) ListFault
params_at zero total before bytes = Ok (before, bytes)
params_at (suc n) total before bytes = do
  p ← param_at (total - length bytes) before bytes
  params_at n total (with_param p.0 before) p.1

-- nothing may stand behind the last parameter
abbrev pub whole : ℕ → List Param × List ℕ → Result (List Param) ListFault
whole total read = if length read.1 == 0 then Ok read.0 else Err (Trailing (total - length read.1))

-- the list that the bytes spell, or the fault of least offset
unfoldable pub listed : List ℕ → Result (List Param) ListFault
listed bytes =
    whole_at 0 (number_at 2 bytes) >>= λ count. (params_at count.0 (length bytes) [] count.1 >>= λ read. whole (length bytes) read)
