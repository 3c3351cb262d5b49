-- A list that reads is spelled in no more bytes than it was read from, whatever numbers stand for the bytes.
use Rattle.std.proofs.Common.{◌≡◌, ℕ, zero, suc, ◌-◌, ◌+◌, ◌^◌, ◌%◌, ◌≤◌, ◌==◌, Bool, true, false, not, ◌&&◌, cond, List, [], ◌∷◌, length, length-append, Option, Some, None, Result, Ok, Err, subst, arith}
use Rattle.std.specs.Prelude.{is_some}
use Rattle.byteorder.specs.Endian.{big_bytes}
use Rattle.byteorder.specs.Numbers.{length-bytes_high_first}
use Rattle.tags.specs.declared.tag.Tag.{Tag}
use Rattle.tags.specs.declared.param.Param.{Param}
use Rattle.tags.specs.declared.param.ParamValue.{ParamValue}
use Rattle.tags.specs.declared.param.ParamValue.TheVariants.{Number, Flag, Raw}
use Rattle.tags.specs.Tag.{type_of, number_of, repeats, tag_numbered, tag_with_low}
use Rattle.tag_lists.specs.declared.fault.ListFault.{ListFault}
use Rattle.tag_lists.specs.declared.fault.ListFault.TheVariants.{UnknownTag, WrongKind, Repeated, Trailing}
use Rattle.tag_lists.specs.declared.shape.Shape.{Shape}
use Rattle.tag_lists.specs.declared.shape.Shape.TheVariants.{Short, Long, Truth, Sized}
use Rattle.tag_lists.specs.Order.{shape_of, with_param}
use Rattle.tag_lists.specs.Reading.{◌>>=◌, was_read, is_wrong_flag, whole_at, value_at, known_at, tagged_at, param_at, params_at, whole, listed}
use Rattle.tag_lists.specs.Spelling.{spelled, spelled_value, spelling}
use Rattle.byte_strings.specs.Readers.{Reader, number_at, counted_at}
use Rattle.byte_strings.proofs.Fields.{number_size, counted_size}
use Rattle.tag_lists.proofs.Fields.{bind_ok, guard_ok, ok_is, whole_is, made_of}
use Rattle.tag_lists.proofs.Sizes.{small_with}

-- what was read is spelled in no more bytes than were taken from the front
abbrev TakesValue : Shape → List ℕ → ParamValue × List ℕ → Type 0
TakesValue shape bytes v = length (spelled_value shape v.0) + length v.1 ≤ length bytes

abbrev TakesParam : List ℕ → Param × List ℕ → Type 0
TakesParam bytes x = length (spelled x.0) + length x.1 ≤ length bytes

-- a value that is a field, of which a reader takes what its spelling has
field_size : {A : Type 0} (shape : Shape) (f : Reader A) (make : A → ParamValue) → ((bytes : List ℕ) (x : A) (rest : List ℕ) → f bytes ≡ Some (x, rest) → TakesValue shape bytes (make x, rest))
    → (at : ℕ) (bytes : List ℕ) (v : ParamValue × List ℕ) → made_of make at (f bytes) ≡ Ok v → TakesValue shape bytes v
field_size {A = A} shape f make sized at bytes v e =
    let b = bind_ok (whole_at at (f bytes)) (λ (x : A × List ℕ). Ok (make x.0, x.1)) v e in
    subst (TakesValue shape bytes) (ok_is (make b.0.0, b.0.1) v b.2) (sized bytes b.0.0 b.0.1 (whole_is at (f bytes) b.0 b.1))

value_size : (shape : Shape) (at : ℕ) (bytes : List ℕ) (v : ParamValue × List ℕ) → value_at at shape bytes ≡ Ok v → TakesValue shape bytes v
value_size Short at bytes v e = field_size Short (number_at 4) (λ n. Number n) (λ bytes n rest read. omega (arith, number_size 4 bytes n rest read, length-bytes_high_first 4 n)) at bytes v e
value_size Long at bytes v e = field_size Long (number_at 8) (λ n. Number n) (λ bytes n rest read. omega (arith, number_size 8 bytes n rest read, length-bytes_high_first 8 n)) at bytes v e
value_size Truth at [] v e = absurd cc
value_size Truth at (b ∷ bytes) v e = subst (TakesValue Truth (b ∷ bytes)) (ok_is (Flag, bytes) v e) (omega arith)
value_size Sized at bytes v e = field_size Sized (counted_at 2) (λ text. Raw text) (λ bytes text rest read. omega (arith, counted_size 2 bytes text rest read)) at bytes v e

-- the value of a known tag
known_size : (at : ℕ) (before : List Param) (tag : Tag) (bytes : List ℕ) (x : Param × List ℕ) → known_at at before tag bytes ≡ Ok x
    → length (spelled_value (shape_of (type_of x.0.tag)) x.0.value) + length x.1 ≤ length bytes
unfolding known_at
known_size at before tag bytes x e =
    let read : Result (Param × List ℕ) ListFault = value_at at (shape_of (type_of tag)) bytes >>= λ v. Ok (record { tag = tag; value = v.0 }, v.1) in
    let a = guard_ok (is_wrong_flag (shape_of (type_of tag)) bytes) (WrongKind at) (cond (not (repeats (type_of tag)) && was_read tag before) (Err (Repeated at)) read) x e in
    let b = guard_ok (not (repeats (type_of tag)) && was_read tag before) (Repeated at) read x a.1 in
    let v = bind_ok (value_at at (shape_of (type_of tag)) bytes) (λ v. Ok (record { tag = tag; value = v.0 }, v.1)) x b.1 in
    let made : Param × List ℕ = (record { tag = tag; value = v.0.0 }, v.0.1) in
    subst (λ (y : Param × List ℕ). length (spelled_value (shape_of (type_of y.0.tag)) y.0.value) + length y.1 ≤ length bytes) (ok_is made x v.2)
    (value_size (shape_of (type_of tag)) at bytes v.0 v.1)

never : {A : Type 0} (b : Bool) (d f : ListFault) (x : A) → cond b (Err d) (Err f) ≡ Ok x → ⊥
never true d f x e = cc
never false d f x e = cc

tagged_size : (at : ℕ) (before : List Param) (bytes : List ℕ) (number : ℕ) (left : List ℕ) (found : Option Tag) (x : Param × List ℕ) → 4 + length left ≡ length bytes → tagged_at at before number found left ≡ Ok x → TakesParam bytes x
tagged_size at before bytes number left None x long e = absurd (never (is_some (tag_with_low (number % 2 ^ 28))) (WrongKind at) (UnknownTag at) x e)
tagged_size at before bytes number left (Some tag) x long e =
    omega (
      arith,
      known_size at before tag left x e,
      length-append (big_bytes 4 (number_of x.0.tag)) (spelled_value (shape_of (type_of x.0.tag)) x.0.value),
      length-bytes_high_first 4 (number_of x.0.tag),
      long,
    )

param_size : (at : ℕ) (before : List Param) (bytes : List ℕ) (x : Param × List ℕ) → param_at at before bytes ≡ Ok x → TakesParam bytes x
unfolding param_at
param_size at before bytes x e =
    let n = bind_ok (whole_at at (number_at 4 bytes)) (λ (n : ℕ × List ℕ). tagged_at at before n.0 (tag_numbered n.0) n.1) x e in
    tagged_size at before bytes n.0.0 n.0.1 (tag_numbered n.0.0) x (number_size 4 bytes n.0.0 n.0.1 (whole_is at (number_at 4 bytes) n.0 n.1)) n.2

params_size : (n total : ℕ) (before : List Param) (bytes : List ℕ) (read : List Param × List ℕ) → params_at n total before bytes ≡ Ok read
    → length (spelling read.0) + length read.1 ≤ length (spelling before) + length bytes
unfolding params_at
params_size zero total before bytes read e =
    subst (λ (y : List Param × List ℕ). length (spelling y.0) + length y.1 ≤ length (spelling before) + length bytes) (ok_is (before, bytes) read e) (omega arith)
params_size (suc n) total before bytes read e =
    let p = bind_ok (param_at (total - length bytes) before bytes) (λ (p : Param × List ℕ). params_at n total (with_param p.0 before) p.1) read e in
    omega (
      arith,
      params_size n total (with_param p.0.0 before) p.0.1 read p.2,
      small_with p.0.0 before,
      param_size (total - length bytes) before bytes p.0 p.1,
    )

ended_is : (b : Bool) (found list : List Param) (fault : ListFault) → cond b (Ok found) (Err fault) ≡ Ok list → found ≡ list
ended_is true found list fault e = ok_is found list e
ended_is false found list fault e = cc

pub listed_small : (bytes : List ℕ) (list : List Param) → listed bytes ≡ Ok list → length (spelling list) ≤ length bytes
unfolding listed
listed_small bytes list e =
    let n = bind_ok (whole_at 0 (number_at 2 bytes)) (λ (n : ℕ × List ℕ). params_at n.0 (length bytes) [] n.1 >>= λ read. whole (length bytes) read) list e in
    let p = bind_ok (params_at n.0.0 (length bytes) [] n.0.1) (λ (read : List Param × List ℕ). whole (length bytes) read) list n.2 in
    let none : length (spelling []) ≡ 2 = omega arith in
    subst (λ ps. length (spelling ps) ≤ length bytes) (ended_is (length p.0.1 == 0) p.0.0 list (Trailing (length bytes - length p.0.1)) p.2)
    (omega (arith, params_size n.0.0 (length bytes) [] n.0.1 p.0 p.1, none, number_size 2 bytes n.0.0 n.0.1 (whole_is 0 (number_at 2 bytes) n.0 n.1)))
