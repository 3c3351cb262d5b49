-- A value that is read is the value that was written, and what was written is read again.
use Rattle.std.proofs.Common.{◌≡◌, ℕ, suc, ◌^◌, ◌<◌, Bool, true, false, not, cond, eqb, List, [], ◌∷◌, ◌++◌, Option, None, Some, Result, Ok, Err, refl, ap, subst, arith}
use Rattle.std.proofs.lemmas.Bool.{eqb-true}
use Rattle.byteorder.specs.Endian.{big_bytes}
use Rattle.byte_strings.specs.Readers.{Reader, number_at}
use Rattle.byte_strings.specs.Codecs.{IsBytes, Takes, IsCodec}
use Rattle.byte_strings.proofs.Fields.{number_codec, counted_codec, u32_codec, u64_codec, wide2}
use Rattle.tags.specs.declared.param.ParamValue.{ParamValue}
use Rattle.tags.specs.declared.param.ParamValue.TheVariants.{Number, Flag, Raw}
use Rattle.tag_lists.specs.declared.fault.ListFault.{ListFault}
use Rattle.tag_lists.specs.declared.shape.Shape.{Shape}
use Rattle.tag_lists.specs.declared.shape.Shape.TheVariants.{Short, Long, Truth, Sized}
use Rattle.tag_lists.specs.Order.{FitsShape}
use Rattle.tag_lists.specs.Spelling.{spelled_value}
use Rattle.tag_lists.specs.Reading.{◌>>=◌, is_wrong_flag, whole_at, value_at}

-- the value of a step that did not fail
pub bind_ok : {A B : Type 0} (r : Result A ListFault) (f : A → Result B ListFault) (y : B) → (r >>= f) ≡ Ok y → (x : A) × (r ≡ Ok x) × (f x ≡ Ok y)
bind_ok (Ok x) f y e = (x, refl, e)
bind_ok (Err d) f y e = absurd cc

-- a test that did not fail
pub guard_ok : {A : Type 0} (b : Bool) (d : ListFault) (x : Result A ListFault) (y : A) → cond b (Err d) x ≡ Ok y → (b ≡ false) × (x ≡ Ok y)
guard_ok true d x y e = absurd cc
guard_ok false d x y e = (refl, e)

pub ok_is : {A : Type 0} (x y : A) → (let done : A → Result A ListFault = λ a. Ok a in done x ≡ done y) → x ≡ y
ok_is x y e = cc

-- bytes that did not end within what was read
pub whole_is : {A : Type 0} (at : ℕ) (o : Option A) (x : A) → whole_at at o ≡ Ok x → o ≡ Some x
whole_is at None x e = absurd cc
whole_is at (Some y) x e = ap Some (ok_is y x e)

pub number2_codec : IsCodec (number_at 2) (big_bytes 2) (λ x. x < 2 ^ 16)
number2_codec = number_codec 2 wide2

-- ---- values

abbrev pub TakesValue : Shape → List ℕ → ParamValue × List ℕ → Type 0
TakesValue s bytes v = Takes bytes (spelled_value s v.0) v.1 × FitsShape s v.0

-- what a field makes, where the bytes do not end within it
abbrev pub made_of : {A : Type 0} → (A → ParamValue) → ℕ → Option (A × List ℕ) → Result (ParamValue × List ℕ) ListFault
made_of make at read = whole_at at read >>= λ x. Ok (make x.0, x.1)

-- a value that is a field
module _ {A : Type 0} (shape : Shape) {f : Reader A} {s : A → List ℕ} {P : A → Type 0} (codec : IsCodec f s P) (make : A → ParamValue) where
  field_takes : ((x : A) → spelled_value shape (make x) ≡ s x) → ((x : A) → P x → FitsShape shape (make x)) → (at : ℕ) (bytes : List ℕ) (v : ParamValue × List ℕ) → IsBytes bytes
      → made_of make at (f bytes) ≡ Ok v → TakesValue shape bytes v
  field_takes spells fits_shape at bytes v fits e =
      let b = bind_ok (whole_at at (f bytes)) (λ (x : A × List ℕ). Ok (make x.0, x.1)) v e in
      let t = codec.takes bytes b.0.0 b.0.1 fits (whole_is at (f bytes) b.0 b.1) in
      subst (TakesValue shape bytes) (ok_is (make b.0.0, b.0.1) v b.2) (rw (spells b.0.0) t.0, fits_shape b.0.0 t.1)

  field_again : (at : ℕ) (x : A) (rest : List ℕ) → P x → made_of make at (f (s x ++ rest)) ≡ Ok (make x, rest)
  field_again at x rest fits = ap (made_of make at) (codec.again x rest fits)

IsBytes-rest : (b : ℕ) (bytes : List ℕ) → IsBytes (b ∷ bytes) → IsBytes bytes
IsBytes-rest b bytes h i = h (suc i)

not_false : (b : Bool) → not b ≡ false → b ≡ true
not_false true e = refl
not_false false e = absurd cc

pub value_takes : (s : Shape) (at : ℕ) (bytes : List ℕ) (v : ParamValue × List ℕ) → IsBytes bytes → is_wrong_flag s bytes ≡ false → value_at at s bytes ≡ Ok v → TakesValue s bytes v
value_takes Short at bytes v fits right e = field_takes Short u32_codec (λ n. Number n) (λ n. refl) (λ n lt. lt) at bytes v fits e
value_takes Long at bytes v fits right e = field_takes Long u64_codec (λ n. Number n) (λ n. refl) (λ n lt. lt) at bytes v fits e
value_takes Truth at [] v fits right e = absurd cc
value_takes Truth at (b ∷ bytes) v fits right e =
    let one : b ≡ 1 = eqb-true b 1 (not_false (eqb b 1) right) in
    subst (TakesValue Truth (b ∷ bytes)) (ok_is (Flag, bytes) v e) (record { parts = ap (λ n. n ∷ bytes) one; rest_fits = IsBytes-rest b bytes fits }, tt)
value_takes Sized at bytes v fits right e = field_takes Sized (counted_codec 2 wide2) (λ text. Raw text) (λ text. refl) (λ text lt. omega (arith, lt)) at bytes v fits e

pub record IsValueAgain (s : Shape) (v : ParamValue) (rest : List ℕ) : Type 0 where
  pub right : is_wrong_flag s (spelled_value s v ++ rest) ≡ false
  pub again : (at : ℕ) → value_at at s (spelled_value s v ++ rest) ≡ Ok (v, rest)

pub value_again : (s : Shape) (v : ParamValue) (rest : List ℕ) → FitsShape s v → IsValueAgain s v rest
value_again Short (Number n) rest fits = record { right = refl; again = λ at. field_again Short u32_codec (λ n. Number n) at n rest fits }
value_again Long (Number n) rest fits = record { right = refl; again = λ at. field_again Long u64_codec (λ n. Number n) at n rest fits }
value_again Truth Flag rest fits = record { right = refl; again = λ at. refl }
value_again Sized (Raw text) rest fits = record { right = refl; again = λ at. field_again Sized (counted_codec 2 wide2) (λ text. Raw text) at text rest (omega (arith, fits)) }
value_again Short Flag rest fits = absurd fits
value_again Short (Raw text) rest fits = absurd fits
value_again Long Flag rest fits = absurd fits
value_again Long (Raw text) rest fits = absurd fits
value_again Truth (Number n) rest fits = absurd fits
value_again Truth (Raw text) rest fits = absurd fits
value_again Sized (Number n) rest fits = absurd fits
value_again Sized Flag rest fits = absurd fits
