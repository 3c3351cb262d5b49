-- A text that was spelled is read again.
use Rattle.std.proofs.Common.{◌≡◌, ℕ, ◌+◌, true, List, ◌++◌, length, Option, Some, None, Ok, refl, ap, ◌∙◌, arith}
use Rattle.std.specs.Option.{option_and_then}
use Rattle.std.specs.Str.{bytes_eq}
use Rattle.std.proofs.lemmas.List.{length-append}
use Rattle.std.proofs.lemmas.Slice.Eq.{bytes_eq-Decides}
use Rattle.byteorder.specs.Endian.{big_bytes}
use Rattle.byteorder.specs.Numbers.{length-bytes_high_first}
use Rattle.byte_strings.specs.Fields.{counted, optional, IsCounted}
use Rattle.byte_strings.specs.Codecs.{IsAgain}
use Rattle.byte_strings.proofs.Fields.{wide1, wide2, bytes_codec, counted_codec, counted_u32_codec, optional_codec}
use Rattle.byte_strings.proofs.Rows.{field_again, last_again, whole_again}
use Rattle.tags.specs.declared.param.Param.{Param}
use Rattle.tag_lists.specs.Spelling.{spelling}
use Rattle.tag_lists.specs.Reading.{listed}
use Rattle.key_blobs.specs.declared.sealed.Sealed.{Sealed}
use Rattle.key_blobs.specs.Text.{id_size, text_of, text_size, IsShort, IsSealable, Parts, parts_at, canonical_in, with_list, held_in, sealed_in}

-- a list that was spelled
canonical_again : (list : List Param) → listed (spelling list) ≡ Ok list → canonical_in (spelling list) (listed (spelling list)) ≡ Some list
canonical_again list back =
    let same : bytes_eq (spelling list) (spelling list) ≡ true = (bytes_eq-Decides (spelling list) (spelling list)).1 refl in
    rw (back, same) refl

counted_size : (n : ℕ) (bytes : List ℕ) → length (counted n bytes) ≡ n + length bytes
counted_size n bytes = length-append (big_bytes n (length bytes)) bytes ∙ ap (λ k. k + length bytes) (length-bytes_high_first n (length bytes))

optional_size : (bytes : Option (List ℕ)) → length (optional 2 bytes) ≡ id_size bytes
optional_size None = refl
optional_size (Some bytes) = omega (arith, counted_size 2 bytes)

-- how long a text is
pub text_long : (x : Sealed) → length x.root ≡ 32 → length (text_of x) ≡ text_size x
unfolding text_of
text_long x long =
    let list : List ℕ = counted 4 (spelling x.list) in
    let material : List ℕ = counted 1 x.material in
    omega (
      arith,
      long,
      optional_size x.app_id,
      optional_size x.app_bytes,
      counted_size 4 (spelling x.list),
      counted_size 1 x.material,
      length-append x.root (optional 2 x.app_id ++ (optional 2 x.app_bytes ++ (list ++ material))),
      length-append (optional 2 x.app_id) (optional 2 x.app_bytes ++ (list ++ material)),
      length-append (optional 2 x.app_bytes) (list ++ material),
      length-append list material,
    )

id_fits : (id : Option (List ℕ)) → IsShort id → IsCounted 2 id
id_fits None short = tt
id_fits (Some bytes) short = omega (arith, short)

abbrev parts_of : Sealed → Parts
parts_of x = record { root = x.root; app_id = x.app_id; app_bytes = x.app_bytes; list = spelling x.list; material = x.material }

parts_again : (x : Sealed) → length x.root ≡ 32 → IsSealable x → IsAgain parts_at (text_of x) (parts_of x)
unfolding text_of parts_at
parts_again x long fits =
    field_again (bytes_codec 32) _ x.root long (field_again (optional_codec 2 wide2) _ x.app_id (id_fits x.app_id fits.id)
    (field_again (optional_codec 2 wide2) _ x.app_bytes (id_fits x.app_bytes fits.bytes) (field_again counted_u32_codec _ (spelling x.list) fits.list
    (last_again (counted_codec 1 wide1) _ x.material (omega (arith, fits.material))))))

pub sealed_again : (x : Sealed) → length x.root ≡ 32 → IsSealable x → listed (spelling x.list) ≡ Ok x.list → sealed_in (text_of x) ≡ Some x
sealed_again x long fits back =
    ap (option_and_then held_in) (whole_again (parts_again x long fits))
    ∙ ap (option_and_then (λ (list : List Param). Some (with_list (parts_of x) list))) (canonical_again x.list back)
