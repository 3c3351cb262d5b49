-- A material that is read out of a text is short, for its length has one byte.
use Rattle.std.proofs.Common.{◌≡◌, ◌≤◌, List, ℕ, length, Option, Some, arith}
use Rattle.byte_strings.specs.Codecs.{IsBytes}
use Rattle.byte_strings.specs.Readers.{bytes_at, counted_at, optional_at}
use Rattle.byte_strings.proofs.Fields.{bytes_codec, counted_codec, counted_u32_codec, optional_codec, wide1, wide2}

pub material_short : (text root behind_root : List ℕ) (app_id : Option (List ℕ)) (behind_id : List ℕ) (app_bytes : Option (List ℕ)) (behind_bytes list behind_list material rest : List ℕ)
    → IsBytes text → bytes_at 32 text ≡ Some (root, behind_root) → optional_at 2 behind_root ≡ Some (app_id, behind_id) → optional_at 2 behind_id ≡ Some (app_bytes, behind_bytes)
    → counted_at 4 behind_bytes ≡ Some (list, behind_list) → counted_at 1 behind_list ≡ Some (material, rest) → length material ≤ 255
material_short text root behind_root app_id behind_id app_bytes behind_bytes list behind_list material rest is at_root at_id at_bytes at_list at_material =
    let one = (bytes_codec 32).takes text root behind_root is at_root in
    let two = (optional_codec 2 wide2).takes behind_root app_id behind_id one.0.rest_fits at_id in
    let three = (optional_codec 2 wide2).takes behind_id app_bytes behind_bytes two.0.rest_fits at_bytes in
    let four = counted_u32_codec.takes behind_bytes list behind_list three.0.rest_fits at_list in
    omega (arith, ((counted_codec 1 wide1).takes behind_list material rest four.0.rest_fits at_material).1)
