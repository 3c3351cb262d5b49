-- The bytes of authorization lists. Numbers are big-endian.
use Rattle.std.specs.Prelude.{◌≡◌, ◌↔◌, ℕ, ◌≤◌, List, [], ◌∷◌, ◌++◌, length}
use Rattle.std.specs.List.{flat_map, Contains}
use Rattle.byteorder.specs.Endian.{big_bytes}
use Rattle.byte_strings.specs.Fields.{counted}
use Rattle.tags.specs.declared.param.Param.{Param}
use Rattle.tags.specs.declared.param.ParamValue.{ParamValue}
use Rattle.tags.specs.declared.param.ParamValue.TheVariants.{Number, Flag, Raw}
use Rattle.tags.specs.Tag.{type_of, number_of}
use Rattle.tag_lists.specs.declared.shape.Shape.{Shape}
use Rattle.tag_lists.specs.declared.shape.Shape.TheVariants as shapes
use Rattle.tag_lists.specs.Order.{shape_of, MayBeListed, canonical}

-- four bytes, eight bytes, the byte 01, or a length of two bytes and that many bytes
abbrev pub spelled_value : Shape → ParamValue → List ℕ
spelled_value shapes.Short (Number n) = big_bytes 4 n
spelled_value shapes.Long (Number n) = big_bytes 8 n
spelled_value shapes.Truth Flag = 1 ∷ []
spelled_value shapes.Sized (Raw bytes) = counted 2 bytes
spelled_value _ _ = []

-- four bytes of tag, and the value by the tag's type
abbrev pub spelled : Param → List ℕ
spelled p = big_bytes 4 (number_of p.tag) ++ spelled_value (shape_of (type_of p.tag)) p.value

-- two bytes of count, and the parameters
abbrev pub spelling : List Param → List ℕ
spelling ps = big_bytes 2 (length ps) ++ flat_map spelled ps

-- the bytes spell these parameters in some order, and the list has them, and no others, in canonical order
pub record IsListOf (bytes : List ℕ) (list : List Param) : Type 0 where
  pub order : List Param
  pub few : length order ≤ 65535
  pub may : MayBeListed order
  pub spells : bytes ≡ spelling order
  pub is : list ≡ canonical order
  pub members : (p : Param) → Contains order p ↔ Contains list p
