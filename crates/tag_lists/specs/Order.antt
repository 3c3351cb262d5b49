-- Authorization lists: which parameters they hold, and in which order.
use Rattle.std.specs.Prelude.{◌≡◌, ℕ, ◌+◌, ◌*◌, ◌^◌, ◌<◌, ◌≤◌, true, ◌==◌, List, [], ◌∷◌, length, nat_lt, if◌then◌else◌, ⊤}
use Rattle.std.specs.List.{AllByRecursion}
use Rattle.tags.specs.declared.tag.TagType.{TagType}
use Rattle.tags.specs.declared.tag.TagType.TheVariants as types
use Rattle.tags.specs.declared.param.Param.{Param}
use Rattle.tags.specs.declared.param.ParamValue.{ParamValue}
use Rattle.tags.specs.declared.param.ParamValue.TheVariants.{Number, Flag, Raw}
use Rattle.tags.specs.Tag.{type_of, low_of, repeats}
use Rattle.tag_lists.specs.declared.shape.Shape.{Shape}
use Rattle.tag_lists.specs.declared.shape.Shape.TheVariants as shapes

-- how a value of each type is spelled; no tag has the type BIGNUM
abbrev pub shape_of : TagType → Shape
shape_of types.Enum = shapes.Short
shape_of types.EnumRep = shapes.Short
shape_of types.Uint = shapes.Short
shape_of types.UintRep = shapes.Short
shape_of types.Ulong = shapes.Long
shape_of types.UlongRep = shapes.Long
shape_of types.Date = shapes.Long
shape_of types.Bool = shapes.Truth
shape_of types.Bignum = shapes.Sized
shape_of types.Bytes = shapes.Sized

-- a value of the shape: 32 bits, 64 bits, the flag that is only ever true, at most 65,535 bytes
abbrev pub FitsShape : Shape → ParamValue → Type 0
FitsShape shapes.Short (Number n) = n < 2 ^ 32
FitsShape shapes.Long (Number n) = n < 2 ^ 64
FitsShape shapes.Truth Flag = ⊤
FitsShape shapes.Sized (Raw bytes) = length bytes ≤ 65535
FitsShape _ _ = ⊥

-- the value is of the tag's type
abbrev pub Fits : Param → Type 0
Fits p = FitsShape (shape_of (type_of p.tag)) p.value

-- the number of a value; a tag whose value is none stands once
abbrev pub number_in : ParamValue → ℕ
number_in (Number n) = n
number_in Flag = 0
number_in (Raw bytes) = 0

-- the place of a parameter: by the tag's 28 low bits, then by value
abbrev pub rank : Param → ℕ
rank p = low_of p.tag * 2 ^ 64 + number_in p.value

-- only tags of a REP type stand several times
abbrev pub MayStandBeside : Param → Param → Type 0
MayStandBeside p q = p.tag ≡ q.tag → repeats (type_of p.tag) ≡ true

-- the first stands anywhere before the second
pub record StandsBefore (p q : Param) : Type 0 where
  pub rises : rank p < rank q
  pub beside : MayStandBeside p q

-- each parameter stands before all later ones
abbrev pub IsInOrder : List Param → Type 0
IsInOrder [] = ⊤
IsInOrder (p ∷ ps) = AllByRecursion (StandsBefore p) ps × IsInOrder ps

-- what a list of parameters is: at most 65,535 that fit, in canonical order, an equal pair once
pub record IsCanonical (list : List Param) : Type 0 where
  pub few : length list ≤ 65535
  pub fit : AllByRecursion Fits list
  pub ordered : IsInOrder list

-- parameters in any order, in which only tags of a REP type repeat
abbrev pub MayBeListed : List Param → Type 0
MayBeListed [] = ⊤
MayBeListed (p ∷ ps) = Fits p × AllByRecursion (MayStandBeside p) ps × MayBeListed ps

-- a list in canonical order with one more parameter, an equal pair once
abbrev pub with_param : Param → List Param → List Param
with_param p [] = p ∷ []
with_param p (q ∷ qs) =
    if nat_lt (rank p) (rank q) then p ∷ q ∷ qs else
    if rank p == rank q then p ∷ qs else q ∷ with_param p qs

-- a list in canonical order with more parameters
abbrev pub with_params : List Param → List Param → List Param
with_params list [] = list
with_params list (p ∷ ps) = with_params (with_param p list) ps

-- the canonical list of these parameters
abbrev pub canonical : List Param → List Param
canonical ps = with_params [] ps
