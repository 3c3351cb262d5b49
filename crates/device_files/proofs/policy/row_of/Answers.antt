use Rattle.std.proofs.Common.{◌≡◌, false, Option, Some, None, refl, sym}
use Rattle.std.specs.Prelude.{is_some, option_map}
use Rattle.device_files.proofs.policy.row_of.Goals as goal

none_mapped : {A B : Type 0} (f : A → B) (o : Option A) → false ≡ is_some o → is_some (option_map f o) ≡ false
none_mapped f None e = refl
none_mapped f (Some x) e = sym e

pub returns : goal.returns
returns c =
    rw (
      ← c.get.ensures,
      none_mapped _ c.get.result c.if-is_some.ensures,
      ← c.in_ok-get.ensures,
      ← c.in_ok-uid.ensures,
      ← c.in_ok-get-2.ensures,
      ← c.in_ok-nspace.ensures,
      ← c.in_ok-get-3.ensures,
      ← c.in_ok-bits.ensures,
    )
