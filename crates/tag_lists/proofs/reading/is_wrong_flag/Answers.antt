use Rattle.std.proofs.Common.{◌≡◌, ◌≤◌, ℕ, not, eqb, List, [], ◌∷◌, length, get_or, refl, arith}
use Rattle.tag_lists.specs.declared.shape.Shape.TheVariants.{Truth}
use Rattle.tag_lists.specs.Reading.{is_wrong_flag}
use Rattle.tag_lists.proofs.reading.is_wrong_flag.Goals as goal

flag_told : (bytes : List ℕ) → 1 ≤ length bytes → not (eqb (get_or bytes 0 0) 1) ≡ is_wrong_flag Truth bytes
flag_told [] some = absurd (omega arith)
flag_told (byte ∷ bytes) some = refl

pub returns-in-Truth-len1-up : goal.returns-in-Truth-len1-up
returns-in-Truth-len1-up c = rw c.in-Truth-len1-up.is-0 (flag_told c.args.bytes.now c.in-Truth-len1-up.len_at_least)
