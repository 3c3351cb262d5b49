-- What lasts of a key that is imported anew is what a store can hold.
use Rattle.std.proofs.Common.{◌≡◌, ℕ, ◌^◌, ◌<◌, [], ◌∷◌, true, refl, subst, arith}
use Rattle.std.specs.Str.{IsUtf8, is_utf8}
use Rattle.std.proofs.lemmas.Str.{IsUtf8-encode, encode_ascii, is_utf8-from_IsUtf8}
use lib.Utf8.{low_scalar}
use Rattle.journal_records.specs.Storable.{IsStorable}
use Rattle.store_tests.specs.Rebound.{rebound}

-- one letter
pub text : is_utf8 (109 ∷ []) ≡ true
text = is_utf8-from_IsUtf8 (109 ∷ []) (subst IsUtf8 (encode_ascii 109 (omega arith)) (IsUtf8-encode 109 (low_scalar 109 (omega arith))))

pub storable : (times : ℕ) → times < 2 ^ 32 → IsStorable (rebound times)
storable times below = record {
  keys = (
    record {
      numbered = (omega arith, omega arith);
      owner = refl;
      nspace = omega arith;
      alias = rw text refl;
      blob = omega arith;
      list = omega arith;
      limit = omega arith;
      uses = (omega arith, λ e. absurd (omega (arith, e)));
    },
    tt,
  );
  keys_differ = (tt, tt);
  key_count = omega arith;
  grants = tt;
  grants_differ = tt;
  grant_count = omega arith;
  next_key = (omega arith, omega (arith, below));
  next_grant = (omega arith, omega arith);
}
