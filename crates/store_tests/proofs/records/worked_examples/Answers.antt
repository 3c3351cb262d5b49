-- The definitions compute, but for the test of UTF-8, which one letter passes.
use Rattle.std.proofs.Common.{◌≡◌, [], ◌∷◌, true, refl, subst, arith}
use Rattle.std.specs.Str.{IsUtf8, is_utf8}
use Rattle.std.proofs.lemmas.Str.{IsUtf8-encode, encode_ascii, is_utf8-from_IsUtf8}
use lib.Utf8.{low_scalar}
use Rattle.store_tests.proofs.records.worked_examples.Goals as goal

text : is_utf8 (109 ∷ []) ≡ true
text = is_utf8-from_IsUtf8 (109 ∷ []) (subst IsUtf8 (encode_ascii 109 (omega arith)) (IsUtf8-encode 109 (low_scalar 109 (omega arith))))

pub returns : goal.returns
returns c = record {
  nothing = refl;
  made = rw text refl;
  used_once = rw text refl;
  used_up = rw text refl;
  used_up_and_granted = rw text refl;
  no_use_left = rw text refl;
  no_limit_no_use = rw text refl;
  wrong_number = refl;
  number_again = rw text refl;
  app_of_64_bits = refl;
  no_alias = refl;
  no_such_domain = refl;
  rebound = rw text refl;
  deleted = rw text refl;
  no_such_key = rw text refl;
  cleared = rw text refl;
  other_cleared = rw text refl;
  no_domain_cleared = rw text refl;
  user_removed = rw text refl;
  other_removed = rw text refl;
  no_such_user = refl;
  upgraded = rw text refl;
  other_upgraded = rw text refl;
  ended_upgraded = rw text refl;
  longest = rw text refl;
  long_blob = rw text refl;
  long_list = rw text refl;
  granted = rw text refl;
  granted_again = rw text refl;
  other_number = rw text refl;
  number_ahead = rw text refl;
  no_key_granted = refl;
  ungranted = rw text refl;
  granted_anew = rw text refl;
  no_such_grant = rw text refl;
}
