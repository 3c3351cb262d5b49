-- The definitions compute, but for the test of UTF-8, which letters pass.
use Rattle.std.proofs.Common.{◌≡◌, ℕ, ◌<◌, inl, inr, [], ◌∷◌, true, refl, replicate, arith}
use Rattle.std.specs.Str.{IsAscii, is_utf8}
use Rattle.std.proofs.lemmas.Bool.{cases_lt}
use Rattle.std.proofs.lemmas.List.{get_or-replicate, get_or_past, length-replicate}
use Rattle.std.proofs.lemmas.Str.{IsUtf8-from_ascii, is_utf8-from_IsUtf8}
use Rattle.journal_records.specs.Spelling.{record_tail}
use Rattle.store_tests.proofs.records.worked_areas.Goals as goal

ascii : (n letter : ℕ) → letter < 128 → IsAscii (replicate n letter)
ascii n letter less i = elim (cases_lt i n) [
  | inl within ↦ rw (get_or-replicate n i letter 0 within) less
  | inr past ↦ rw (get_or_past (replicate n letter) i 0 (omega (arith, past, length-replicate n letter))) (omega arith)
]

letters : (n letter : ℕ) → letter < 128 → is_utf8 (replicate n letter) ≡ true
letters n letter less = is_utf8-from_IsUtf8 (replicate n letter) (IsUtf8-from_ascii (replicate n letter) (ascii n letter less))

text : is_utf8 (109 ∷ []) ≡ true
text = letters 1 109 (omega arith)

other : is_utf8 (110 ∷ []) ≡ true
other = letters 1 110 (omega arith)

long : is_utf8 (replicate 256 109) ≡ true
long = letters 256 109 (omega arith)

pub returns : goal.returns
unfolding record_tail
returns c = record {
  nothing = refl;
  numbers = refl;
  held_used = rw text refl;
  held_unlimited = rw text refl;
  of_few = rw (text, other) refl;
  few_bytes = refl;
  used_behind = rw text refl;
  made_behind = rw text refl;
  upgraded_behind = rw text refl;
  next_not_first = refl;
  next_behind_change = rw text refl;
  next_zero = refl;
  next_grant_zero = refl;
  next_greatest = refl;
  next_above = refl;
  next_grant_above = refl;
  no_numbers = refl;
  key_zero = refl;
  key_at_next = refl;
  key_not_above = rw text refl;
  key_below = rw text refl;
  key_behind_change = rw text refl;
  left_above = refl;
  none_left = refl;
  left_unlimited = refl;
  named_twice = rw text refl;
  no_alias = refl;
  long_alias = refl;
  longest_alias = rw long refl;
  app_of_64_bits = refl;
  no_such_domain = refl;
  grant_zero = rw text refl;
  grant_at_next = rw text refl;
  grant_not_above = rw (text, other) refl;
  granted_twice = rw text refl;
  no_key_granted = rw text refl;
  grant_behind_change = rw text refl;
  empty_bytes = refl;
  upgrade_bytes = refl;
}
