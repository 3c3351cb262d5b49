-- No text of a JSON value has an LF.
use Rattle.std.proofs.Common.{◌≡◌, ◌≢◌, ℕ, zero, suc, ◌+◌, ◌/◌, ◌%◌, ◌==◌, nat_lt, cond, List, [], ◌∷◌, ◌++◌, Bool, true, false, not, ◌&&◌, if◌then◌else◌, arith, refl, ℤ, pos, negsuc}
use Rattle.std.specs.Fmt.{digits, digits_onto, decimal, signed_decimal}
use Rattle.json.specs.Print.{escape_letter, escape_byte, escape, quoted}
use Rattle.serde_json.specs.Data.{Num, unsigned, negative, float, Data, null, boolean, number, string, array, object, Items, no_items, item, Members, no_members, member}
use Rattle.serde_json.specs.Written.{number_text, comma_if, compact_text, items_text, members_text}
use Rattle.line_members.specs.LineFeeds.{IsFree, IsLine}
use Rattle.rule_model.specs.declared.entry.Entry.{Entry}
use Rattle.trace_lines.specs.Traces.{entry_members, entry_text}

-- whether bytes that are known have no LF
abbrev is_free : List ℕ → Bool
is_free [] = true
is_free (x ∷ xs) = not (x == 10) && is_free xs

first_known : (x : ℕ) (rest : Bool) → (not (x == 10) && rest) ≡ true → x ≢ 10
first_known x rest h = grind arith

rest_known : (b rest : Bool) → (b && rest) ≡ true → rest ≡ true
rest_known true rest h = h
rest_known false rest h = absurd cc

known : (xs : List ℕ) → is_free xs ≡ true → IsFree xs
known [] h = tt
known (x ∷ xs) h = (first_known x (is_free xs) h, known xs (rest_known (not (x == 10)) (is_free xs) h))

free_append : (xs ys : List ℕ) → IsFree xs → IsFree ys → IsFree (xs ++ ys)
free_append [] ys h k = k
free_append (x ∷ xs) ys h k = (h.0, free_append xs ys h.1 k)

free_either : (b : Bool) (xs ys : List ℕ) → IsFree xs → IsFree ys → IsFree (if b then xs else ys)
free_either true xs ys h k = h
free_either false xs ys h k = k

-- ---- numbers

glyph : (n : ℕ) → (if nat_lt n 10 then 48 + n else 87 + n) ≢ 10
glyph n = grind arith

digits_free : (k n : ℕ) (acc : List ℕ) → IsFree acc → IsFree (digits_onto k 10 false n acc)
digits_free zero n acc h = h
digits_free (suc k) n acc h = free_either (n / 10 == 0) _ _ (glyph (n % 10), h) (digits_free k (n / 10) _ (glyph (n % 10), h))

decimal_free : (n : ℕ) → IsFree (decimal n)
unfolding digits
decimal_free n = digits_free 64 n [] tt

-- ---- strings

letter : (x : ℕ) → escape_letter x ≢ 10
letter x = grind arith

digit : (x : ℕ) → cond (nat_lt x 10) (48 + x) (87 + x) ≢ 10
digit x = grind arith

kept : (x : ℕ) → nat_lt x 32 ≡ false → x ≢ 10
kept x h = grind arith

long : (b : Bool) (x : ℕ) (xs : List ℕ) → IsFree xs → (b ≡ false → x ≢ 10) → IsFree (cond b xs (x ∷ []))
long true x xs h k = h
long false x xs h k = (k refl, tt)

short : (b : Bool) (xs ys : List ℕ) → IsFree xs → IsFree ys → IsFree (cond b xs ys)
short true xs ys h k = h
short false xs ys h k = k

unicode : (x : ℕ) → IsFree (92 ∷ 117 ∷ 48 ∷ 48 ∷ cond (nat_lt (x / 16) 10) (48 + x / 16) (87 + x / 16) ∷ cond (nat_lt (x % 16) 10) (48 + x % 16) (87 + x % 16) ∷ [])
unicode x = (grind arith, (grind arith, (grind arith, (grind arith, (digit (x / 16), (digit (x % 16), tt))))))

byte_free : (x : ℕ) → IsFree (escape_byte x)
unfolding escape_byte
byte_free x = short (nat_lt 0 (escape_letter x)) _ _ (grind arith, (letter x, tt))
    (long (nat_lt x 32) x _ (unicode x) (kept x))

escape_free : (s : List ℕ) → IsFree (escape s)
escape_free [] = tt
escape_free (x ∷ s) = free_append (escape_byte x) (escape s) (byte_free x) (escape_free s)

quoted_free : (s : List ℕ) → IsFree (quoted s)
quoted_free s = (grind arith, free_append (escape s) _ (escape_free s) (grind arith, tt))

-- ---- values

flag_free : (b : Bool) → IsFree (compact_text (boolean b))
flag_free true = known (compact_text (boolean true)) refl
flag_free false = known (compact_text (boolean false)) refl

negative_free : (z : ℤ) → IsFree (signed_decimal z)
negative_free (pos n) = decimal_free n
negative_free (negsuc n) = (grind arith, decimal_free (suc n))

number_free : (n : Num) → IsFree (number_text n)
number_free (unsigned n) = decimal_free n
number_free (negative z) = negative_free z
number_free (float x) = tt

comma_free : (later : Bool) → IsFree (comma_if later)
comma_free later = free_either later _ _ (grind arith, tt) tt

mutual
  pub data_free : (d : Data) → IsFree (compact_text d)
  data_free null = known (compact_text null) refl
  data_free (boolean b) = flag_free b
  data_free (number n) = number_free n
  data_free (string s) = quoted_free s
  data_free (array ds) = (grind arith, items_free false ds)
  data_free (object ms) = (grind arith, members_free false ms)

  items_free : (later : Bool) (ds : Items) → IsFree (items_text later ds)
  items_free later no_items = (grind arith, tt)
  items_free later (item d ds) = free_append (comma_if later) _ (comma_free later) (free_append (compact_text d) _ (data_free d) (items_free true ds))

  members_free : (later : Bool) (ms : Members) → IsFree (members_text later ms)
  members_free later no_members = (grind arith, tt)
  members_free later (member k d ms) =
      free_append (comma_if later) _ (comma_free later) (free_append (quoted k) _ (quoted_free k) (grind arith, free_append (compact_text d) _ (data_free d) (members_free true ms)))

-- ---- an entry

not_empty : (x : ℕ) (xs : List ℕ) → x ∷ xs ≢ []
not_empty x xs e = absurd cc

pub entry_is_line : (entry : Entry) → IsLine (entry_text entry)
entry_is_line entry = record { some = not_empty 123 (members_text false (entry_members entry)); free = data_free (object (entry_members entry)) }
