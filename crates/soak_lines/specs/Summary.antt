-- The summary of what a load was answered: how often each code came, and the digest of all the text.
use Rattle.std.specs.Prelude.{ℕ, ℤ, ◌+◌, ◌++◌, List, [], ◌∷◌, codes, flat_map, unwrap_or}
use Rattle.std.specs.Fmt.{decimal, signed_decimal}
use Rattle.std.specs.Map.{lookup}
use Rattle.std.specs.Ordering.{int_cmp}
use Rattle.std.specs.BTreeMap.{insert_entry, is_at}
use Rattle.hex.specs.Hex.{encode_lower}
use Rattle.sha2.specs.Sha256.{sha256}

-- how often a code came, by the rows so far
abbrev pub count_in : List (ℤ × ℕ) → ℤ → ℕ
count_in rows code = unwrap_or (lookup (is_at (int_cmp code)) rows) 0

-- a row for each code that came, ascending, with how often it came
abbrev pub counted : List ℤ → List (ℤ × ℕ)
counted [] = []
counted (code ∷ before) = insert_entry int_cmp (counted before) code (count_in (counted before) code + 1)

abbrev pub row_text : ℤ × ℕ → List ℕ
row_text row = codes "code " ++ (signed_decimal row.0 ++ (codes " count " ++ (decimal row.1 ++ codes "\n")))

-- the last line is the SHA-256 (FIPS 180-4) of all the text
abbrev pub digest_text : List ℕ → List ℕ
digest_text text = codes "sha256 " ++ (encode_lower (sha256 text) ++ codes "\n")

-- the summary of the codes of the reply lines, and of their text
abbrev pub summary_of : List ℤ → List ℕ → List ℕ
summary_of replied text = flat_map row_text (counted replied) ++ digest_text text
