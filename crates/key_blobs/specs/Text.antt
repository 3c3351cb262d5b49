-- The text inside a blob: how it is spelled, and how it is read. Numbers are big-endian.
use Rattle.std.specs.Prelude.{◌+◌, ◌<◌, ◌≤◌, ◌^◌, ℕ, List, ◌++◌, length, Option, Some, None, Result, Ok, Err, if◌then◌else◌, ⊤}
use Rattle.std.specs.Option.{option_and_then, option_copied}
use Rattle.std.specs.Str.{bytes_eq}
use Rattle.byte_strings.specs.Readers.{Reader, bytes_at, counted_at, optional_at, ◌>>=◌, done, ended}
use Rattle.byte_strings.specs.Fields.{counted, optional}
use Rattle.tags.specs.declared.param.Param.{Param}
use Rattle.tag_lists.specs.declared.fault.ListFault.{ListFault}
use Rattle.tag_lists.specs.Spelling.{spelling}
use Rattle.tag_lists.specs.Reading.{listed}
use Rattle.key_blobs.specs.declared.sealed.Sealed.{Sealed}
use Rattle.key_blobs.specs.declared.reading.TextParts.{TextParts}

-- the text: the root of trust, the application id, the application data, the list in its one canonical spelling, and the
-- material
unfoldable pub text_of : Sealed → List ℕ
text_of x = x.root ++ (optional 2 x.app_id ++ (optional 2 x.app_bytes ++ (counted 4 (spelling x.list) ++ counted 1 x.material)))

-- each length has its width
abbrev pub IsShort : Option (List ℕ) → Type 0
IsShort None = ⊤
IsShort (Some bytes) = length bytes ≤ 65535

pub record IsSealable (x : Sealed) : Type 0 where
  pub id : IsShort x.app_id
  pub bytes : IsShort x.app_bytes
  pub list : length (spelling x.list) < 2 ^ 32
  pub material : length x.material ≤ 255

-- how many bytes an id takes
abbrev pub id_size : Option (List ℕ) → ℕ
id_size None = 1
id_size (Some bytes) = 3 + length bytes

-- how many bytes the text has
abbrev pub text_size : Sealed → ℕ
text_size x = 37 + (id_size x.app_id + (id_size x.app_bytes + (length (spelling x.list) + length x.material)))

-- how many bytes the blob of what is sealed has: beside its text, four of its start, twelve of the nonce and sixteen of the tag
abbrev pub blob_size : Sealed → ℕ
blob_size x = 32 + text_size x

-- the parts of a text
pub record Parts : Type 0 where
  pub root : List ℕ
  pub app_id : Option (List ℕ)
  pub app_bytes : Option (List ℕ)
  pub list : List ℕ
  pub material : List ℕ

-- the parts that stand one behind the other, ids behind a length of two bytes, the list of four and the material of one
unfoldable pub parts_at : Reader Parts
parts_at = do
  root ← bytes_at 32
  app_id ← optional_at 2
  app_bytes ← optional_at 2
  list ← counted_at 4
  material ← counted_at 1
  done (record { root = root; app_id = app_id; app_bytes = app_bytes; list = list; material = material })

-- the parts, where nothing stands behind them
abbrev pub parts_in : List ℕ → Option Parts
parts_in text = ended (parts_at text)

-- the list that was read, where the bytes are its canonical spelling
abbrev pub canonical_in : List ℕ → Result (List Param) ListFault → Option (List Param)
canonical_in bytes (Ok list) = if bytes_eq (spelling list) bytes then Some list else None
canonical_in bytes (Err fault) = None

-- what the parts hold, with the list that theirs is
abbrev pub with_list : Parts → List Param → Sealed
with_list parts list = record { root = parts.root; app_id = parts.app_id; app_bytes = parts.app_bytes; list = list; material = parts.material }

-- what the parts hold, where the list's bytes are a list in its canonical spelling
abbrev pub held_in : Parts → Option Sealed
held_in parts = option_and_then (λ list. Some (with_list parts list)) (canonical_in parts.list (listed parts.list))

-- what a text holds; nothing where it is no sealed text
abbrev pub sealed_in : List ℕ → Option Sealed
sealed_in text = option_and_then held_in (parts_in text)

-- the parts, where they are lent
abbrev pub lent : TextParts → Parts
lent p = record { root = p.root.now; app_id = option_copied p.app_id; app_bytes = option_copied p.app_bytes; list = p.list.now; material = p.material.now }
