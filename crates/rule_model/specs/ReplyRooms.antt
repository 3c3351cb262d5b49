-- Which fields of bytes the reply of an act may have, and how long each may be. The numbers of a reply take no room.
use Rattle.std.specs.Prelude.{ℕ, ◌≤◌, List, length, All, Option, Some, None, ⊤}
use Rattle.rule_model.specs.declared.event.Act.{Act}
use Rattle.rule_model.specs.declared.event.Act.TheVariants.{GenerateKey, ImportKey, ImportWrappedKey, UpgradeKey, CreateOperation, GetKeyEntry, ListEntriesBatched, Leave}
use Rattle.rule_model.specs.declared.reply.Fields.{Fields}
use Rattle.rule_model.specs.declared.reply.Reply.{Reply}
use Rattle.rule_model.specs.declared.reply.Reply.TheVariants.{Done, Broken, Stopped}
use Rattle.rule_model.specs.declared.field_sizes.FieldSizes.{FieldSizes}
use Rattle.tags.specs.declared.limits.TheConstants.{ALIAS_BYTES, BLOB_BYTES, KEPT_LIST_BYTES, LISTED}

-- the longest nonce (SP 800-38A: an initialization vector of one block), in bytes
abbrev pub NONCE : ℕ
NONCE = 16

-- no field of bytes
abbrev pub no_sizes : FieldSizes
no_sizes = record { alias = 0; nonce = 0; out = 0; blob = 0; list = 0; entries = 0 }

-- The most bytes of each field in a reply of the act, and the most entries, with an output of at most so many bytes: a new key's reply may
-- have a sealed key, that of a begin a nonce, that of getKeyEntry an alias and a list, that of a listing entries, and that of a leave an
-- output. No other reply has bytes.
abbrev pub sizes_of : Act → ℕ → FieldSizes
sizes_of (GenerateKey key params) out = record no_sizes { blob = BLOB_BYTES }
sizes_of (UpgradeKey key params) out = record no_sizes { blob = BLOB_BYTES }
sizes_of (ImportKey key params format material) out = record no_sizes { blob = BLOB_BYTES }
sizes_of (ImportWrappedKey key params wrapping wrapped unwrapping) out = record no_sizes { blob = BLOB_BYTES }
sizes_of (CreateOperation key params forced) out = record no_sizes { nonce = NONCE }
sizes_of (GetKeyEntry key) out = record no_sizes { alias = ALIAS_BYTES; list = KEPT_LIST_BYTES }
sizes_of (ListEntriesBatched domain nspace past) out = record no_sizes { entries = LISTED }
sizes_of (Leave ticket) out = record no_sizes { out = out }
sizes_of _ out = no_sizes

-- a field of at most so many bytes
abbrev pub IsWithin : ℕ → Option (List ℕ) → Type 0
IsWithin most None = ⊤
IsWithin most (Some bytes) = length bytes ≤ most

-- a listing of at most so many entries, each with the bytes of an alias at most
abbrev pub AreWithin : ℕ → List (List ℕ × ℕ) → Type 0
AreWithin most entries = (length entries ≤ most) × All (λ (entry : List ℕ × ℕ). length entry.0 ≤ ALIAS_BYTES) entries

-- a listing, where there is one, has no more entries than that
abbrev pub IsListingWithin : ℕ → Option (List (List ℕ × ℕ)) → Type 0
IsListingWithin most None = ⊤
IsListingWithin most (Some entries) = AreWithin most entries

-- no field of a reply is longer than its room
pub record FieldsFit (sizes : FieldSizes) (fields : Fields) : Type 0 where
  pub alias : IsWithin sizes.alias fields.alias
  pub nonce : IsWithin sizes.nonce fields.nonce
  pub out : IsWithin sizes.out fields.out
  pub blob : IsWithin sizes.blob fields.blob
  pub list : IsWithin sizes.list fields.list
  pub entries : IsListingWithin sizes.entries fields.entries

-- a reply fits where each of its fields does
abbrev pub Fits : FieldSizes → Reply → Type 0
Fits sizes (Done fields) = FieldsFit sizes fields
Fits sizes (Broken rule code) = ⊤
Fits sizes (Stopped code) = ⊤
