-- Blobs: how one is made, and what opening one answers.
use Rattle.std.specs.Prelude.{◌≡◌, ℕ, Bool, true, false, not, ◌&&◌, List, [], ◌∷◌, ◌++◌, length, take, drop, Option, Some, None, Result, Ok, Err, nat_lt, if◌then◌else◌}
use Rattle.std.specs.Option.{ok_or}
use Rattle.std.specs.Str.{bytes_eq}
use Rattle.aes_core.specs.Cipher.{cipher}
use Rattle.gcm_mode.specs.Gcm.{gcm_seal, gcm_open}
use Rattle.tags.specs.declared.param.Param.{Param}
use Rattle.tags.specs.declared.secrets.DeviceSecrets.{DeviceSecrets}
use Rattle.tags.specs.declared.tag.Tag.TheVariants.{ApplicationId, ApplicationData}
use Rattle.tag_lists.specs.Lookups.{bytes_of}
use Rattle.key_blobs.specs.declared.sealed.Sealed.{Sealed}
use Rattle.key_blobs.specs.declared.sealed.Opened.{Opened}
use Rattle.key_blobs.specs.declared.fault.BlobFault.{BlobFault}
use Rattle.key_blobs.specs.declared.fault.BlobFault.TheVariants.{Format, Tag, Root, App, Memory}
use Rattle.key_blobs.specs.Text.{text_of, sealed_in}

-- the four bytes at the start of a blob, "KSB1", which are also the additional data under its tag
abbrev pub START : List ℕ
START = 75 ∷ 83 ∷ 66 ∷ 49 ∷ []

-- the blob of what is sealed: the start, the nonce of 12 bytes, and AES-256-GCM (SP 800-38D section 7.1) of its text with a
-- tag of 16 bytes
unfoldable pub blob_of : List ℕ → List ℕ → Sealed → List ℕ
blob_of key nonce x = START ++ (nonce ++ gcm_seal (cipher key) nonce 16 START (text_of x))

-- what is sealed for a device with its root of trust, and for the application id and data of a list: the kept list and the
-- material
abbrev pub sealed_for : DeviceSecrets → List Param → List Param → List ℕ → Sealed
sealed_for device ids list material = record {
  root = device.root;
  app_id = bytes_of ApplicationId ids;
  app_bytes = bytes_of ApplicationData ids;
  list = list;
  material = material;
}

-- the bytes have the form of a blob
abbrev pub is_blob : List ℕ → Bool
is_blob blob = not (nat_lt (length blob) 32) && bytes_eq (take 4 blob) START

-- the text of a blob under a key (SP 800-38D section 7.2)
abbrev pub text_in : List ℕ → List ℕ → Option (List ℕ)
text_in key blob = gcm_open (cipher key) (take 12 (drop 4 blob)) 16 START (drop 16 blob)

infixl 10 ◌>>=◌
abbrev pub ◌>>=◌ : {A B : Type 0} → Result A BlobFault → (A → Result B BlobFault) → Result B BlobFault
(Ok x) >>= f = f x
(Err e) >>= f = Err e

-- the text of a blob, or why there is none
abbrev pub text_of_blob : List ℕ → List ℕ → Result (List ℕ) BlobFault
text_of_blob key blob = if is_blob blob then ok_or (text_in key blob) Tag else Err Format

-- what stands in an opened text
abbrev pub held : List ℕ → Result Sealed BlobFault
held text = ok_or (sealed_in text) Format

-- what was sealed into a blob
unfoldable pub opened : List ℕ → List ℕ → Result Sealed BlobFault
opened key blob = text_of_blob key blob >>= held

-- both are absent, or both are there and equal
abbrev pub same_id : Option (List ℕ) → Option (List ℕ) → Bool
same_id None None = true
same_id (Some a) (Some b) = bytes_eq a b
same_id _ _ = false

-- what a device with this root of trust answers a caller with these ids
abbrev pub compared : List ℕ → Option (List ℕ) → Option (List ℕ) → Sealed → Result Opened BlobFault
compared root app_id app_bytes x =
    if not (bytes_eq x.root root) then Err Root else
    if not (same_id x.app_id app_id) then Err App else
    if not (same_id x.app_bytes app_bytes) then Err App else
    Ok (record { list = x.list; material = x.material })

-- the same, of an opened text
abbrev pub answered : List ℕ → Option (List ℕ) → Option (List ℕ) → List ℕ → Result Opened BlobFault
answered root app_id app_bytes text = held text >>= compared root app_id app_bytes

-- what opening a blob answers, unless memory is wanting: the first of the faults, or list and material
abbrev pub unsealed : List ℕ → List ℕ → Option (List ℕ) → Option (List ℕ) → List ℕ → Result Opened BlobFault
unsealed key root app_id app_bytes blob = text_of_blob key blob >>= answered root app_id app_bytes

-- the call gave this, or memory was wanting
abbrev pub Says : {X Y : Type 0} → (X → Y) → Result X BlobFault → Result Y BlobFault → Type 0
Says view (Ok x) said = said ≡ Ok (view x)
Says view (Err Format) said = said ≡ Err Format
Says view (Err Tag) said = said ≡ Err Tag
Says view (Err Root) said = said ≡ Err Root
Says view (Err App) said = said ≡ Err App
Says view (Err Memory) said = Unit {0}
