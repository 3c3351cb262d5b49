-- How an act is spelled in a frame. Numbers are big-endian.
use Rattle.std.specs.Prelude.{◌≡◌, ℕ, ◌<◌, ◌≤◌, ◌^◌, Bool, true, false, List, [], ◌∷◌, ◌++◌, length, Option, if◌then◌else◌}
use Rattle.byteorder.specs.Endian.{big_bytes}
use Rattle.byte_strings.specs.Fields as fields
use Rattle.byte_strings.specs.Fields.{flag}
use Rattle.tags.specs.declared.descriptor.Descriptor.{Descriptor}
use Rattle.rule_model.specs.Acts.{fixed_for, is_framed}
use Rattle.rule_model.specs.declared.event.Act.{Act}
use Rattle.rule_model.specs.declared.event.Act.TheVariants.{Connect, Disconnect, GenerateKey, ImportKey, CreateOperation, EnterAad, EnterUpdate, EnterFinish, Abort, GetKeyEntry, DeleteKey, Grant, Ungrant, GetNumberOfEntries, ListEntriesBatched, AddAuthToken, DeviceLocked, DeviceUnlocked, EarlyBootEnded, ClearNamespace, UserRemoved, Leave, Restart, UpgradeKey, ImportWrappedKey}
use Rattle.tags.specs.declared.limits.TheConstants.{FRAME_BYTES}

-- ---- fields

-- a length of four bytes, and so many bytes
abbrev pub counted : List ℕ → List ℕ
counted bytes = fields.counted 4 bytes

-- a byte 00, or a byte 01 and counted bytes
abbrev pub optional : Option (List ℕ) → List ℕ
optional bytes = fields.optional 4 bytes

abbrev pub key_of : Descriptor → List ℕ
key_of key = big_bytes 4 key.domain ++ (big_bytes 8 key.nspace ++ (optional key.alias ++ optional key.blob))

-- ---- bodies

-- the fields of the act in their order; three acts have no frame
abbrev pub fields_of : Act → List ℕ
fields_of (Connect uid) = big_bytes 4 uid
fields_of Disconnect = []
fields_of (GenerateKey key params) = key_of key ++ counted params
fields_of (ImportKey key params format material) = key_of key ++ (counted params ++ (big_bytes 4 format ++ counted material))
fields_of (CreateOperation key params forced) = key_of key ++ (counted params ++ flag forced)
fields_of (EnterAad op input) = big_bytes 8 op ++ counted input
fields_of (EnterUpdate op input) = big_bytes 8 op ++ counted input
fields_of (EnterFinish op input signature) = big_bytes 8 op ++ (counted input ++ optional signature)
fields_of (Abort op) = big_bytes 8 op
fields_of (GetKeyEntry key) = key_of key
fields_of (DeleteKey key) = key_of key
fields_of (Grant key uid bits) = key_of key ++ (big_bytes 4 uid ++ big_bytes 4 bits)
fields_of (Ungrant key uid) = key_of key ++ big_bytes 4 uid
fields_of (GetNumberOfEntries domain nspace) = big_bytes 4 domain ++ big_bytes 8 nspace
fields_of (ListEntriesBatched domain nspace past) = big_bytes 4 domain ++ (big_bytes 8 nspace ++ optional past)
fields_of (AddAuthToken challenge user authenticator kind time mac) =
    big_bytes 8 challenge ++ (big_bytes 8 user ++ (big_bytes 8 authenticator ++ (big_bytes 4 kind ++ (big_bytes 8 time ++ mac))))
fields_of (DeviceLocked user) = big_bytes 4 user
fields_of (DeviceUnlocked user) = big_bytes 4 user
fields_of EarlyBootEnded = []
fields_of (ClearNamespace domain nspace) = big_bytes 4 domain ++ big_bytes 8 nspace
fields_of (UserRemoved user) = big_bytes 4 user
fields_of (Leave ticket) = []
fields_of (Restart root) = []
fields_of (UpgradeKey key params) = key_of key ++ counted params
fields_of (ImportWrappedKey key params wrapping wrapped unwrapping) =
    key_of key ++ (counted params ++ (key_of wrapping ++ (counted wrapped ++ counted unwrapping)))

-- the number of the act and its fields, where it has a frame
abbrev pub body_of : Act → List ℕ
body_of act = if is_framed act then (fixed_for act).number ∷ fields_of act else []

-- the length of the body, and the body
unfoldable pub frame_of : Act → List ℕ
frame_of act = counted (body_of act)

-- ---- which acts have a frame

abbrev pub IsShort : Option (List ℕ) → Type 0
IsShort bytes = fields.IsCounted 4 bytes

abbrev pub IsKey : Descriptor → Type 0
IsKey key = (key.domain < 2 ^ 32) × ((key.nspace < 2 ^ 64) × (IsShort key.alias × IsShort key.blob))

-- each number has its width, and each length of bytes four bytes
abbrev pub AreFields : Act → Type 0
AreFields (Connect uid) = uid < 2 ^ 32
AreFields Disconnect = ⊥
AreFields (GenerateKey key params) = IsKey key × (length params < 2 ^ 32)
AreFields (ImportKey key params format material) = IsKey key × (length params < 2 ^ 32) × (format < 2 ^ 32) × (length material < 2 ^ 32)
AreFields (CreateOperation key params forced) = IsKey key × (length params < 2 ^ 32)
AreFields (EnterAad op input) = (op < 2 ^ 64) × (length input < 2 ^ 32)
AreFields (EnterUpdate op input) = (op < 2 ^ 64) × (length input < 2 ^ 32)
AreFields (EnterFinish op input signature) = (op < 2 ^ 64) × (length input < 2 ^ 32) × IsShort signature
AreFields (Abort op) = op < 2 ^ 64
AreFields (GetKeyEntry key) = IsKey key
AreFields (DeleteKey key) = IsKey key
AreFields (Grant key uid bits) = IsKey key × (uid < 2 ^ 32) × (bits < 2 ^ 32)
AreFields (Ungrant key uid) = IsKey key × (uid < 2 ^ 32)
AreFields (GetNumberOfEntries domain nspace) = (domain < 2 ^ 32) × (nspace < 2 ^ 64)
AreFields (ListEntriesBatched domain nspace past) = (domain < 2 ^ 32) × (nspace < 2 ^ 64) × IsShort past
AreFields (AddAuthToken challenge user authenticator kind time mac) =
    (challenge < 2 ^ 64) × (user < 2 ^ 64) × (authenticator < 2 ^ 64) × (kind < 2 ^ 32) × (time < 2 ^ 64) × (length mac ≡ 32)
AreFields (DeviceLocked user) = user < 2 ^ 32
AreFields (DeviceUnlocked user) = user < 2 ^ 32
AreFields EarlyBootEnded = Unit {0}
AreFields (ClearNamespace domain nspace) = (domain < 2 ^ 32) × (nspace < 2 ^ 64)
AreFields (UserRemoved user) = user < 2 ^ 32
AreFields (Leave ticket) = ⊥
AreFields (Restart root) = ⊥
AreFields (UpgradeKey key params) = IsKey key × (length params < 2 ^ 32)
AreFields (ImportWrappedKey key params wrapping wrapped unwrapping) =
    IsKey key × (length params < 2 ^ 32) × IsKey wrapping × (length wrapped < 2 ^ 32) × (length unwrapping < 2 ^ 32)

-- one on a key that a descriptor names
abbrev pub is_on_key : Act → Bool
is_on_key (GenerateKey key params) = true
is_on_key (ImportKey key params format material) = true
is_on_key (CreateOperation key params forced) = true
is_on_key (GetKeyEntry key) = true
is_on_key (DeleteKey key) = true
is_on_key (Grant key uid bits) = true
is_on_key (Ungrant key uid) = true
is_on_key (UpgradeKey key params) = true
is_on_key (ImportWrappedKey key params wrapping wrapped unwrapping) = true
is_on_key act = false

-- one that brings a token
abbrev pub is_token : Act → Bool
is_token (AddAuthToken challenge user authenticator kind time mac) = true
is_token act = false

-- a frame can hold the act
abbrev pub IsRequest : Act → Type 0
IsRequest act = AreFields act × (length (body_of act) ≤ FRAME_BYTES)
