-- Which events have a line that is read back as them: each number and each text is of its width, and an act of no client has client 0.
-- It holds for what a script, a frame or the service makes.
use Rattle.std.specs.Prelude.{◌≡◌, ◌<◌, ◌^◌, false, IfSome}
use Rattle.hex.specs.Hex.{IsBytes}
use Rattle.tags.specs.declared.descriptor.Descriptor.{Descriptor}
use Rattle.rule_model.specs.Acts.{kind_of, row_of}
use Rattle.rule_model.specs.declared.event.Act.{Act}
use Rattle.rule_model.specs.declared.event.Act.TheVariants.{Connect, Disconnect, GenerateKey, ImportKey, CreateOperation, EnterAad, EnterUpdate, EnterFinish, Abort, GetKeyEntry, DeleteKey, Grant, Ungrant, GetNumberOfEntries, ListEntriesBatched, AddAuthToken, DeviceLocked, DeviceUnlocked, EarlyBootEnded, ClearNamespace, UserRemoved, Leave, Restart, UpgradeKey, ImportWrappedKey}
use Rattle.rule_model.specs.declared.event.Event.{Event}
use Rattle.line_members.specs.Whole.{IsAlias, Is32Bytes}
use Rattle.line_members.specs.declared.alias_form.AliasForm.{AliasForm}

abbrev pub IsKey : AliasForm → Descriptor → Type 0
IsKey form key = (key.domain < 2 ^ 32) × IfSome key.alias (IsAlias form) × IfSome key.blob IsBytes

abbrev pub AreFields : AliasForm → Act → Type 0
AreFields form (Connect uid) = uid < 2 ^ 32
AreFields form Disconnect = Unit {0}
AreFields form (GenerateKey key params) = IsKey form key × IsBytes params
AreFields form (ImportKey key params format material) = IsKey form key × IsBytes params × (format < 2 ^ 32) × IsBytes material
AreFields form (CreateOperation key params forced) = IsKey form key × IsBytes params
AreFields form (EnterAad op input) = IsBytes input
AreFields form (EnterUpdate op input) = IsBytes input
AreFields form (EnterFinish op input signature) = IsBytes input × IfSome signature IsBytes
AreFields form (Abort op) = Unit {0}
AreFields form (GetKeyEntry key) = IsKey form key
AreFields form (DeleteKey key) = IsKey form key
AreFields form (Grant key uid bits) = IsKey form key × (uid < 2 ^ 32) × (bits < 2 ^ 32)
AreFields form (Ungrant key uid) = IsKey form key × (uid < 2 ^ 32)
AreFields form (GetNumberOfEntries domain nspace) = domain < 2 ^ 32
AreFields form (ListEntriesBatched domain nspace past) = (domain < 2 ^ 32) × IfSome past (IsAlias form)
AreFields form (AddAuthToken challenge user authenticator kind time mac) = (kind < 2 ^ 32) × Is32Bytes mac
AreFields form (DeviceLocked user) = user < 2 ^ 32
AreFields form (DeviceUnlocked user) = user < 2 ^ 32
AreFields form EarlyBootEnded = Unit {0}
AreFields form (ClearNamespace domain nspace) = domain < 2 ^ 32
AreFields form (UserRemoved user) = user < 2 ^ 32
AreFields form (Leave ticket) = Unit {0}
AreFields form (Restart root) = IfSome root Is32Bytes
AreFields form (UpgradeKey key params) = IsKey form key × IsBytes params
AreFields form (ImportWrappedKey key params wrapping wrapped unwrapping) =
    IsKey form key × IsBytes params × IsKey form wrapping × IsBytes wrapped × IsBytes unwrapping

pub record IsToldWhole (form : AliasForm) (event : Event) : Type 0 where
  pub fields : AreFields form event.act
  pub client : (row_of (kind_of event.act)).has_client ≡ false → event.client ≡ 0
