-- Reading the body of a frame from left to right.
use Rattle.std.specs.Prelude.{◌≡◌, ℕ, List, Option, Some, None, Result, Ok, Err}
use Rattle.byte_strings.specs.Readers.{Reader, byte_at, number_at, bytes_at, counted_at, optional_at, flag_at, ◌>>=◌, done, ended}
use Rattle.tags.specs.declared.descriptor.Descriptor.{Descriptor}
use Rattle.rule_model.specs.declared.act_kind.ActKind.{ActKind}
use Rattle.rule_model.specs.declared.act_kind.ActKind.TheVariants as kinds
use Rattle.rule_model.specs.Acts.{kind_numbered}
use Rattle.rule_model.specs.declared.event.Act.{Act}
use Rattle.rule_model.specs.declared.event.Act.TheVariants.{Connect, GenerateKey, ImportKey, CreateOperation, EnterAad, EnterUpdate, EnterFinish, Abort, GetKeyEntry, DeleteKey, Grant, Ungrant, GetNumberOfEntries, ListEntriesBatched, AddAuthToken, DeviceLocked, DeviceUnlocked, EarlyBootEnded, ClearNamespace, UserRemoved, UpgradeKey, ImportWrappedKey}
use Rattle.wire_frames.specs.declared.fault.BodyFault.{BodyFault}
use Rattle.wire_frames.specs.declared.fault.BodyFault.TheVariants.{Bad, Memory}

-- what a reader returned, seen by view, is what reading gives, unless memory was wanting
abbrev pub Says : {X Y : Type 0} → (X → Y) → Result X BodyFault → Option Y → Type 0
Says view (Ok x) read = read ≡ Some (view x)
Says view (Err Bad) read = read ≡ None
Says view (Err Memory) read = Unit {0}

-- ---- fields

unfoldable pub key_at : Reader Descriptor
key_at = do
  domain ← number_at 4
  nspace ← number_at 8
  alias ← optional_at 4
  blob ← optional_at 4
  done (record { domain = domain; nspace = nspace; alias = alias; blob = blob })

-- an owner: its domain, and its uid or namespace
abbrev pub owner_at : Reader (ℕ × ℕ)
owner_at = do
  domain ← number_at 4
  nspace ← number_at 8
  done (domain, nspace)

-- ---- the fields of each act

abbrev pub connected_at : Reader Act
connected_at = do
  uid ← number_at 4
  done (Connect uid)

abbrev pub generated_at : Reader Act
generated_at = do
  key ← key_at
  params ← counted_at 4
  done (GenerateKey key params)

unfoldable pub imported_at : Reader Act
imported_at = do
  key ← key_at
  params ← counted_at 4
  format ← number_at 4
  material ← counted_at 4
  done (ImportKey key params format material)

unfoldable pub created_at : Reader Act
created_at = do
  key ← key_at
  params ← counted_at 4
  forced ← flag_at
  done (CreateOperation key params forced)

abbrev pub aad_at : Reader Act
aad_at = do
  op ← number_at 8
  input ← counted_at 4
  done (EnterAad op input)

abbrev pub update_at : Reader Act
update_at = do
  op ← number_at 8
  input ← counted_at 4
  done (EnterUpdate op input)

abbrev pub finish_at : Reader Act
finish_at = do
  op ← number_at 8
  input ← counted_at 4
  signature ← optional_at 4
  done (EnterFinish op input signature)

abbrev pub aborted_at : Reader Act
aborted_at = do
  op ← number_at 8
  done (Abort op)

abbrev pub found_at : Reader Act
found_at = do
  key ← key_at
  done (GetKeyEntry key)

abbrev pub deleted_at : Reader Act
deleted_at = do
  key ← key_at
  done (DeleteKey key)

abbrev pub granted_at : Reader Act
granted_at = do
  key ← key_at
  uid ← number_at 4
  bits ← number_at 4
  done (Grant key uid bits)

abbrev pub ungranted_at : Reader Act
ungranted_at = do
  key ← key_at
  uid ← number_at 4
  done (Ungrant key uid)

abbrev pub counted_entries_at : Reader Act
counted_entries_at = do
  domain ← number_at 4
  nspace ← number_at 8
  done (GetNumberOfEntries domain nspace)

abbrev pub listed_at : Reader Act
listed_at = do
  domain ← number_at 4
  nspace ← number_at 8
  past ← optional_at 4
  done (ListEntriesBatched domain nspace past)

unfoldable pub token_at : Reader Act
token_at = do
  challenge ← number_at 8
  user ← number_at 8
  authenticator ← number_at 8
  kind ← number_at 4
  time ← number_at 8
  mac ← bytes_at 32
  done (AddAuthToken challenge user authenticator kind time mac)

abbrev pub locked_at : Reader Act
locked_at = do
  user ← number_at 4
  done (DeviceLocked user)

abbrev pub unlocked_at : Reader Act
unlocked_at = do
  user ← number_at 4
  done (DeviceUnlocked user)

abbrev pub booted_at : Reader Act
booted_at = done EarlyBootEnded

abbrev pub cleared_at : Reader Act
cleared_at = do
  domain ← number_at 4
  nspace ← number_at 8
  done (ClearNamespace domain nspace)

abbrev pub removed_at : Reader Act
removed_at = do
  user ← number_at 4
  done (UserRemoved user)

abbrev pub upgraded_at : Reader Act
upgraded_at = do
  key ← key_at
  params ← counted_at 4
  done (UpgradeKey key params)

unfoldable pub wrapped_at : Reader Act
wrapped_at = do
  key ← key_at
  params ← counted_at 4
  wrapping ← key_at
  wrapped ← counted_at 4
  unwrapping ← counted_at 4
  done (ImportWrappedKey key params wrapping wrapped unwrapping)

-- no frame has such an act
abbrev pub nothing_at : Reader Act
nothing_at bytes = None

-- the fields of an act of a kind
abbrev pub fields_of : ActKind → Reader Act
fields_of kinds.Connect = connected_at
fields_of kinds.Disconnect = nothing_at
fields_of kinds.GenerateKey = generated_at
fields_of kinds.ImportKey = imported_at
fields_of kinds.CreateOperation = created_at
fields_of kinds.UpdateAad = aad_at
fields_of kinds.Update = update_at
fields_of kinds.Finish = finish_at
fields_of kinds.Abort = aborted_at
fields_of kinds.GetKeyEntry = found_at
fields_of kinds.DeleteKey = deleted_at
fields_of kinds.Grant = granted_at
fields_of kinds.Ungrant = ungranted_at
fields_of kinds.GetNumberOfEntries = counted_entries_at
fields_of kinds.ListEntriesBatched = listed_at
fields_of kinds.AddAuthToken = token_at
fields_of kinds.DeviceLocked = locked_at
fields_of kinds.DeviceUnlocked = unlocked_at
fields_of kinds.EarlyBootEnded = booted_at
fields_of kinds.ClearNamespace = cleared_at
fields_of kinds.UserRemoved = removed_at
fields_of kinds.Leave = nothing_at
fields_of kinds.Restart = nothing_at
fields_of kinds.UpgradeKey = upgraded_at
fields_of kinds.ImportWrappedKey = wrapped_at

-- ---- bodies

-- the fields behind a number, where an act has it
abbrev pub fields_at : Option ActKind → Reader Act
fields_at None = nothing_at
fields_at (Some kind) = fields_of kind

-- the number of an act, and its fields
abbrev pub act_at : Reader Act
act_at = do
  number ← byte_at
  fields_at (kind_numbered number)

-- the act that a body spells
unfoldable pub act_in : List ℕ → Option Act
act_in body = ended (act_at body)
