-- The acts of a script: their names, and which members stand for their fields.
use Rattle.std.specs.Prelude.{ℕ, List, [], codes, Bool, false, if◌then◌else◌, Option, Some}
use Rattle.tags.specs.declared.descriptor.Descriptor.{Descriptor}
use Rattle.rule_model.specs.declared.event.Act.{Act}
use Rattle.rule_model.specs.declared.event.Act.TheVariants as acts
use Rattle.rule_model.specs.declared.event.Event.{Event}
use Rattle.ks_outside.specs.declared.clock.Reading.{Reading}
use Rattle.rule_model.specs.Acts.{kind_named, row_of}
use Rattle.serde_json.specs.Data.{Data}
use Rattle.serde_json.specs.Find.{as_bool, as_str}
use Rattle.line_members.specs.Members.{◌>>=◌, u32_of, u64_of, hex_of, hex_32_of, two_of, needed, defaulted, optional, alias_of}
use Rattle.line_members.specs.declared.alias_form.AliasForm.{AliasForm}
use Rattle.line_members.specs.declared.alias_form.AliasForm.TheVariants.{Text}
use Rattle.script_lines.specs.Params.{list_at, params_of}
use Rattle.rule_model.specs.declared.act_kind.ActKind.{ActKind}
use Rattle.rule_model.specs.declared.act_kind.ActKind.TheVariants.{Connect, Disconnect, GenerateKey, ImportKey, CreateOperation, UpdateAad, Update, Finish, Abort, GetKeyEntry, DeleteKey, Grant, Ungrant, GetNumberOfEntries, ListEntriesBatched, AddAuthToken, DeviceLocked, DeviceUnlocked, EarlyBootEnded, ClearNamespace, UserRemoved, Leave, Restart, UpgradeKey, ImportWrappedKey}

-- a descriptor: an object with a domain, a namespace, an alias and a blob in hex
abbrev pub descriptor_of : AliasForm → Data → Option Descriptor
descriptor_of form members = do
  domain ← needed u32_of (codes "domain") members
  nspace ← defaulted 0 u64_of (codes "nspace") members
  alias ← optional (alias_of form) (codes "alias") members
  blob ← optional hex_of (codes "blob") members
  Some (record { domain = domain; nspace = nspace; alias = alias; blob = blob })

abbrev pub key_of : AliasForm → Data → Option Descriptor
key_of form members = needed (descriptor_of form) (codes "key") members

-- ---- the fields of each act

abbrev pub generate_key : AliasForm → Data → Option Act
generate_key form members = do
  key ← key_of form members
  params ← params_of members
  Some (acts.GenerateKey key params)

abbrev pub upgrade_key : AliasForm → Data → Option Act
upgrade_key form members = do
  key ← key_of form members
  params ← params_of members
  Some (acts.UpgradeKey key params)

abbrev pub import_key : AliasForm → Data → Option Act
import_key form members = do
  key ← key_of form members
  params ← params_of members
  format ← needed u32_of (codes "format") members
  material ← needed hex_of (codes "material") members
  Some (acts.ImportKey key params format material)

-- the wrapping key is named as a key is, and the list with its ids is written as another one
abbrev pub import_wrapped_key : AliasForm → Data → Option Act
import_wrapped_key form members = do
  key ← key_of form members
  params ← params_of members
  wrapping ← needed (descriptor_of form) (codes "wrapping") members
  wrapped ← needed hex_of (codes "wrapped") members
  unwrapping ← list_at (codes "unwrapping") members
  Some (acts.ImportWrappedKey key params wrapping wrapped unwrapping)

abbrev pub create_operation : AliasForm → Data → Option Act
create_operation form members = do
  key ← key_of form members
  params ← params_of members
  forced ← defaulted false as_bool (codes "forced") members
  Some (acts.CreateOperation key params forced)

abbrev pub op_of : Data → Option ℕ
op_of members = needed u64_of (codes "op") members

abbrev pub input_of : Data → Option (List ℕ)
input_of members = defaulted [] hex_of (codes "input") members

abbrev pub update_aad : Data → Option Act
update_aad members = do
  op ← op_of members
  input ← input_of members
  Some (acts.EnterAad op input)

abbrev pub update : Data → Option Act
update members = do
  op ← op_of members
  input ← input_of members
  Some (acts.EnterUpdate op input)

abbrev pub finish : Data → Option Act
finish members = do
  op ← op_of members
  input ← input_of members
  signature ← optional hex_of (codes "signature") members
  Some (acts.EnterFinish op input signature)

abbrev pub uid_of : Data → Option ℕ
uid_of members = needed u32_of (codes "uid") members

abbrev pub user_of : Data → Option ℕ
user_of members = needed u32_of (codes "user") members

abbrev pub grant : AliasForm → Data → Option Act
grant form members = do
  key ← key_of form members
  uid ← uid_of members
  bits ← needed u32_of (codes "bits") members
  Some (acts.Grant key uid bits)

abbrev pub ungrant : AliasForm → Data → Option Act
ungrant form members = do
  key ← key_of form members
  uid ← uid_of members
  Some (acts.Ungrant key uid)

abbrev pub domain_of : Data → Option ℕ
domain_of members = needed u32_of (codes "domain") members

abbrev pub nspace_of : Data → Option ℕ
nspace_of members = defaulted 0 u64_of (codes "nspace") members

abbrev pub number_of_entries : Data → Option Act
number_of_entries members = do
  domain ← domain_of members
  nspace ← nspace_of members
  Some (acts.GetNumberOfEntries domain nspace)

abbrev pub list_entries : AliasForm → Data → Option Act
list_entries form members = do
  domain ← domain_of members
  nspace ← nspace_of members
  past ← optional (alias_of form) (codes "past") members
  Some (acts.ListEntriesBatched domain nspace past)

abbrev pub add_auth_token : Data → Option Act
add_auth_token members = do
  challenge ← needed u64_of (codes "challenge") members
  user ← needed u64_of (codes "user") members
  authenticator ← needed u64_of (codes "authenticator") members
  kind ← needed u32_of (codes "kind") members
  time ← needed u64_of (codes "time") members
  mac ← needed hex_32_of (codes "mac") members
  Some (acts.AddAuthToken challenge user authenticator kind time mac)

abbrev pub clear_namespace : Data → Option Act
clear_namespace members = do
  domain ← domain_of members
  nspace ← nspace_of members
  Some (acts.ClearNamespace domain nspace)

-- the act of a name, with its fields from the members of the line
abbrev pub act_of : AliasForm → ActKind → Data → Option Act
act_of form Connect members = uid_of members >>= λ uid. Some (acts.Connect uid)
act_of form Disconnect members = Some acts.Disconnect
act_of form GenerateKey members = generate_key form members
act_of form ImportKey members = import_key form members
act_of form CreateOperation members = create_operation form members
act_of form UpdateAad members = update_aad members
act_of form Update members = update members
act_of form Finish members = finish members
act_of form Abort members = op_of members >>= λ op. Some (acts.Abort op)
act_of form GetKeyEntry members = key_of form members >>= λ key. Some (acts.GetKeyEntry key)
act_of form DeleteKey members = key_of form members >>= λ key. Some (acts.DeleteKey key)
act_of form Grant members = grant form members
act_of form Ungrant members = ungrant form members
act_of form GetNumberOfEntries members = number_of_entries members
act_of form ListEntriesBatched members = list_entries form members
act_of form AddAuthToken members = add_auth_token members
act_of form DeviceLocked members = user_of members >>= λ user. Some (acts.DeviceLocked user)
act_of form DeviceUnlocked members = user_of members >>= λ user. Some (acts.DeviceUnlocked user)
act_of form EarlyBootEnded members = Some acts.EarlyBootEnded
act_of form ClearNamespace members = clear_namespace members
act_of form UserRemoved members = user_of members >>= λ user. Some (acts.UserRemoved user)
act_of form Leave members = needed u64_of (codes "ticket") members >>= λ ticket. Some (acts.Leave ticket)
act_of form Restart members = optional hex_32_of (codes "root") members >>= λ root. Some (acts.Restart root)
act_of form UpgradeKey members = upgrade_key form members
act_of form ImportWrappedKey members = import_wrapped_key form members

-- an act without an alias, which is read alike in both forms
abbrev pub plain_act_of : ActKind → Data → Option Act
plain_act_of name members = act_of Text name members

-- ---- who, when, and whether an enter waits for its leave

-- the client's number; for acts of no client it is 0, and the member is not looked at
abbrev pub client_of : ActKind → Data → Option ℕ
client_of name members = if (row_of name).has_client then needed u64_of (codes "c") members else Some 0

-- whether an enter waits for its leave; for other acts the member is not looked at
abbrev pub hold_of : ActKind → Data → Option Bool
hold_of name members = if (row_of name).enters then defaulted false as_bool (codes "hold") members else Some false

-- two numbers, in milliseconds: since the start, and since 1970
abbrev pub reading_of : Data → Option Reading
reading_of members = do
  both ← needed two_of (codes "t") members
  boot ← u64_of both.0
  wall ← u64_of both.1
  Some (record { boot = boot; wall = wall })

abbrev pub name_of : Data → Option ActKind
name_of members = needed as_str (codes "do") members >>= kind_named

-- an object with a reading, the act's name, a client where the act has one, and the act's fields
abbrev pub event_in : AliasForm → Data → Option Event
event_in form members = do
  reading ← reading_of members
  name ← name_of members
  client ← client_of name members
  act ← act_of form name members
  Some (record { reading = reading; client = client; act = act })
