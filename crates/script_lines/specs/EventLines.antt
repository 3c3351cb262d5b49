-- The line that an event spells: the compact JSON text of an object with its members in byte order. What is absent is left out.
use Rattle.std.specs.Prelude.{ℕ, List, codes, if◌then◌else◌}
use Rattle.ks_outside.specs.declared.clock.Reading.{Reading}
use Rattle.tags.specs.declared.descriptor.Descriptor.{Descriptor}
use Rattle.rule_model.specs.Acts.{kind_of, row_of, text_of}
use Rattle.rule_model.specs.declared.event.Act.{Act}
use Rattle.rule_model.specs.declared.event.Act.TheVariants.{Connect, Disconnect, GenerateKey, ImportKey, CreateOperation, EnterAad, EnterUpdate, EnterFinish, Abort, GetKeyEntry, DeleteKey, Grant, Ungrant, GetNumberOfEntries, ListEntriesBatched, AddAuthToken, DeviceLocked, DeviceUnlocked, EarlyBootEnded, ClearNamespace, UserRemoved, Leave, Restart, UpgradeKey, ImportWrappedKey}
use Rattle.rule_model.specs.declared.event.Event.{Event}
use Rattle.serde_json.specs.Data.{Data, string, boolean, array, object, item, no_items, Members, no_members, put}
use Rattle.serde_json.specs.Written.{compact_text}
use Rattle.line_members.specs.Values.{hex_data, number_data, alias_data, with_field}

-- ---- values

-- the boot time and the wall time
abbrev pub reading_data : Reading → Data
reading_data reading = array (item (number_data reading.boot) (item (number_data reading.wall) no_items))

-- a descriptor; what is absent is left out
abbrev pub key_members : Descriptor → Members
key_members key =
    with_field hex_data (codes "blob") key.blob
    (with_field alias_data (codes "alias") key.alias
    (put (codes "nspace") (number_data key.nspace)
    (put (codes "domain") (number_data key.domain) no_members)))

-- ---- the fields of each act

abbrev pub with_descriptor : List ℕ → Descriptor → Members → Members
with_descriptor name key members = put name (object (key_members key)) members

abbrev pub with_key : Descriptor → Members → Members
with_key key members = with_descriptor (codes "key") key members

abbrev pub with_params : List ℕ → Members → Members
with_params params members = put (codes "params") (hex_data params) members

abbrev pub with_number : List ℕ → ℕ → Members → Members
with_number name number members = put name (number_data number) members

abbrev pub with_hex : List ℕ → List ℕ → Members → Members
with_hex name bytes members = put name (hex_data bytes) members

abbrev pub with_owner : ℕ → ℕ → Members → Members
with_owner domain nspace members = with_number (codes "nspace") nspace (with_number (codes "domain") domain members)

-- the members, with one for each field of the act; what is absent is left out
abbrev pub with_act : Act → Members → Members
with_act (Connect uid) members = with_number (codes "uid") uid members
with_act Disconnect members = members
with_act (GenerateKey key params) members = with_params params (with_key key members)
with_act (ImportKey key params format material) members =
    with_hex (codes "material") material (with_number (codes "format") format (with_params params (with_key key members)))
with_act (CreateOperation key params forced) members = put (codes "forced") (boolean forced) (with_params params (with_key key members))
with_act (EnterAad op input) members = with_hex (codes "input") input (with_number (codes "op") op members)
with_act (EnterUpdate op input) members = with_hex (codes "input") input (with_number (codes "op") op members)
with_act (EnterFinish op input signature) members =
    with_field hex_data (codes "signature") signature (with_hex (codes "input") input (with_number (codes "op") op members))
with_act (Abort op) members = with_number (codes "op") op members
with_act (GetKeyEntry key) members = with_key key members
with_act (DeleteKey key) members = with_key key members
with_act (Grant key uid bits) members = with_number (codes "bits") bits (with_number (codes "uid") uid (with_key key members))
with_act (Ungrant key uid) members = with_number (codes "uid") uid (with_key key members)
with_act (GetNumberOfEntries domain nspace) members = with_owner domain nspace members
with_act (ListEntriesBatched domain nspace past) members = with_field alias_data (codes "past") past (with_owner domain nspace members)
with_act (AddAuthToken challenge user authenticator kind time mac) members =
    with_hex (codes "mac") mac
    (with_number (codes "time") time
    (with_number (codes "kind") kind
    (with_number (codes "authenticator") authenticator
    (with_number (codes "user") user
    (with_number (codes "challenge") challenge members)))))
with_act (DeviceLocked user) members = with_number (codes "user") user members
with_act (DeviceUnlocked user) members = with_number (codes "user") user members
with_act EarlyBootEnded members = members
with_act (ClearNamespace domain nspace) members = with_owner domain nspace members
with_act (UserRemoved user) members = with_number (codes "user") user members
with_act (Leave ticket) members = with_number (codes "ticket") ticket members
with_act (Restart root) members = with_field hex_data (codes "root") root members
with_act (UpgradeKey key params) members = with_params params (with_key key members)
with_act (ImportWrappedKey key params wrapping wrapped unwrapping) members =
    with_hex (codes "unwrapping") unwrapping
    (with_hex (codes "wrapped") wrapped
    (with_descriptor (codes "wrapping") wrapping
    (with_params params (with_key key members))))

-- ---- an event

-- the client, where the act has one
abbrev pub with_client : Event → Members → Members
with_client event members = if (row_of (kind_of event.act)).has_client then with_number (codes "c") event.client members else members

abbrev pub event_members : Event → Members
event_members event =
    with_act event.act
    (with_client event
    (put (codes "do") (string (text_of (kind_of event.act)))
    (put (codes "t") (reading_data event.reading) no_members)))

-- the compact text of an event's object
abbrev pub event_line : Event → List ℕ
event_line event = compact_text (object (event_members event))
