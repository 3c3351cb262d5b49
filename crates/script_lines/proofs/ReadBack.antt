-- The object of an event is read back as the event.
use Rattle.std.proofs.Common.{◌≡◌, ◌<◌, ◌≤◌, ◌^◌, ℕ, List, false, Option, Some, None, IfSome, arith, refl}
use Rattle.std.specs.Str.{IsUtf8}
use Rattle.hex.specs.Hex.{IsBytes}
use Rattle.ks_outside.specs.declared.clock.Reading.{Reading}
use Rattle.tags.specs.declared.descriptor.Descriptor.{Descriptor}
use Rattle.rule_model.specs.Acts.{kind_of, row_of}
use Rattle.rule_model.specs.declared.event.Act.{Act}
use Rattle.rule_model.specs.declared.event.Act.TheVariants.{Connect, Disconnect, GenerateKey, ImportKey, CreateOperation, EnterAad, EnterUpdate, EnterFinish, Abort, GetKeyEntry, DeleteKey, Grant, Ungrant, GetNumberOfEntries, ListEntriesBatched, AddAuthToken, DeviceLocked, DeviceUnlocked, EarlyBootEnded, ClearNamespace, UserRemoved, Leave, Restart, UpgradeKey, ImportWrappedKey}
use Rattle.rule_model.specs.declared.event.Event.{Event}
use Rattle.serde_json.proofs.OnLiterals.{serde_json_on_literals}
use Rattle.serde_json.specs.Data.{object, depth}
use Rattle.serde_json.specs.Read.{read, max_depth}
use Rattle.line_members.specs.Whole.{IsAlias}
use Rattle.line_members.specs.declared.alias_form.AliasForm.{AliasForm}
use Rattle.line_members.specs.declared.alias_form.AliasForm.TheVariants.{Text}
use Rattle.line_members.proofs.ReadBack.{number_back, hex_back, hex_32_back, alias_back}
use Rattle.line_members.proofs.Texts.{parsed_as_read}
use Rattle.script_lines.specs.Acts.{descriptor_of, event_in, hold_of}
use Rattle.script_lines.specs.EventLines.{key_members, event_members}
use Rattle.script_lines.specs.Lines.{line_in, event_of}
use Rattle.script_lines.specs.ToldWhole.{IsKey, AreFields, IsToldWhole}
use Rattle.script_lines.proofs.Depths.{event_depth}

descriptor_back : (form : AliasForm) (domain nspace : ℕ) (alias blob : Option (List ℕ)) → domain < 2 ^ 32 → IfSome alias (IsAlias form) → IfSome blob IsBytes
    → descriptor_of form (object (key_members (record { domain = domain; nspace = nspace; alias = alias; blob = blob }))) ≡ Some (record { domain = domain; nspace = nspace; alias = alias; blob = blob })
descriptor_back form domain nspace None None width text bytes = rw (number_back domain width) refl
descriptor_back form domain nspace (Some alias) None width text bytes = rw (number_back domain width, alias_back form alias text) refl
descriptor_back form domain nspace None (Some blob) width text bytes = rw (number_back domain width, hex_back blob bytes) refl
descriptor_back form domain nspace (Some alias) (Some blob) width text bytes = rw (number_back domain width, alias_back form alias text, hex_back blob bytes) refl

key_back : (form : AliasForm) (key : Descriptor) → IsKey form key → descriptor_of form (object (key_members key)) ≡ Some key
key_back form key h = descriptor_back form key.domain key.nspace key.alias key.blob h.0 h.1 h.2

-- ---- acts

-- the event of an act, with its reading and its client
abbrev made : Reading → ℕ → Act → Event
made reading client act = record { reading = reading; client = client; act = act }

-- what is read of the object that is written
abbrev again : AliasForm → Event → Option Event
again form event = event_in form (object (event_members event))

act_back : (form : AliasForm) (reading : Reading) (client : ℕ) (act : Act) → AreFields form act → ((row_of (kind_of act)).has_client ≡ false → client ≡ 0) → again form (made reading client act) ≡ Some (made reading client act)
unfolding serde_json_on_literals
act_back form reading client (Connect uid) h none = rw (none refl, number_back uid h) refl
act_back form reading client Disconnect h none = refl
act_back form reading client (GenerateKey key params) h none = rw (key_back form key h.0, hex_back params h.1) refl
act_back form reading client (ImportKey key params format material) h none = rw (key_back form key h.0, hex_back params h.1, number_back format h.2, hex_back material h.3) refl
act_back form reading client (CreateOperation key params forced) h none = rw (key_back form key h.0, hex_back params h.1) refl
act_back form reading client (EnterAad op input) h none = rw (hex_back input h) refl
act_back form reading client (EnterUpdate op input) h none = rw (hex_back input h) refl
act_back form reading client (EnterFinish op input None) h none = rw (hex_back input h.0) refl
act_back form reading client (EnterFinish op input (Some signature)) h none = rw (hex_back input h.0, hex_back signature h.1) refl
act_back form reading client (Abort op) h none = refl
act_back form reading client (GetKeyEntry key) h none = rw (key_back form key h) refl
act_back form reading client (DeleteKey key) h none = rw (key_back form key h) refl
act_back form reading client (Grant key uid bits) h none = rw (key_back form key h.0, number_back uid h.1, number_back bits h.2) refl
act_back form reading client (Ungrant key uid) h none = rw (key_back form key h.0, number_back uid h.1) refl
act_back form reading client (GetNumberOfEntries domain nspace) h none = rw (number_back domain h) refl
act_back form reading client (ListEntriesBatched domain nspace None) h none = rw (number_back domain h.0) refl
act_back form reading client (ListEntriesBatched domain nspace (Some past)) h none = rw (number_back domain h.0, alias_back form past h.1) refl
act_back form reading client (AddAuthToken challenge user authenticator kind time mac) h none = rw (number_back kind h.0, hex_32_back mac h.1) refl
act_back form reading client (DeviceLocked user) h none = rw (number_back user h) refl
act_back form reading client (DeviceUnlocked user) h none = rw (number_back user h) refl
act_back form reading client EarlyBootEnded h none = refl
act_back form reading client (ClearNamespace domain nspace) h none = rw (number_back domain h) refl
act_back form reading client (UserRemoved user) h none = rw (number_back user h) refl
act_back form reading client (Leave ticket) h none = rw (none refl) refl
act_back form reading client (Restart None) h none = rw (none refl) refl
act_back form reading client (Restart (Some root)) h none = rw (none refl, hex_32_back root h) refl
act_back form reading client (UpgradeKey key params) h none = rw (key_back form key h.0, hex_back params h.1) refl
act_back form reading client (ImportWrappedKey key params wrapping wrapped unwrapping) h none =
    rw (key_back form key h.0, hex_back params h.1, key_back form wrapping h.2, hex_back wrapped h.3, hex_back unwrapping h.4) refl

pub event_back : (form : AliasForm) (event : Event) → IsToldWhole form event → event_in form (object (event_members event)) ≡ Some event
event_back form event h = act_back form event.reading event.client event.act h.fields h.client

-- ---- the line of a script

no_hold : (reading : Reading) (client : ℕ) (act : Act) → hold_of (kind_of act) (object (event_members (made reading client act))) ≡ Some false
unfolding serde_json_on_literals
no_hold reading client (Connect uid) = refl
no_hold reading client Disconnect = refl
no_hold reading client (GenerateKey key params) = refl
no_hold reading client (ImportKey key params format material) = refl
no_hold reading client (CreateOperation key params forced) = refl
no_hold reading client (EnterAad op input) = refl
no_hold reading client (EnterUpdate op input) = refl
no_hold reading client (EnterFinish op input None) = refl
no_hold reading client (EnterFinish op input (Some signature)) = refl
no_hold reading client (Abort op) = refl
no_hold reading client (GetKeyEntry key) = refl
no_hold reading client (DeleteKey key) = refl
no_hold reading client (Grant key uid bits) = refl
no_hold reading client (Ungrant key uid) = refl
no_hold reading client (GetNumberOfEntries domain nspace) = refl
no_hold reading client (ListEntriesBatched domain nspace past) = refl
no_hold reading client (AddAuthToken challenge user authenticator kind time mac) = refl
no_hold reading client (DeviceLocked user) = refl
no_hold reading client (DeviceUnlocked user) = refl
no_hold reading client EarlyBootEnded = refl
no_hold reading client (ClearNamespace domain nspace) = refl
no_hold reading client (UserRemoved user) = refl
no_hold reading client (Leave ticket) = refl
no_hold reading client (Restart root) = refl
no_hold reading client (UpgradeKey key params) = refl
no_hold reading client (ImportWrappedKey key params wrapping wrapped unwrapping) = refl

line_back : (event : Event) → IsToldWhole Text event → line_in (object (event_members event)) ≡ Some (record { event = event; hold = false })
line_back event h = rw (event_back Text event h, no_hold event.reading event.client event.act) refl

-- the text of an event, of which the writer says that it is read as its object
pub event_of_back : (text : List ℕ) (event : Event) → IsUtf8 text → (depth (object (event_members event)) ≤ max_depth → read text ≡ Some (object (event_members event))) → IsToldWhole Text event
    → event_of text ≡ Some (record { event = event; hold = false })
event_of_back text event utf8 reads h =
    let nests = event_depth event in
    rw (parsed_as_read text _ utf8 (reads (omega (arith, nests)))) (line_back event h)
