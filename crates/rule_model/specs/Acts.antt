-- The acts of the service as one table: what is fixed for each kind, and the kind of an act.
use Rattle.std.specs.Prelude.{ℕ, ◌==◌, Bool, true, false, List, [], ◌∷◌, codes, Option, Some, None, find}
use Rattle.std.specs.Str.{bytes_eq}
use Rattle.rule_model.specs.declared.act_kind.ActKind.{ActKind}
use Rattle.rule_model.specs.declared.act_kind.ActKind.TheVariants as kinds
use Rattle.rule_model.specs.declared.act_kind.ActRow.{ActRow}
use Rattle.rule_model.specs.declared.event.Act.{Act}
use Rattle.rule_model.specs.declared.event.Act.TheVariants as acts

-- a call of a client by a frame: it takes memory, draws nothing, settles first, and makes an entry behind a settling
abbrev pub call : ℕ → ActRow
call number = record { number = number; asked = true; framed = true; has_client = true; takes_memory = true; draws = false; settles = true; enters = false; need = 2 }

-- Each kind's row. These take no memory: disconnect, abort, a token, the device's state, and a leave, whose room its enter
-- took. A disconnect and a leave settle nothing. A disconnect has no frame, and for a leave and a restart no client asks. The
-- most entries of a call: a connect, since its client's disconnect is to have a place; a call in two steps; a disconnect of a
-- client that is not connected; and every other call, with a settling.
abbrev pub row_of : ActKind → ActRow
row_of kinds.Connect = record (call 1) { has_client = false; need = 3 }
row_of kinds.Disconnect = record (call 2) { framed = false; takes_memory = false; settles = false; need = 1 }
row_of kinds.GenerateKey = record (call 3) { draws = true }
row_of kinds.ImportKey = record (call 4) { draws = true }
row_of kinds.CreateOperation = record (call 5) { draws = true }
row_of kinds.UpdateAad = record (call 6) { enters = true; need = 3 }
row_of kinds.Update = record (call 7) { enters = true; need = 3 }
row_of kinds.Finish = record (call 8) { enters = true; need = 3 }
row_of kinds.Abort = record (call 9) { takes_memory = false }
row_of kinds.GetKeyEntry = call 10
row_of kinds.DeleteKey = call 11
row_of kinds.Grant = call 12
row_of kinds.Ungrant = call 13
row_of kinds.GetNumberOfEntries = call 14
row_of kinds.ListEntriesBatched = call 15
row_of kinds.AddAuthToken = record (call 16) { takes_memory = false }
row_of kinds.DeviceLocked = record (call 17) { takes_memory = false }
row_of kinds.DeviceUnlocked = record (call 18) { takes_memory = false }
row_of kinds.EarlyBootEnded = record (call 19) { takes_memory = false }
row_of kinds.ClearNamespace = call 20
row_of kinds.UserRemoved = call 21
row_of kinds.Leave = record (call 22) { asked = false; framed = false; has_client = false; takes_memory = false; settles = false }
row_of kinds.Restart = record (call 23) { asked = false; framed = false; has_client = false }
row_of kinds.UpgradeKey = record (call 24) { draws = true }
row_of kinds.ImportWrappedKey = record (call 25) { draws = true }

-- the name of each kind, as a script writes it
abbrev pub text_of : ActKind → List ℕ
text_of kinds.Connect = codes "connect"
text_of kinds.Disconnect = codes "disconnect"
text_of kinds.GenerateKey = codes "generateKey"
text_of kinds.ImportKey = codes "importKey"
text_of kinds.CreateOperation = codes "createOperation"
text_of kinds.UpdateAad = codes "updateAad"
text_of kinds.Update = codes "update"
text_of kinds.Finish = codes "finish"
text_of kinds.Abort = codes "abort"
text_of kinds.GetKeyEntry = codes "getKeyEntry"
text_of kinds.DeleteKey = codes "deleteKey"
text_of kinds.Grant = codes "grant"
text_of kinds.Ungrant = codes "ungrant"
text_of kinds.GetNumberOfEntries = codes "getNumberOfEntries"
text_of kinds.ListEntriesBatched = codes "listEntriesBatched"
text_of kinds.AddAuthToken = codes "addAuthToken"
text_of kinds.DeviceLocked = codes "deviceLocked"
text_of kinds.DeviceUnlocked = codes "deviceUnlocked"
text_of kinds.EarlyBootEnded = codes "earlyBootEnded"
text_of kinds.ClearNamespace = codes "clearNamespace"
text_of kinds.UserRemoved = codes "userRemoved"
text_of kinds.Leave = codes "leave"
text_of kinds.Restart = codes "restart"
text_of kinds.UpgradeKey = codes "upgradeKey"
text_of kinds.ImportWrappedKey = codes "importWrappedKey"

-- every kind of act, once
abbrev pub all_kinds : List ActKind
all_kinds = kinds.Connect ∷ kinds.Disconnect ∷ kinds.GenerateKey ∷ kinds.ImportKey ∷ kinds.CreateOperation ∷ kinds.UpdateAad ∷ kinds.Update ∷ kinds.Finish ∷ kinds.Abort ∷ kinds.GetKeyEntry ∷ kinds.DeleteKey ∷ kinds.Grant ∷ kinds.Ungrant ∷ kinds.GetNumberOfEntries ∷ kinds.ListEntriesBatched ∷ kinds.AddAuthToken ∷ kinds.DeviceLocked ∷ kinds.DeviceUnlocked ∷ kinds.EarlyBootEnded ∷ kinds.ClearNamespace ∷ kinds.UserRemoved ∷ kinds.Leave ∷ kinds.Restart ∷ kinds.UpgradeKey ∷ kinds.ImportWrappedKey ∷ []

-- the kind that a name stands for
abbrev pub kind_named : List ℕ → Option ActKind
kind_named name = find (λ kind. bytes_eq (text_of kind) name) all_kinds

-- the kind that a number in a frame stands for
abbrev pub kind_numbered : ℕ → Option ActKind
kind_numbered number = find (λ kind. (row_of kind).number == number) all_kinds

-- an act's kind: the row of the table that it has
abbrev pub kind_of : Act → ActKind
kind_of (acts.Connect uid) = kinds.Connect
kind_of acts.Disconnect = kinds.Disconnect
kind_of (acts.GenerateKey key params) = kinds.GenerateKey
kind_of (acts.ImportKey key params format material) = kinds.ImportKey
kind_of (acts.CreateOperation key params forced) = kinds.CreateOperation
kind_of (acts.EnterAad op input) = kinds.UpdateAad
kind_of (acts.EnterUpdate op input) = kinds.Update
kind_of (acts.EnterFinish op input signature) = kinds.Finish
kind_of (acts.Abort op) = kinds.Abort
kind_of (acts.GetKeyEntry key) = kinds.GetKeyEntry
kind_of (acts.DeleteKey key) = kinds.DeleteKey
kind_of (acts.Grant key uid bits) = kinds.Grant
kind_of (acts.Ungrant key uid) = kinds.Ungrant
kind_of (acts.GetNumberOfEntries domain nspace) = kinds.GetNumberOfEntries
kind_of (acts.ListEntriesBatched domain nspace past) = kinds.ListEntriesBatched
kind_of (acts.AddAuthToken challenge user authenticator kind time mac) = kinds.AddAuthToken
kind_of (acts.DeviceLocked user) = kinds.DeviceLocked
kind_of (acts.DeviceUnlocked user) = kinds.DeviceUnlocked
kind_of acts.EarlyBootEnded = kinds.EarlyBootEnded
kind_of (acts.ClearNamespace domain nspace) = kinds.ClearNamespace
kind_of (acts.UserRemoved user) = kinds.UserRemoved
kind_of (acts.Leave ticket) = kinds.Leave
kind_of (acts.Restart root) = kinds.Restart
kind_of (acts.UpgradeKey key params) = kinds.UpgradeKey
kind_of (acts.ImportWrappedKey key params wrapping wrapped unwrapping) = kinds.ImportWrappedKey

-- what is fixed for an act
abbrev pub fixed_for : Act → ActRow
fixed_for act = row_of (kind_of act)

-- a work goes into an operation: additional data, text, or the last text
abbrev pub is_enter : Act → Bool
is_enter act = (fixed_for act).enters

-- a client asks for it, and it is no leave or restart
abbrev pub is_asked : Act → Bool
is_asked act = (fixed_for act).asked

-- a request frame can ask for it
abbrev pub is_framed : Act → Bool
is_framed act = (fixed_for act).framed

-- the most entries of a book that a call with it makes
abbrev pub need_of : Act → ℕ
need_of act = (fixed_for act).need

-- the acts of one kind each
abbrev pub is_connect : Act → Bool
is_connect (acts.Connect uid) = true
is_connect _ = false

-- a client goes
abbrev pub is_disconnect : Act → Bool
is_disconnect acts.Disconnect = true
is_disconnect _ = false

-- an operation begins
abbrev pub is_begin : Act → Bool
is_begin (acts.CreateOperation key params forced) = true
is_begin _ = false

-- a work comes back by its ticket
abbrev pub is_leave : Act → Bool
is_leave (acts.Leave ticket) = true
is_leave _ = false

-- the ticket that comes back
abbrev pub left_by : Act → Option ℕ
left_by (acts.Leave ticket) = Some ticket
left_by _ = None

-- the device starts again
abbrev pub is_restart : Act → Bool
is_restart (acts.Restart root) = true
is_restart _ = false
