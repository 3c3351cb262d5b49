-- The reply that the object of a trace line tells. Members that no reply has are not looked at here: the line of the entry has none.
use Rattle.std.specs.Prelude.{ℕ, ℤ, pos, List, [], ◌∷◌, codes as text, find, nat_lt, ◌==◌, ◌^◌, if◌then◌else◌, Option, Some, None}
use Rattle.std.specs.Ordering.{int_eq}
use Rattle.tags.specs.Code.{code_number}
use Rattle.tags.specs.Table.{rule_of}
use Rattle.tags.specs.declared.code.Code.{Code}
use Rattle.tags.specs.declared.code.Code.TheVariants as codes
use Rattle.tags.specs.declared.rule.Rule.{Rule}
use Rattle.tags.specs.declared.rule.RuleTable.{RuleTable}
use Rattle.tags.specs.declared.rule.RuleTable.TheVariants as tables
use Rattle.rule_model.specs.declared.reply.Fields.{Fields}
use Rattle.rule_model.specs.declared.reply.Reply.{Reply}
use Rattle.rule_model.specs.declared.reply.Reply.TheVariants.{Done, Broken, Stopped}
use Rattle.serde_json.specs.Data.{Data, Items}
use Rattle.serde_json.specs.Find.{get, as_number, as_i64, as_str, as_array}
use Rattle.line_members.specs.declared.alias_form.AliasForm.TheVariants.{Text}
use Rattle.line_members.specs.Members.{parsed}
use Rattle.line_members.specs.Members.{◌>>=◌, u32_of, u64_of, hex_of, two_of, each_of, needed, optional, alias_of}

-- ---- codes and rules

-- every code, once
abbrev pub all_codes : List Code
all_codes = codes.UnsupportedPurpose ∷ codes.IncompatiblePurpose ∷ codes.UnsupportedAlgorithm ∷ codes.UnsupportedKeySize ∷ codes.UnsupportedBlockMode ∷ codes.IncompatibleBlockMode ∷ codes.UnsupportedMacLength ∷ codes.UnsupportedPaddingMode ∷ codes.IncompatiblePaddingMode ∷ codes.UnsupportedDigest ∷ codes.IncompatibleDigest ∷ codes.InvalidUserId ∷ codes.UnsupportedKeyFormat ∷ codes.InvalidInputLength ∷ codes.KeyNotYetValid ∷ codes.KeyExpired ∷ codes.KeyUserNotAuthenticated ∷ codes.InvalidOperationHandle ∷ codes.VerificationFailed ∷ codes.InvalidKeyBlob ∷ codes.InvalidKeyArgument ∷ codes.UnsupportedTag ∷ codes.InvalidTag ∷ codes.MemoryAllocationFailed ∷ codes.ImportParameterMismatch ∷ codes.MissingNonce ∷ codes.InvalidNonce ∷ codes.MissingMacLength ∷ codes.CallerNonceProhibited ∷ codes.KeyMaxOpsExceeded ∷ codes.InvalidMacLength ∷ codes.MissingMinMacLength ∷ codes.UnsupportedMinMacLength ∷ codes.KeyRequiresUpgrade ∷ codes.DeviceLocked ∷ codes.EarlyBootEnded ∷ codes.SystemError ∷ codes.PermissionDenied ∷ codes.KeyNotFound ∷ codes.ValueCorrupted ∷ codes.BackendBusy ∷ codes.OperationBusy ∷ codes.InvalidArgument ∷ codes.TooMuchData ∷ codes.RunFull ∷ codes.StoreFull ∷ codes.TokensFull ∷ codes.EntropyFault ∷ codes.NoTicket ∷ []

-- the code of a number
abbrev pub code_numbered : ℤ → Option Code
code_numbered number = find (λ code. int_eq (code_number code) number) all_codes

-- the table of a letter
abbrev pub table_lettered : ℕ → Option RuleTable
table_lettered letter =
    if letter == 75 then Some tables.K
    else if letter == 66 then Some tables.B
    else if letter == 83 then Some tables.S
    else if letter == 65 then Some tables.A
    else if letter == 76 then Some tables.L
    else None

-- the number of a rule, of 8 bits, as JSON has a number
abbrev pub rule_number : List ℕ → Option ℕ
rule_number digits = parsed digits >>= u64_of >>= λ n. if nat_lt n (2 ^ 8) then Some n else None

-- the letter of a table, and a number behind it
abbrev pub rule_named : List ℕ → Option Rule
rule_named [] = None
rule_named (letter ∷ digits) = table_lettered letter >>= λ table. rule_number digits >>= λ number. Some (rule_of table number)

-- ---- fields

-- a pair of an alias and a key's id
abbrev pub entry_of : Data → Option (List ℕ × ℕ)
entry_of pair = do
  both ← two_of pair
  alias ← alias_of Text both.0
  key ← u64_of both.1
  Some (alias, key)

abbrev pub entries_in : Items → Option (List (List ℕ × ℕ))
entries_in pairs = each_of entry_of pairs

abbrev pub entries_of : Data → Option (List (List ℕ × ℕ))
entries_of value = as_array value >>= entries_in

-- the fields that are numbers
abbrev pub numbers_in : Data → Option Fields
numbers_in members = do
  client ← optional u64_of (text "client") members
  key ← optional u64_of (text "key") members
  op ← optional u64_of (text "op") members
  challenge ← optional u64_of (text "challenge") members
  ticket ← optional u64_of (text "ticket") members
  pruned ← optional u64_of (text "pruned") members
  grant ← optional u64_of (text "grant") members
  count ← optional u64_of (text "count") members
  uses ← optional u32_of (text "uses") members
  domain ← optional u32_of (text "domain") members
  nspace ← optional u64_of (text "nspace") members
  Some (record {
    client = client;
    key = key;
    op = op;
    challenge = challenge;
    ticket = ticket;
    pruned = pruned;
    grant = grant;
    count = count;
    uses = uses;
    domain = domain;
    nspace = nspace;
    alias = None;
    nonce = None;
    out = None;
    blob = None;
    list = None;
    entries = None;
  })

-- the fields, with those of bytes
abbrev pub bytes_in : Fields → Data → Option Fields
bytes_in fields members = do
  alias ← optional (alias_of Text) (text "alias") members
  nonce ← optional hex_of (text "nonce") members
  out ← optional hex_of (text "out") members
  blob ← optional hex_of (text "blob") members
  list ← optional hex_of (text "list") members
  entries ← optional entries_of (text "entries") members
  Some (record fields { alias = alias; nonce = nonce; out = out; blob = blob; list = list; entries = entries })

abbrev pub fields_in : Data → Option Fields
fields_in members = numbers_in members >>= λ fields. bytes_in fields members

-- ---- replies

-- the member that names the rule
abbrev pub rule_member : Data → Option Data
rule_member members = get (text "rule") members

abbrev pub rule_of_data : Data → Option Rule
rule_of_data value = as_str value >>= rule_named

-- a code, and perhaps the rule that is broken
abbrev pub refused_by : Code → Option Data → Option Reply
refused_by code None = Some (Stopped code)
refused_by code (Some value) = rule_of_data value >>= λ rule. Some (Broken rule code)

-- code 0 stands before fields
abbrev pub reply_numbered : ℤ → Data → Option Reply
reply_numbered number members =
    if int_eq number (pos 0) then fields_in members >>= (λ fields. Some (Done fields))
    else code_numbered number >>= λ code. refused_by code (rule_member members)

abbrev pub signed_of : Data → Option ℤ
signed_of value = as_number value >>= as_i64

abbrev pub reply_in : Data → Option Reply
reply_in members = needed signed_of (text "code") members >>= λ number. reply_numbered number members
