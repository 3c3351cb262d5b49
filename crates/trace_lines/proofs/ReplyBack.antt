-- The object of a reply and of an entry is read back as it, and the line of an entry.
use Rattle.std.proofs.Common.{◌≡◌, ◌<◌, ◌≤◌, ◌^◌, ℕ, pos, List, [], ◌∷◌, map, Bool, true, false, true≢false, if◌then◌else◌, ◌==◌, Option, Some, None, IfSome, option_map, codes, arith, refl, sym, ap, ◌∙◌}
use Rattle.std.proofs.lemmas.Bool.{agree_below, agree_below_at}
use Rattle.std.proofs.lemmas.Bool.Decides.{Decides-eqb}
use Rattle.std.proofs.lemmas.Slice.Eq.{bytes_eq-Decides}
use Rattle.std.proofs.lemmas.Str.{IsUtf8-from_is_utf8, utf8_lossy-IsUtf8}
use Rattle.std.specs.Fmt.{digits, decimal}
use Rattle.std.specs.List.{AllByRecursion}
use Rattle.std.specs.Ordering.{int_eq}
use Rattle.std.specs.Str.{IsUtf8, bytes_eq, chars, is_utf8}
use Rattle.hex.specs.Hex.{IsBytes}
use Rattle.tags.specs.Code.{code_number}
use Rattle.tags.specs.Rule.{rule_text}
use Rattle.tags.specs.Table.{rule_of}
use Rattle.tags.specs.declared.code.Code.{Code}
use Rattle.tags.specs.declared.code.Code.TheVariants as codes_of
use Rattle.tags.specs.declared.rule.RuleTable.{RuleTable}
use Rattle.tags.specs.declared.rule.RuleTable.TheVariants as tables
use Rattle.tags.specs.declared.settled.Settled.TheVariants.{Kept, Lost}
use Rattle.rule_model.specs.declared.entry.Entry.{Entry}
use Rattle.rule_model.specs.declared.entry.Entry.TheVariants.{Acted, Settling}
use Rattle.rule_model.specs.declared.reply.Fields.{Fields}
use Rattle.rule_model.specs.declared.reply.Reply.{Reply}
use Rattle.rule_model.specs.declared.reply.Reply.TheVariants.{Done, Broken, Stopped}
use Rattle.serde_json.proofs.OnLiterals.{serde_json_on_literals}
use Rattle.serde_json.proofs.Views.{get_member-put, get_member-put_other}
use Rattle.serde_json.specs.Data.{Data, Items, item, Members, no_members, put, object, depth}
use Rattle.serde_json.specs.Find.{get_member}
use Rattle.serde_json.specs.Read.{read, max_depth}
use Rattle.serde_json.specs.View.{items_of}
use Rattle.line_members.specs.declared.alias_form.AliasForm.TheVariants.{Text, TextOrHex}
use Rattle.line_members.specs.Members.{parsed}
use Rattle.line_members.specs.Members.{kind_or, present, each_of, optional, alias_of, u32_of, u64_of, hex_of}
use Rattle.line_members.specs.Values.{number_data, signed_data, hex_data, text_data, entry_data, entries_data, with_field}
use Rattle.script_lines.specs.Replies.{reply_members}
use Rattle.trace_lines.specs.ReplyReads.{entry_of as pair_of, entries_of, rule_number, rule_named, code_numbered, signed_of, fields_in, reply_in}
use Rattle.trace_lines.specs.Traces.{entry_members, entry_text}
use Rattle.trace_lines.specs.TraceReads.{entry_in, entry_of, unless_other}
use Rattle.line_members.specs.Whole.{IsAlias}
use Rattle.trace_lines.specs.ToldWhole.{AreReplyFields, IsReplyToldWhole, IsEntryToldWhole}
use Rattle.line_members.proofs.Texts.{parsed_as_read}
use Rattle.trace_lines.proofs.Depths.{entry_depth}
use Rattle.line_members.proofs.ReadBack.{number_back, hex_back}
use Rattle.script_lines.proofs.ReadBack.{event_back}

-- ---- what stands at a name

abbrev pub or_else : Option Data → Option Data → Option Data
or_else None rest = rest
or_else (Some value) rest = Some value

-- at the name k the value, where there is one, and else the rest
abbrev pub there : List ℕ → List ℕ → Option Data → Option Data → Option Data
there q k value rest = if bytes_eq q k then or_else value rest else rest

same_both : (b : Bool) (o : Option Data) → o ≡ (if b then o else o)
same_both true o = refl
same_both false o = refl

apart : (q k : List ℕ) → bytes_eq q k ≡ false → q ≡ k → ⊥
apart q k differ same = true≢false (sym ((bytes_eq-Decides q k).1 same) ∙ differ)

put_there : (b : Bool) (q k : List ℕ) (d : Data) (ms : Members) → bytes_eq q k ≡ b → get_member q (put k d ms) ≡ (if b then Some d else get_member q ms)
put_there true q k d ms e = rw ((bytes_eq-Decides q k).0 e) (get_member-put k d ms)
put_there false q k d ms e = get_member-put_other q k d ms (apart q k e)

pub field_there : {A : Type 0} (written : A → Data) (q k : List ℕ) (o : Option A) (ms : Members) → get_member q (with_field written k o ms) ≡ there q k (option_map written o) (get_member q ms)
field_there written q k None ms = same_both (bytes_eq q k) (get_member q ms)
field_there written q k (Some x) ms = put_there (bytes_eq q k) q k (written x) ms refl

-- ---- fields by their kinds

pub number_field : (o : Option ℕ) → kind_or None (present u64_of) (or_else (option_map number_data o) None) ≡ Some o
number_field None = refl
number_field (Some n) = refl

pub short_field : (o : Option ℕ) → IfSome o (λ n. n < 2 ^ 32) → kind_or None (present u32_of) (or_else (option_map number_data o) None) ≡ Some o
short_field None h = refl
short_field (Some n) h = rw (number_back n h) refl

pub hex_field : (o : Option (List ℕ)) → IfSome o IsBytes → kind_or None (present hex_of) (or_else (option_map hex_data o) None) ≡ Some o
hex_field None h = refl
hex_field (Some bytes) h = rw (hex_back bytes h) refl

text_back : (text : List ℕ) → IsAlias Text text → alias_of Text (text_data text) ≡ Some text
text_back text h = rw (utf8_lossy-IsUtf8 text (IsUtf8-from_is_utf8 text h), h) refl

pub text_field : (o : Option (List ℕ)) → IfSome o (IsAlias Text) → kind_or None (present (alias_of Text)) (or_else (option_map text_data o) None) ≡ Some o
text_field None h = refl
text_field (Some text) h = rw (text_back text h) refl

pair_back : (entry : List ℕ × ℕ) → IsAlias Text entry.0 → pair_of (entry_data entry) ≡ Some entry
pair_back entry h = rw (utf8_lossy-IsUtf8 entry.0 (IsUtf8-from_is_utf8 entry.0 h), h) refl

each_more : {A : Type 0} (kind : Data → Option A) (value : Data) (items : Items) (x : A) (rest : List A) → kind value ≡ Some x → each_of kind items ≡ Some rest → each_of kind (item value items) ≡ Some (x ∷ rest)
each_more kind value items x rest e f = rw (e, f) refl

pairs_back : (entries : List (List ℕ × ℕ)) → AllByRecursion (λ entry. IsAlias Text entry.0) entries → each_of pair_of (items_of (map entry_data entries)) ≡ Some entries
pairs_back [] h = refl
pairs_back (entry ∷ entries) h = each_more pair_of (entry_data entry) (items_of (map entry_data entries)) entry entries (pair_back entry h.0) (pairs_back entries h.1)

pub entries_field : (o : Option (List (List ℕ × ℕ))) → IfSome o (AllByRecursion (λ entry. IsAlias Text entry.0)) → kind_or None (present entries_of) (or_else (option_map entries_data o) None) ≡ Some o
entries_field None h = refl
entries_field (Some entries) h = rw (pairs_back entries h) refl

-- ---- the fields of a reply

-- what stands at each name
looked : (q : List ℕ) (fields : Fields) → get_member q (reply_members (Done fields)) ≡ there q (codes "entries") (option_map entries_data fields.entries)
    (there q (codes "list") (option_map hex_data fields.list)
    (there q (codes "blob") (option_map hex_data fields.blob)
    (there q (codes "out") (option_map hex_data fields.out)
    (there q (codes "nonce") (option_map hex_data fields.nonce)
    (there q (codes "alias") (option_map text_data fields.alias)
    (there q (codes "nspace") (option_map number_data fields.nspace)
    (there q (codes "domain") (option_map number_data fields.domain)
    (there q (codes "uses") (option_map number_data fields.uses)
    (there q (codes "count") (option_map number_data fields.count)
    (there q (codes "grant") (option_map number_data fields.grant)
    (there q (codes "pruned") (option_map number_data fields.pruned)
    (there q (codes "ticket") (option_map number_data fields.ticket)
    (there q (codes "challenge") (option_map number_data fields.challenge)
    (there q (codes "op") (option_map number_data fields.op)
    (there q (codes "key") (option_map number_data fields.key)
    (there q (codes "client") (option_map number_data fields.client)
    (get_member q (put (codes "code") (signed_data (pos 0)) no_members))))))))))))))))))
looked q fields =
    field_there entries_data q (codes "entries") fields.entries _ ∙ ap (there q (codes "entries") (option_map entries_data fields.entries))
    (field_there hex_data q (codes "list") fields.list _ ∙ ap (there q (codes "list") (option_map hex_data fields.list))
    (field_there hex_data q (codes "blob") fields.blob _ ∙ ap (there q (codes "blob") (option_map hex_data fields.blob))
    (field_there hex_data q (codes "out") fields.out _ ∙ ap (there q (codes "out") (option_map hex_data fields.out))
    (field_there hex_data q (codes "nonce") fields.nonce _ ∙ ap (there q (codes "nonce") (option_map hex_data fields.nonce))
    (field_there text_data q (codes "alias") fields.alias _ ∙ ap (there q (codes "alias") (option_map text_data fields.alias))
    (field_there number_data q (codes "nspace") fields.nspace _ ∙ ap (there q (codes "nspace") (option_map number_data fields.nspace))
    (field_there number_data q (codes "domain") fields.domain _ ∙ ap (there q (codes "domain") (option_map number_data fields.domain))
    (field_there number_data q (codes "uses") fields.uses _ ∙ ap (there q (codes "uses") (option_map number_data fields.uses))
    (field_there number_data q (codes "count") fields.count _ ∙ ap (there q (codes "count") (option_map number_data fields.count))
    (field_there number_data q (codes "grant") fields.grant _ ∙ ap (there q (codes "grant") (option_map number_data fields.grant))
    (field_there number_data q (codes "pruned") fields.pruned _ ∙ ap (there q (codes "pruned") (option_map number_data fields.pruned))
    (field_there number_data q (codes "ticket") fields.ticket _ ∙ ap (there q (codes "ticket") (option_map number_data fields.ticket))
    (field_there number_data q (codes "challenge") fields.challenge _ ∙ ap (there q (codes "challenge") (option_map number_data fields.challenge))
    (field_there number_data q (codes "op") fields.op _ ∙ ap (there q (codes "op") (option_map number_data fields.op))
    (field_there number_data q (codes "key") fields.key _ ∙ ap (there q (codes "key") (option_map number_data fields.key))
    (field_there number_data q (codes "client") fields.client _))))))))))))))))

fields_back : (fields : Fields) → AreReplyFields fields → fields_in (object (reply_members (Done fields))) ≡ Some fields
fields_back fields h =
    let client_is : optional u64_of (codes "client") (object (reply_members (Done fields))) ≡ Some fields.client = ap (kind_or None (present u64_of)) (looked (codes "client") fields) ∙ number_field fields.client in
    let key_is : optional u64_of (codes "key") (object (reply_members (Done fields))) ≡ Some fields.key = ap (kind_or None (present u64_of)) (looked (codes "key") fields) ∙ number_field fields.key in
    let op_is : optional u64_of (codes "op") (object (reply_members (Done fields))) ≡ Some fields.op = ap (kind_or None (present u64_of)) (looked (codes "op") fields) ∙ number_field fields.op in
    let challenge_is : optional u64_of (codes "challenge") (object (reply_members (Done fields))) ≡ Some fields.challenge = ap (kind_or None (present u64_of)) (looked (codes "challenge") fields) ∙ number_field fields.challenge in
    let ticket_is : optional u64_of (codes "ticket") (object (reply_members (Done fields))) ≡ Some fields.ticket = ap (kind_or None (present u64_of)) (looked (codes "ticket") fields) ∙ number_field fields.ticket in
    let pruned_is : optional u64_of (codes "pruned") (object (reply_members (Done fields))) ≡ Some fields.pruned = ap (kind_or None (present u64_of)) (looked (codes "pruned") fields) ∙ number_field fields.pruned in
    let grant_is : optional u64_of (codes "grant") (object (reply_members (Done fields))) ≡ Some fields.grant = ap (kind_or None (present u64_of)) (looked (codes "grant") fields) ∙ number_field fields.grant in
    let count_is : optional u64_of (codes "count") (object (reply_members (Done fields))) ≡ Some fields.count = ap (kind_or None (present u64_of)) (looked (codes "count") fields) ∙ number_field fields.count in
    let uses_is : optional u32_of (codes "uses") (object (reply_members (Done fields))) ≡ Some fields.uses = ap (kind_or None (present u32_of)) (looked (codes "uses") fields) ∙ short_field fields.uses h.uses in
    let domain_is : optional u32_of (codes "domain") (object (reply_members (Done fields))) ≡ Some fields.domain = ap (kind_or None (present u32_of)) (looked (codes "domain") fields) ∙ short_field fields.domain h.domain in
    let nspace_is : optional u64_of (codes "nspace") (object (reply_members (Done fields))) ≡ Some fields.nspace = ap (kind_or None (present u64_of)) (looked (codes "nspace") fields) ∙ number_field fields.nspace in
    let alias_is : optional (alias_of Text) (codes "alias") (object (reply_members (Done fields))) ≡ Some fields.alias = ap (kind_or None (present (alias_of Text))) (looked (codes "alias") fields) ∙ text_field fields.alias h.alias in
    let nonce_is : optional hex_of (codes "nonce") (object (reply_members (Done fields))) ≡ Some fields.nonce = ap (kind_or None (present hex_of)) (looked (codes "nonce") fields) ∙ hex_field fields.nonce h.nonce in
    let out_is : optional hex_of (codes "out") (object (reply_members (Done fields))) ≡ Some fields.out = ap (kind_or None (present hex_of)) (looked (codes "out") fields) ∙ hex_field fields.out h.out in
    let blob_is : optional hex_of (codes "blob") (object (reply_members (Done fields))) ≡ Some fields.blob = ap (kind_or None (present hex_of)) (looked (codes "blob") fields) ∙ hex_field fields.blob h.blob in
    let list_is : optional hex_of (codes "list") (object (reply_members (Done fields))) ≡ Some fields.list = ap (kind_or None (present hex_of)) (looked (codes "list") fields) ∙ hex_field fields.list h.list in
    let entries_is : optional entries_of (codes "entries") (object (reply_members (Done fields))) ≡ Some fields.entries = ap (kind_or None (present entries_of)) (looked (codes "entries") fields) ∙ entries_field fields.entries h.entries in
    rw (client_is, key_is, op_is, challenge_is, ticket_is, pruned_is, grant_is, count_is, uses_is, domain_is, nspace_is, alias_is, nonce_is, out_is, blob_is, list_is, entries_is) refl

-- ---- codes and rules

abbrev is_number : ℕ → Option ℕ → Bool
is_number n None = false
is_number n (Some m) = m == n

-- each of the 256 numbers, computed
numbers_agree : agree_below (λ n. is_number n (rule_number (decimal n))) (λ n. true) 256 ≡ true
unfolding serde_json_on_literals digits is_utf8 chars
numbers_agree = refl

number_is : (n : ℕ) (o : Option ℕ) → is_number n o ≡ true → o ≡ Some n
number_is n None h = absurd (true≢false (sym h))
number_is n (Some m) h = ap Some ((Decides-eqb m n).0 h)

rule_number_back : (n : ℕ) → n < 2 ^ 8 → rule_number (decimal n) ≡ Some n
rule_number_back n h = number_is n _ (agree_below_at (λ n. is_number n (rule_number (decimal n))) (λ n. true) 256 n numbers_agree h)

rule_back : (table : RuleTable) (number : ℕ) → number < 2 ^ 8 → rule_named (rule_text (rule_of table number)) ≡ Some (rule_of table number)
rule_back tables.K number h = rw (rule_number_back number h) refl
rule_back tables.B number h = rw (rule_number_back number h) refl
rule_back tables.S number h = rw (rule_number_back number h) refl
rule_back tables.A number h = rw (rule_number_back number h) refl
rule_back tables.L number h = rw (rule_number_back number h) refl

-- a code is no 0, and is read of its number
pub record IsReadBack (code : Code) : Type 0 where
  pub number : signed_of (signed_data (code_number code)) ≡ Some (code_number code)
  pub no_success : int_eq (code_number code) (pos 0) ≡ false
  pub same : code_numbered (code_number code) ≡ Some code

code_back : (code : Code) → IsReadBack code
code_back codes_of.UnsupportedPurpose = record { number = refl; no_success = refl; same = refl }
code_back codes_of.IncompatiblePurpose = record { number = refl; no_success = refl; same = refl }
code_back codes_of.UnsupportedAlgorithm = record { number = refl; no_success = refl; same = refl }
code_back codes_of.UnsupportedKeySize = record { number = refl; no_success = refl; same = refl }
code_back codes_of.UnsupportedBlockMode = record { number = refl; no_success = refl; same = refl }
code_back codes_of.IncompatibleBlockMode = record { number = refl; no_success = refl; same = refl }
code_back codes_of.UnsupportedMacLength = record { number = refl; no_success = refl; same = refl }
code_back codes_of.UnsupportedPaddingMode = record { number = refl; no_success = refl; same = refl }
code_back codes_of.IncompatiblePaddingMode = record { number = refl; no_success = refl; same = refl }
code_back codes_of.UnsupportedDigest = record { number = refl; no_success = refl; same = refl }
code_back codes_of.IncompatibleDigest = record { number = refl; no_success = refl; same = refl }
code_back codes_of.InvalidUserId = record { number = refl; no_success = refl; same = refl }
code_back codes_of.UnsupportedKeyFormat = record { number = refl; no_success = refl; same = refl }
code_back codes_of.InvalidInputLength = record { number = refl; no_success = refl; same = refl }
code_back codes_of.KeyNotYetValid = record { number = refl; no_success = refl; same = refl }
code_back codes_of.KeyExpired = record { number = refl; no_success = refl; same = refl }
code_back codes_of.KeyUserNotAuthenticated = record { number = refl; no_success = refl; same = refl }
code_back codes_of.InvalidOperationHandle = record { number = refl; no_success = refl; same = refl }
code_back codes_of.VerificationFailed = record { number = refl; no_success = refl; same = refl }
code_back codes_of.InvalidKeyBlob = record { number = refl; no_success = refl; same = refl }
code_back codes_of.InvalidKeyArgument = record { number = refl; no_success = refl; same = refl }
code_back codes_of.UnsupportedTag = record { number = refl; no_success = refl; same = refl }
code_back codes_of.InvalidTag = record { number = refl; no_success = refl; same = refl }
code_back codes_of.MemoryAllocationFailed = record { number = refl; no_success = refl; same = refl }
code_back codes_of.ImportParameterMismatch = record { number = refl; no_success = refl; same = refl }
code_back codes_of.MissingNonce = record { number = refl; no_success = refl; same = refl }
code_back codes_of.InvalidNonce = record { number = refl; no_success = refl; same = refl }
code_back codes_of.MissingMacLength = record { number = refl; no_success = refl; same = refl }
code_back codes_of.CallerNonceProhibited = record { number = refl; no_success = refl; same = refl }
code_back codes_of.KeyMaxOpsExceeded = record { number = refl; no_success = refl; same = refl }
code_back codes_of.InvalidMacLength = record { number = refl; no_success = refl; same = refl }
code_back codes_of.MissingMinMacLength = record { number = refl; no_success = refl; same = refl }
code_back codes_of.UnsupportedMinMacLength = record { number = refl; no_success = refl; same = refl }
code_back codes_of.KeyRequiresUpgrade = record { number = refl; no_success = refl; same = refl }
code_back codes_of.DeviceLocked = record { number = refl; no_success = refl; same = refl }
code_back codes_of.EarlyBootEnded = record { number = refl; no_success = refl; same = refl }
code_back codes_of.SystemError = record { number = refl; no_success = refl; same = refl }
code_back codes_of.PermissionDenied = record { number = refl; no_success = refl; same = refl }
code_back codes_of.KeyNotFound = record { number = refl; no_success = refl; same = refl }
code_back codes_of.ValueCorrupted = record { number = refl; no_success = refl; same = refl }
code_back codes_of.BackendBusy = record { number = refl; no_success = refl; same = refl }
code_back codes_of.OperationBusy = record { number = refl; no_success = refl; same = refl }
code_back codes_of.InvalidArgument = record { number = refl; no_success = refl; same = refl }
code_back codes_of.TooMuchData = record { number = refl; no_success = refl; same = refl }
code_back codes_of.RunFull = record { number = refl; no_success = refl; same = refl }
code_back codes_of.StoreFull = record { number = refl; no_success = refl; same = refl }
code_back codes_of.TokensFull = record { number = refl; no_success = refl; same = refl }
code_back codes_of.EntropyFault = record { number = refl; no_success = refl; same = refl }
code_back codes_of.NoTicket = record { number = refl; no_success = refl; same = refl }

-- ---- replies and entries

reply_back : (reply : Reply) → IsReplyToldWhole reply → reply_in (object (reply_members reply)) ≡ Some reply
reply_back (Done fields) h = rw (looked (codes "code") fields, fields_back fields h) refl
reply_back (Broken rule code) h =
    let told = code_back code in
    rw (told.number, told.no_success, told.same, rule_back rule.table rule.number h) refl
reply_back (Stopped code) h =
    let told = code_back code in
    rw (told.number, told.no_success, told.same) refl

entry_back : (entry : Entry) → IsEntryToldWhole entry → entry_in (object (entry_members entry)) ≡ Some entry
entry_back (Acted event drawn reply) h = rw (hex_back drawn h.1, reply_back reply h.2, event_back TextOrHex event h.0) refl
entry_back (Settling Kept) h = refl
entry_back (Settling Lost) h = refl

-- the text of an entry, of which the writer says that it is read as its object
pub entry_of_back : (text : List ℕ) (entry : Entry) → IsUtf8 text → text ≡ entry_text entry → (depth (object (entry_members entry)) ≤ max_depth → read text ≡ Some (object (entry_members entry))) → IsEntryToldWhole entry
    → entry_of (entry_text entry) ≡ Some entry
entry_of_back text entry utf8 same reads h =
    let nests = entry_depth entry in
    let parses : parsed (entry_text entry) ≡ Some (object (entry_members entry)) = rw (← same) (parsed_as_read text _ utf8 (reads (omega (arith, nests)))) in
    let equal : bytes_eq (entry_text entry) (entry_text entry) ≡ true = (bytes_eq-Decides (entry_text entry) (entry_text entry)).1 refl in
    rw (parses, entry_back entry h, equal) refl

-- ---- a line that is read

chosen : (b : Bool) (entry other : Entry) → (if b then Some entry else None) ≡ Some other → (b ≡ true) × (entry ≡ other)
chosen true entry other h = (refl, cc)
chosen false entry other h = absurd cc

-- the entry that is given is one whose line this is
pub given_spells : (line : List ℕ) (entry given : Entry) → unless_other line entry ≡ Some given → entry_text given ≡ line
given_spells line entry given h =
    let both = chosen (bytes_eq (entry_text entry) line) entry given h in
    rw (← both.1) ((bytes_eq-Decides (entry_text entry) line).0 both.0)
