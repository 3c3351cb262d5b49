-- The event that a line of a script spells is one whose line is read back as it.
use Rattle.std.proofs.Common.{◌≡◌, ◌<◌, ◌^◌, ℕ, List, [], Bool, true, false, if◌then◌else◌, Option, Some, None, Result, Ok, Err, IfOk, codes, refl, sym, ap, ◌∙◌, subst, arith, true≢false}
use Rattle.hex.specs.Hex.{IsBytes}
use Rattle.serde_json.specs.Data.{Data}
use Rattle.serde_json.specs.Find.{as_bool}
use Rattle.tags.specs.declared.descriptor.Descriptor.{Descriptor}
use Rattle.rule_model.specs.Acts.{kind_of, row_of}
use Rattle.rule_model.specs.declared.act_kind.ActKind.{ActKind}
use Rattle.rule_model.specs.declared.act_kind.ActKind.TheVariants as names
use Rattle.rule_model.specs.declared.event.Act.{Act}
use Rattle.rule_model.specs.declared.event.Act.TheVariants as acts
use Rattle.rule_model.specs.declared.event.Event.{Event}
use Rattle.rule_model.specs.declared.event.Line.{Line}
use Rattle.line_members.specs.declared.alias_form.AliasForm.TheVariants.{Text}
use Rattle.line_members.specs.declared.fault.LineFault.{LineFault}
use Rattle.line_members.specs.declared.fault.LineFault.TheVariants.{Malformed, Memory}
use Rattle.line_members.specs.Members.{◌>>=◌, u32_of, u64_of, hex_of, hex_32_of, alias_of, needed, defaulted, optional}
use Rattle.line_members.specs.Reads.{Gives}
use Rattle.line_members.specs.Whole.{IsAlias, Is32Bytes}
use Rattle.line_members.proofs.Finds.{both_found, some_is, short_found, hex_found, hex_32_found, alias_found, needed_found, defaulted_found, optional_found}
use Rattle.script_lines.specs.Acts.{descriptor_of, key_of, act_of, client_of, hold_of, reading_of, name_of, event_in}
use Rattle.script_lines.specs.Lines.{line_in}
use Rattle.script_lines.specs.Params.{list_at, params_of}
use Rattle.script_lines.specs.ToldWhole.{IsKey, AreFields, IsToldWhole}
use Rattle.script_lines.proofs.ParamsFound.{list_at_found, params_found}

nothing : IsBytes []
nothing i = omega arith

descriptor_found : (value : Data) (key : Descriptor) → descriptor_of Text value ≡ Some key → IsKey Text key
descriptor_found value key h =
    let domain = both_found (needed u32_of (codes "domain") value) _ key h in
    let nspace = both_found (defaulted 0 u64_of (codes "nspace") value) _ key domain.2 in
    let alias = both_found (optional (alias_of Text) (codes "alias") value) _ key nspace.2 in
    let blob = both_found (optional hex_of (codes "blob") value) _ key alias.2 in
    subst (IsKey Text) (some_is (record { domain = domain.0; nspace = nspace.0; alias = alias.0; blob = blob.0 }) key blob.2) (
      needed_found (λ n. n < 2 ^ 32) u32_of (codes "domain") value domain.0 short_found domain.1,
      optional_found (IsAlias Text) (alias_of Text) (codes "alias") value alias.0 alias_found alias.1,
      optional_found IsBytes hex_of (codes "blob") value blob.0 hex_found blob.1,
    )

key_found : (members : Data) (key : Descriptor) → key_of Text members ≡ Some key → IsKey Text key
key_found members key h = needed_found (IsKey Text) (descriptor_of Text) (codes "key") members key descriptor_found h

-- ---- acts

-- the act is of this kind, and each of its fields is of its width
record IsOf (name : ActKind) (act : Act) : Type 0 where
  kind : kind_of act ≡ name
  fields : AreFields Text act

given : (name : ActKind) (made act : Act) → Some made ≡ Some act → IsOf name made → IsOf name act
given name made act h of = subst (IsOf name) (some_is made act h) of

act_found : (name : ActKind) (members : Data) (act : Act) → act_of Text name members ≡ Some act → IsOf name act
act_found names.Connect members act h =
    let uid = both_found (needed u32_of (codes "uid") members) _ act h in
    given names.Connect (acts.Connect uid.0) act uid.2 (record { kind = refl; fields = needed_found (λ n. n < 2 ^ 32) u32_of (codes "uid") members uid.0 short_found uid.1 })
act_found names.Disconnect members act h = given names.Disconnect acts.Disconnect act h (record { kind = refl; fields = tt })
act_found names.GenerateKey members act h =
    let key = both_found (key_of Text members) _ act h in
    let params = both_found (params_of members) _ act key.2 in
    given names.GenerateKey (acts.GenerateKey key.0 params.0) act params.2 (record { kind = refl; fields = (key_found members key.0 key.1, params_found members params.0 params.1) })
act_found names.ImportKey members act h =
    let key = both_found (key_of Text members) _ act h in
    let params = both_found (params_of members) _ act key.2 in
    let format = both_found (needed u32_of (codes "format") members) _ act params.2 in
    let material = both_found (needed hex_of (codes "material") members) _ act format.2 in
    given names.ImportKey (acts.ImportKey key.0 params.0 format.0 material.0) act material.2 (record { kind = refl; fields = (key_found members key.0 key.1, params_found members params.0 params.1, needed_found (λ n. n < 2 ^ 32) u32_of (codes "format") members format.0 short_found format.1, needed_found IsBytes hex_of (codes "material") members material.0 hex_found material.1) })
act_found names.CreateOperation members act h =
    let key = both_found (key_of Text members) _ act h in
    let params = both_found (params_of members) _ act key.2 in
    let forced = both_found (defaulted false as_bool (codes "forced") members) _ act params.2 in
    given names.CreateOperation (acts.CreateOperation key.0 params.0 forced.0) act forced.2 (record { kind = refl; fields = (key_found members key.0 key.1, params_found members params.0 params.1) })
act_found names.UpdateAad members act h =
    let op = both_found (needed u64_of (codes "op") members) _ act h in
    let input = both_found (defaulted [] hex_of (codes "input") members) _ act op.2 in
    given names.UpdateAad (acts.EnterAad op.0 input.0) act input.2 (record { kind = refl; fields = defaulted_found IsBytes [] hex_of (codes "input") members input.0 nothing hex_found input.1 })
act_found names.Update members act h =
    let op = both_found (needed u64_of (codes "op") members) _ act h in
    let input = both_found (defaulted [] hex_of (codes "input") members) _ act op.2 in
    given names.Update (acts.EnterUpdate op.0 input.0) act input.2 (record { kind = refl; fields = defaulted_found IsBytes [] hex_of (codes "input") members input.0 nothing hex_found input.1 })
act_found names.Finish members act h =
    let op = both_found (needed u64_of (codes "op") members) _ act h in
    let input = both_found (defaulted [] hex_of (codes "input") members) _ act op.2 in
    let signature = both_found (optional hex_of (codes "signature") members) _ act input.2 in
    given names.Finish (acts.EnterFinish op.0 input.0 signature.0) act signature.2 (record { kind = refl; fields = (defaulted_found IsBytes [] hex_of (codes "input") members input.0 nothing hex_found input.1, optional_found IsBytes hex_of (codes "signature") members signature.0 hex_found signature.1) })
act_found names.Abort members act h =
    let op = both_found (needed u64_of (codes "op") members) _ act h in
    given names.Abort (acts.Abort op.0) act op.2 (record { kind = refl; fields = tt })
act_found names.GetKeyEntry members act h =
    let key = both_found (key_of Text members) _ act h in
    given names.GetKeyEntry (acts.GetKeyEntry key.0) act key.2 (record { kind = refl; fields = key_found members key.0 key.1 })
act_found names.DeleteKey members act h =
    let key = both_found (key_of Text members) _ act h in
    given names.DeleteKey (acts.DeleteKey key.0) act key.2 (record { kind = refl; fields = key_found members key.0 key.1 })
act_found names.Grant members act h =
    let key = both_found (key_of Text members) _ act h in
    let uid = both_found (needed u32_of (codes "uid") members) _ act key.2 in
    let bits = both_found (needed u32_of (codes "bits") members) _ act uid.2 in
    given names.Grant (acts.Grant key.0 uid.0 bits.0) act bits.2 (record { kind = refl; fields = (key_found members key.0 key.1, needed_found (λ n. n < 2 ^ 32) u32_of (codes "uid") members uid.0 short_found uid.1, needed_found (λ n. n < 2 ^ 32) u32_of (codes "bits") members bits.0 short_found bits.1) })
act_found names.Ungrant members act h =
    let key = both_found (key_of Text members) _ act h in
    let uid = both_found (needed u32_of (codes "uid") members) _ act key.2 in
    given names.Ungrant (acts.Ungrant key.0 uid.0) act uid.2 (record { kind = refl; fields = (key_found members key.0 key.1, needed_found (λ n. n < 2 ^ 32) u32_of (codes "uid") members uid.0 short_found uid.1) })
act_found names.GetNumberOfEntries members act h =
    let domain = both_found (needed u32_of (codes "domain") members) _ act h in
    let nspace = both_found (defaulted 0 u64_of (codes "nspace") members) _ act domain.2 in
    given names.GetNumberOfEntries (acts.GetNumberOfEntries domain.0 nspace.0) act nspace.2 (record { kind = refl; fields = needed_found (λ n. n < 2 ^ 32) u32_of (codes "domain") members domain.0 short_found domain.1 })
act_found names.ListEntriesBatched members act h =
    let domain = both_found (needed u32_of (codes "domain") members) _ act h in
    let nspace = both_found (defaulted 0 u64_of (codes "nspace") members) _ act domain.2 in
    let past = both_found (optional (alias_of Text) (codes "past") members) _ act nspace.2 in
    given names.ListEntriesBatched (acts.ListEntriesBatched domain.0 nspace.0 past.0) act past.2 (record { kind = refl; fields = (needed_found (λ n. n < 2 ^ 32) u32_of (codes "domain") members domain.0 short_found domain.1, optional_found (IsAlias Text) (alias_of Text) (codes "past") members past.0 alias_found past.1) })
act_found names.AddAuthToken members act h =
    let challenge = both_found (needed u64_of (codes "challenge") members) _ act h in
    let user = both_found (needed u64_of (codes "user") members) _ act challenge.2 in
    let authenticator = both_found (needed u64_of (codes "authenticator") members) _ act user.2 in
    let kind = both_found (needed u32_of (codes "kind") members) _ act authenticator.2 in
    let time = both_found (needed u64_of (codes "time") members) _ act kind.2 in
    let mac = both_found (needed hex_32_of (codes "mac") members) _ act time.2 in
    given names.AddAuthToken (acts.AddAuthToken challenge.0 user.0 authenticator.0 kind.0 time.0 mac.0) act mac.2 (record { kind = refl; fields = (needed_found (λ n. n < 2 ^ 32) u32_of (codes "kind") members kind.0 short_found kind.1, needed_found Is32Bytes hex_32_of (codes "mac") members mac.0 hex_32_found mac.1) })
act_found names.DeviceLocked members act h =
    let user = both_found (needed u32_of (codes "user") members) _ act h in
    given names.DeviceLocked (acts.DeviceLocked user.0) act user.2 (record { kind = refl; fields = needed_found (λ n. n < 2 ^ 32) u32_of (codes "user") members user.0 short_found user.1 })
act_found names.DeviceUnlocked members act h =
    let user = both_found (needed u32_of (codes "user") members) _ act h in
    given names.DeviceUnlocked (acts.DeviceUnlocked user.0) act user.2 (record { kind = refl; fields = needed_found (λ n. n < 2 ^ 32) u32_of (codes "user") members user.0 short_found user.1 })
act_found names.EarlyBootEnded members act h = given names.EarlyBootEnded acts.EarlyBootEnded act h (record { kind = refl; fields = tt })
act_found names.ClearNamespace members act h =
    let domain = both_found (needed u32_of (codes "domain") members) _ act h in
    let nspace = both_found (defaulted 0 u64_of (codes "nspace") members) _ act domain.2 in
    given names.ClearNamespace (acts.ClearNamespace domain.0 nspace.0) act nspace.2 (record { kind = refl; fields = needed_found (λ n. n < 2 ^ 32) u32_of (codes "domain") members domain.0 short_found domain.1 })
act_found names.UserRemoved members act h =
    let user = both_found (needed u32_of (codes "user") members) _ act h in
    given names.UserRemoved (acts.UserRemoved user.0) act user.2 (record { kind = refl; fields = needed_found (λ n. n < 2 ^ 32) u32_of (codes "user") members user.0 short_found user.1 })
act_found names.Leave members act h =
    let ticket = both_found (needed u64_of (codes "ticket") members) _ act h in
    given names.Leave (acts.Leave ticket.0) act ticket.2 (record { kind = refl; fields = tt })
act_found names.Restart members act h =
    let root = both_found (optional hex_32_of (codes "root") members) _ act h in
    given names.Restart (acts.Restart root.0) act root.2 (record { kind = refl; fields = optional_found Is32Bytes hex_32_of (codes "root") members root.0 hex_32_found root.1 })
act_found names.UpgradeKey members act h =
    let key = both_found (key_of Text members) _ act h in
    let params = both_found (params_of members) _ act key.2 in
    given names.UpgradeKey (acts.UpgradeKey key.0 params.0) act params.2 (record { kind = refl; fields = (key_found members key.0 key.1, params_found members params.0 params.1) })
act_found names.ImportWrappedKey members act h =
    let key = both_found (key_of Text members) _ act h in
    let params = both_found (params_of members) _ act key.2 in
    let wrapping = both_found (needed (descriptor_of Text) (codes "wrapping") members) _ act params.2 in
    let wrapped = both_found (needed hex_of (codes "wrapped") members) _ act wrapping.2 in
    let unwrapping = both_found (list_at (codes "unwrapping") members) _ act wrapped.2 in
    given names.ImportWrappedKey (acts.ImportWrappedKey key.0 params.0 wrapping.0 wrapped.0 unwrapping.0) act unwrapping.2 (record {
      kind = refl;
      fields = (
        key_found members key.0 key.1,
        params_found members params.0 params.1,
        needed_found (IsKey Text) (descriptor_of Text) (codes "wrapping") members wrapping.0 descriptor_found wrapping.1,
        needed_found IsBytes hex_of (codes "wrapped") members wrapped.0 hex_found wrapped.1,
        list_at_found (codes "unwrapping") members unwrapping.0 unwrapping.1,
      );
    })

-- ---- events

no_client : (b : Bool) (o : Option ℕ) (client : ℕ) → (if b then o else Some 0) ≡ Some client → b ≡ false → client ≡ 0
no_client true o client h none = absurd (true≢false none)
no_client false o client h none = sym (some_is 0 client h)

event_found : (members : Data) (event : Event) → event_in Text members ≡ Some event → IsToldWhole Text event
event_found members event h =
    let reading = both_found (reading_of members) _ event h in
    let name = both_found (name_of members) _ event reading.2 in
    let client = both_found (client_of name.0 members) _ event name.2 in
    let act = both_found (act_of Text name.0 members) _ event client.2 in
    let of = act_found name.0 members act.0 act.1 in
    subst (IsToldWhole Text) (some_is (record { reading = reading.0; client = client.0; act = act.0 }) event act.2) (record {
      fields = of.fields;
      client = λ none. no_client (row_of name.0).has_client _ client.0 client.1 (ap (λ it. (row_of it).has_client) (sym of.kind) ∙ none);
    })

line_found : (members : Data) (line : Line) → line_in members ≡ Some line → IsToldWhole Text line.event
line_found members line h =
    let event = both_found (event_in Text members) _ line h in
    let hold = both_found (hold_of (kind_of event.0.act) members) _ line event.2 in
    subst (λ it. IsToldWhole Text it.event) (some_is (record { event = event.0; hold = hold.0 }) line hold.2) (event_found members event.0 event.1)

pub line_is_whole : (members : Data) (result : Result Line LineFault) → Gives result (line_in members) → IfOk result (λ line. IsToldWhole Text line.event)
line_is_whole members (Ok line) h = line_found members line h
line_is_whole members (Err Malformed) h = tt
line_is_whole members (Err Memory) h = tt
