-- Each kind of body: what was read is spelled so, and what is spelled is read again.
use Rattle.std.proofs.Common.{◌≡◌, ◌==◌, ℕ, Bool, true, List, [], ◌∷◌, Option, Some, None, refl, subst, inl, inr}
use Rattle.std.specs.Prelude.{find}
use Rattle.std.proofs.lemmas.Bool.{cases_Bool, eqb-true}
use Rattle.std.proofs.lemmas.Option.{none-some, same_Some}
use Rattle.byte_strings.specs.Readers.{Reader, optional_at}
use Rattle.byte_strings.specs.Codecs.{IsBytes, IsCodec, IsRead, IsAgain}
use Rattle.byte_strings.proofs.Fields.{byte_codec, u32_codec, u64_codec, bytes_codec, counted_u32_codec, optional_codec, flag_codec, wide4}
use Rattle.byte_strings.proofs.Rows.{made_read, field_read, last_read, field_again, last_again, row_codec, whole_takes, whole_again}
use Rattle.tags.specs.declared.descriptor.Descriptor.{Descriptor}
use Rattle.rule_model.specs.declared.event.Act.{Act}
use Rattle.rule_model.specs.declared.event.Act.TheVariants.{Connect, Disconnect, GenerateKey, ImportKey, CreateOperation, EnterAad, EnterUpdate, EnterFinish, Abort, GetKeyEntry, DeleteKey, Grant, Ungrant, GetNumberOfEntries, ListEntriesBatched, AddAuthToken, DeviceLocked, DeviceUnlocked, EarlyBootEnded, ClearNamespace, UserRemoved, Leave, Restart, UpgradeKey, ImportWrappedKey}
use Rattle.rule_model.specs.declared.act_kind.ActKind.{ActKind}
use Rattle.rule_model.specs.declared.act_kind.ActKind.TheVariants as kinds
use Rattle.rule_model.specs.Acts.{all_kinds, is_asked, kind_numbered, row_of}
use Rattle.wire_frames.specs.Spelling.{optional, key_of, body_of, IsShort, IsKey, AreFields}
use Rattle.wire_frames.specs.Spelling.{fields_of as fields_spelled}
use Rattle.wire_frames.specs.Reading.{key_at, connected_at, generated_at, imported_at, created_at, aad_at, update_at, finish_at, aborted_at, found_at, deleted_at, granted_at, ungranted_at, counted_entries_at, listed_at, token_at, locked_at, unlocked_at, booted_at, cleared_at, removed_at, upgraded_at, wrapped_at, nothing_at, fields_of, fields_at, act_at, act_in}

-- ---- fields

optional_u32_codec : IsCodec (optional_at 4) optional IsShort
optional_u32_codec = optional_codec 4 wide4

key_read : IsRead key_at (λ text key. (text ≡ key_of key) × IsKey key)
unfolding key_at
key_read =
    field_read u32_codec (λ domain d. field_read u64_codec (λ nspace n. field_read optional_u32_codec (λ alias a.
    last_read optional_u32_codec _ (λ blob b. (refl, (d, (n, (a, b))))))))

key_again : (key : Descriptor) → IsKey key → IsAgain key_at (key_of key) key
unfolding key_at
key_again key h =
    field_again u32_codec _ key.domain h.0 (field_again u64_codec _ key.nspace h.1.0 (field_again optional_u32_codec _ key.alias h.1.1.0
    (last_again optional_u32_codec _ key.blob h.1.1.1)))

key_codec : IsCodec key_at key_of IsKey
key_codec = row_codec key_read key_again

-- ---- what was read is spelled so

-- the text is the body of the act
abbrev IsBody : List ℕ → Act → Type 0
IsBody text act = (text ≡ body_of act) × AreFields act

-- the fields of a kind's acts, behind its number
abbrev IsAct : ActKind → Reader Act → Type 0
IsAct kind row = IsRead row (λ text act. IsBody ((row_of kind).number ∷ text) act)

connected_read : IsAct kinds.Connect connected_at
connected_read = last_read u32_codec _ (λ uid is_uid. (refl, is_uid))

generated_read : IsAct kinds.GenerateKey generated_at
generated_read = field_read key_codec (λ key is_key. last_read counted_u32_codec _ (λ params is_params. (refl, (is_key, is_params))))

imported_read : IsAct kinds.ImportKey imported_at
unfolding imported_at
imported_read = field_read key_codec (λ key is_key. field_read counted_u32_codec (λ params is_params. field_read u32_codec (λ format is_format. last_read counted_u32_codec _ (λ material is_material. (refl, (is_key, is_params, is_format, is_material))))))

created_read : IsAct kinds.CreateOperation created_at
unfolding created_at
created_read = field_read key_codec (λ key is_key. field_read counted_u32_codec (λ params is_params. last_read flag_codec _ (λ forced is_forced. (refl, (is_key, is_params)))))

aad_read : IsAct kinds.UpdateAad aad_at
aad_read = field_read u64_codec (λ op is_op. last_read counted_u32_codec _ (λ input is_input. (refl, (is_op, is_input))))

update_read : IsAct kinds.Update update_at
update_read = field_read u64_codec (λ op is_op. last_read counted_u32_codec _ (λ input is_input. (refl, (is_op, is_input))))

finish_read : IsAct kinds.Finish finish_at
finish_read = field_read u64_codec (λ op is_op. field_read counted_u32_codec (λ input is_input. last_read optional_u32_codec _ (λ signature is_signature. (refl, (is_op, is_input, is_signature)))))

aborted_read : IsAct kinds.Abort aborted_at
aborted_read = last_read u64_codec _ (λ op is_op. (refl, is_op))

found_read : IsAct kinds.GetKeyEntry found_at
found_read = last_read key_codec _ (λ key is_key. (refl, is_key))

deleted_read : IsAct kinds.DeleteKey deleted_at
deleted_read = last_read key_codec _ (λ key is_key. (refl, is_key))

granted_read : IsAct kinds.Grant granted_at
granted_read = field_read key_codec (λ key is_key. field_read u32_codec (λ uid is_uid. last_read u32_codec _ (λ bits is_bits. (refl, (is_key, is_uid, is_bits)))))

ungranted_read : IsAct kinds.Ungrant ungranted_at
ungranted_read = field_read key_codec (λ key is_key. last_read u32_codec _ (λ uid is_uid. (refl, (is_key, is_uid))))

counted_entries_read : IsAct kinds.GetNumberOfEntries counted_entries_at
counted_entries_read = field_read u32_codec (λ domain is_domain. last_read u64_codec _ (λ nspace is_nspace. (refl, (is_domain, is_nspace))))

listed_read : IsAct kinds.ListEntriesBatched listed_at
listed_read = field_read u32_codec (λ domain is_domain. field_read u64_codec (λ nspace is_nspace. last_read optional_u32_codec _ (λ past is_past. (refl, (is_domain, is_nspace, is_past)))))

token_read : IsAct kinds.AddAuthToken token_at
unfolding token_at
token_read = field_read u64_codec (λ challenge is_challenge. field_read u64_codec (λ user is_user. field_read u64_codec (λ authenticator is_authenticator. field_read u32_codec (λ kind is_kind. field_read u64_codec (λ time is_time. last_read (bytes_codec 32) _ (λ mac is_mac. (refl, (is_challenge, is_user, is_authenticator, is_kind, is_time, is_mac))))))))

locked_read : IsAct kinds.DeviceLocked locked_at
locked_read = last_read u32_codec _ (λ user is_user. (refl, is_user))

unlocked_read : IsAct kinds.DeviceUnlocked unlocked_at
unlocked_read = last_read u32_codec _ (λ user is_user. (refl, is_user))

cleared_read : IsAct kinds.ClearNamespace cleared_at
cleared_read = field_read u32_codec (λ domain is_domain. last_read u64_codec _ (λ nspace is_nspace. (refl, (is_domain, is_nspace))))

removed_read : IsAct kinds.UserRemoved removed_at
removed_read = last_read u32_codec _ (λ user is_user. (refl, is_user))

booted_read : IsAct kinds.EarlyBootEnded booted_at
booted_read = made_read EarlyBootEnded (refl, tt)

upgraded_read : IsAct kinds.UpgradeKey upgraded_at
upgraded_read = field_read key_codec (λ key is_key. last_read counted_u32_codec _ (λ params is_params. (refl, (is_key, is_params))))

wrapped_read : IsAct kinds.ImportWrappedKey wrapped_at
unfolding wrapped_at
wrapped_read =
    field_read key_codec (λ key is_key. field_read counted_u32_codec (λ params is_params. field_read key_codec (λ wrapping is_wrapping.
    field_read counted_u32_codec (λ wrapped is_wrapped. last_read counted_u32_codec _ (λ unwrapping is_unwrapping.
    (refl, (is_key, is_params, is_wrapping, is_wrapped, is_unwrapping)))))))

none_read : {IsSo : List ℕ → Act → Type 0} → IsRead nothing_at IsSo
none_read = record { takes = λ bytes x rest fits e. absurd (let never : ◌≡◌ {A = Option (Act × List ℕ)} None (Some (x, rest)) = e in cc) }

kind_read : (kind : ActKind) → IsAct kind (fields_of kind)
kind_read kinds.Connect = connected_read
kind_read kinds.GenerateKey = generated_read
kind_read kinds.ImportKey = imported_read
kind_read kinds.CreateOperation = created_read
kind_read kinds.UpdateAad = aad_read
kind_read kinds.Update = update_read
kind_read kinds.Finish = finish_read
kind_read kinds.Abort = aborted_read
kind_read kinds.GetKeyEntry = found_read
kind_read kinds.DeleteKey = deleted_read
kind_read kinds.Grant = granted_read
kind_read kinds.Ungrant = ungranted_read
kind_read kinds.GetNumberOfEntries = counted_entries_read
kind_read kinds.ListEntriesBatched = listed_read
kind_read kinds.AddAuthToken = token_read
kind_read kinds.DeviceLocked = locked_read
kind_read kinds.DeviceUnlocked = unlocked_read
kind_read kinds.EarlyBootEnded = booted_read
kind_read kinds.ClearNamespace = cleared_read
kind_read kinds.UserRemoved = removed_read
kind_read kinds.Disconnect = none_read
kind_read kinds.Leave = none_read
kind_read kinds.Restart = none_read
kind_read kinds.UpgradeKey = upgraded_read
kind_read kinds.ImportWrappedKey = wrapped_read

-- what a search finds passes its test
find_holds : {A : Type 0} (p : A → Bool) (xs : List A) (x : A) → find p xs ≡ Some x → p x ≡ true
find_holds p [] x e = absurd (none-some x e)
find_holds p (y ∷ xs) x e =
    elim (cases_Bool (p y)) [
      | inl here ↦ subst (λ z. p z ≡ true) (same_Some y x (rw here at e)) here
      | inr there ↦ find_holds p xs x (rw there at e)
    ]

-- the number of a kind that a number stands for is that number
numbered_is : (number : ℕ) (kind : ActKind) → kind_numbered number ≡ Some kind → (row_of kind).number ≡ number
numbered_is number kind e = eqb-true (row_of kind).number number (find_holds (λ k. (row_of k).number == number) all_kinds kind e)

numbered_read : (number : ℕ) → IsRead (fields_at (kind_numbered number)) (λ text act. IsBody (number ∷ text) act)
numbered_read number = by_found (kind_numbered number) refl where
  by_found : (found : Option ActKind) → kind_numbered number ≡ found → IsRead (fields_at found) (λ text act. IsBody (number ∷ text) act)
  by_found None e = none_read
  by_found (Some kind) e = subst (λ n. IsRead (fields_of kind) (λ text act. IsBody (n ∷ text) act)) (numbered_is number kind e) (kind_read kind)

act_read : IsRead act_at IsBody
act_read = field_read byte_codec (λ number small. numbered_read number)

pub act_takes : (body : List ℕ) (act : Act) → IsBytes body → act_in body ≡ Some act → (body ≡ body_of act) × AreFields act
unfolding act_in
act_takes body act fits e = whole_takes act_read body act fits e

-- ---- what is spelled is read again

-- a row reads the fields of the act
abbrev IsReadAgain : Reader Act → Act → Type 0
IsReadAgain row act = IsAgain row (fields_spelled act) act

connected_again : (uid : ℕ) → AreFields (Connect uid) → IsReadAgain connected_at (Connect uid)
connected_again uid h = last_again u32_codec _ uid h

generated_again : (key : Descriptor) (params : List ℕ) → AreFields (GenerateKey key params) → IsReadAgain generated_at (GenerateKey key params)
generated_again key params h = field_again key_codec _ key h.0 (last_again counted_u32_codec _ params h.1)

imported_again : (key : Descriptor) (params : List ℕ) (format : ℕ) (material : List ℕ) → AreFields (ImportKey key params format material) → IsReadAgain imported_at (ImportKey key params format material)
unfolding imported_at
imported_again key params format material h = field_again key_codec _ key h.0 (field_again counted_u32_codec _ params h.1 (field_again u32_codec _ format h.2 (last_again counted_u32_codec _ material h.3)))

created_again : (key : Descriptor) (params : List ℕ) (forced : Bool) → AreFields (CreateOperation key params forced) → IsReadAgain created_at (CreateOperation key params forced)
unfolding created_at
created_again key params forced h = field_again key_codec _ key h.0 (field_again counted_u32_codec _ params h.1 (last_again flag_codec _ forced tt))

aad_again : (op : ℕ) (input : List ℕ) → AreFields (EnterAad op input) → IsReadAgain aad_at (EnterAad op input)
aad_again op input h = field_again u64_codec _ op h.0 (last_again counted_u32_codec _ input h.1)

update_again : (op : ℕ) (input : List ℕ) → AreFields (EnterUpdate op input) → IsReadAgain update_at (EnterUpdate op input)
update_again op input h = field_again u64_codec _ op h.0 (last_again counted_u32_codec _ input h.1)

finish_again : (op : ℕ) (input : List ℕ) (signature : Option (List ℕ)) → AreFields (EnterFinish op input signature) → IsReadAgain finish_at (EnterFinish op input signature)
finish_again op input signature h = field_again u64_codec _ op h.0 (field_again counted_u32_codec _ input h.1 (last_again optional_u32_codec _ signature h.2))

aborted_again : (op : ℕ) → AreFields (Abort op) → IsReadAgain aborted_at (Abort op)
aborted_again op h = last_again u64_codec _ op h

found_again : (key : Descriptor) → AreFields (GetKeyEntry key) → IsReadAgain found_at (GetKeyEntry key)
found_again key h = last_again key_codec _ key h

deleted_again : (key : Descriptor) → AreFields (DeleteKey key) → IsReadAgain deleted_at (DeleteKey key)
deleted_again key h = last_again key_codec _ key h

granted_again : (key : Descriptor) (uid : ℕ) (bits : ℕ) → AreFields (Grant key uid bits) → IsReadAgain granted_at (Grant key uid bits)
granted_again key uid bits h = field_again key_codec _ key h.0 (field_again u32_codec _ uid h.1 (last_again u32_codec _ bits h.2))

ungranted_again : (key : Descriptor) (uid : ℕ) → AreFields (Ungrant key uid) → IsReadAgain ungranted_at (Ungrant key uid)
ungranted_again key uid h = field_again key_codec _ key h.0 (last_again u32_codec _ uid h.1)

counted_entries_again : (domain : ℕ) (nspace : ℕ) → AreFields (GetNumberOfEntries domain nspace) → IsReadAgain counted_entries_at (GetNumberOfEntries domain nspace)
counted_entries_again domain nspace h = field_again u32_codec _ domain h.0 (last_again u64_codec _ nspace h.1)

listed_again : (domain : ℕ) (nspace : ℕ) (past : Option (List ℕ)) → AreFields (ListEntriesBatched domain nspace past) → IsReadAgain listed_at (ListEntriesBatched domain nspace past)
listed_again domain nspace past h = field_again u32_codec _ domain h.0 (field_again u64_codec _ nspace h.1 (last_again optional_u32_codec _ past h.2))

token_again : (challenge : ℕ) (user : ℕ) (authenticator : ℕ) (kind : ℕ) (time : ℕ) (mac : List ℕ) → AreFields (AddAuthToken challenge user authenticator kind time mac) → IsReadAgain token_at (AddAuthToken challenge user authenticator kind time mac)
unfolding token_at
token_again challenge user authenticator kind time mac h = field_again u64_codec _ challenge h.0 (field_again u64_codec _ user h.1 (field_again u64_codec _ authenticator h.2 (field_again u32_codec _ kind h.3 (field_again u64_codec _ time h.4 (last_again (bytes_codec 32) _ mac h.5)))))

locked_again : (user : ℕ) → AreFields (DeviceLocked user) → IsReadAgain locked_at (DeviceLocked user)
locked_again user h = last_again u32_codec _ user h

unlocked_again : (user : ℕ) → AreFields (DeviceUnlocked user) → IsReadAgain unlocked_at (DeviceUnlocked user)
unlocked_again user h = last_again u32_codec _ user h

cleared_again : (domain : ℕ) (nspace : ℕ) → AreFields (ClearNamespace domain nspace) → IsReadAgain cleared_at (ClearNamespace domain nspace)
cleared_again domain nspace h = field_again u32_codec _ domain h.0 (last_again u64_codec _ nspace h.1)

removed_again : (user : ℕ) → AreFields (UserRemoved user) → IsReadAgain removed_at (UserRemoved user)
removed_again user h = last_again u32_codec _ user h

upgraded_again : (key : Descriptor) (params : List ℕ) → AreFields (UpgradeKey key params) → IsReadAgain upgraded_at (UpgradeKey key params)
upgraded_again key params h = field_again key_codec _ key h.0 (last_again counted_u32_codec _ params h.1)

wrapped_again : (key : Descriptor) (params : List ℕ) (wrapping : Descriptor) (wrapped unwrapping : List ℕ) → AreFields (ImportWrappedKey key params wrapping wrapped unwrapping)
    → IsReadAgain wrapped_at (ImportWrappedKey key params wrapping wrapped unwrapping)
unfolding wrapped_at
wrapped_again key params wrapping wrapped unwrapping h =
    field_again key_codec _ key h.0 (field_again counted_u32_codec _ params h.1 (field_again key_codec _ wrapping h.2
    (field_again counted_u32_codec _ wrapped h.3 (last_again counted_u32_codec _ unwrapping h.4))))

body_again : (act : Act) → AreFields act → IsAgain act_at (body_of act) act
body_again (Connect uid) h = record { again = λ rest. (connected_again uid h).again rest }
body_again (GenerateKey key params) h = record { again = λ rest. (generated_again key params h).again rest }
body_again (ImportKey key params format material) h = record { again = λ rest. (imported_again key params format material h).again rest }
body_again (CreateOperation key params forced) h = record { again = λ rest. (created_again key params forced h).again rest }
body_again (EnterAad op input) h = record { again = λ rest. (aad_again op input h).again rest }
body_again (EnterUpdate op input) h = record { again = λ rest. (update_again op input h).again rest }
body_again (EnterFinish op input signature) h = record { again = λ rest. (finish_again op input signature h).again rest }
body_again (Abort op) h = record { again = λ rest. (aborted_again op h).again rest }
body_again (GetKeyEntry key) h = record { again = λ rest. (found_again key h).again rest }
body_again (DeleteKey key) h = record { again = λ rest. (deleted_again key h).again rest }
body_again (Grant key uid bits) h = record { again = λ rest. (granted_again key uid bits h).again rest }
body_again (Ungrant key uid) h = record { again = λ rest. (ungranted_again key uid h).again rest }
body_again (GetNumberOfEntries domain nspace) h = record { again = λ rest. (counted_entries_again domain nspace h).again rest }
body_again (ListEntriesBatched domain nspace past) h = record { again = λ rest. (listed_again domain nspace past h).again rest }
body_again (AddAuthToken challenge user authenticator kind time mac) h = record { again = λ rest. (token_again challenge user authenticator kind time mac h).again rest }
body_again (DeviceLocked user) h = record { again = λ rest. (locked_again user h).again rest }
body_again (DeviceUnlocked user) h = record { again = λ rest. (unlocked_again user h).again rest }
body_again EarlyBootEnded h = record { again = λ rest. refl }
body_again (ClearNamespace domain nspace) h = record { again = λ rest. (cleared_again domain nspace h).again rest }
body_again (UserRemoved user) h = record { again = λ rest. (removed_again user h).again rest }
body_again Disconnect h = absurd h
body_again (Leave ticket) h = absurd h
body_again (Restart root) h = absurd h
body_again (UpgradeKey key params) h = record { again = λ rest. (upgraded_again key params h).again rest }
body_again (ImportWrappedKey key params wrapping wrapped unwrapping) h = record { again = λ rest. (wrapped_again key params wrapping wrapped unwrapping h).again rest }

pub act_again : (act : Act) → AreFields act → act_in (body_of act) ≡ Some act
unfolding act_in
act_again act h = whole_again (body_again act h)

-- the act of a frame is one that a client asks for
pub framed_asked : (act : Act) → AreFields act → is_asked act ≡ true
framed_asked (Leave ticket) h = absurd h
framed_asked (Restart root) h = absurd h
framed_asked _ h = refl
