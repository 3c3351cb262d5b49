use Rattle.std.proofs.Common.{◌≡◌, true, refl, subst}
use Rattle.std.proofs.lemmas.Bool.{false≢true}
use Rattle.rule_model.specs.Acts.{is_framed}
use Rattle.rule_model.specs.declared.event.Act.{Act}
use Rattle.rule_model.specs.declared.event.Act.TheVariants.{Connect, Disconnect, GenerateKey, ImportKey, CreateOperation, EnterAad, EnterUpdate, EnterFinish, Abort, GetKeyEntry, DeleteKey, Grant, Ungrant, GetNumberOfEntries, ListEntriesBatched, AddAuthToken, DeviceLocked, DeviceUnlocked, EarlyBootEnded, ClearNamespace, UserRemoved, Leave, Restart, UpgradeKey, ImportWrappedKey}
use Rattle.wire_frames.specs.Spelling.{is_on_key}
use Rattle.wire_frames.proofs.writing.acts.put_fields.Goals as goal

pub put_key_fields-requires-clause-named : goal.put_key_fields-requires-clause-named
put_key_fields-requires-clause-named c = by_act c.args.act.now refl where
  by_act : (act : Act) → c.args.act.now ≡ act → is_on_key act ≡ true
  by_act (Connect uid) e = absurd (c.in_default.not-Connect uid e)
  by_act Disconnect e = absurd (false≢true (subst (λ a. is_framed a ≡ true) e c.requires.framed))
  by_act (GenerateKey key params) e = refl
  by_act (ImportKey key params format material) e = refl
  by_act (CreateOperation key params forced) e = refl
  by_act (EnterAad op input) e = absurd (c.in_default.not-EnterAad op input e)
  by_act (EnterUpdate op input) e = absurd (c.in_default.not-EnterUpdate op input e)
  by_act (EnterFinish op input signature) e = absurd (c.in_default.not-EnterFinish op input signature e)
  by_act (Abort op) e = absurd (c.in_default.not-Abort op e)
  by_act (GetKeyEntry key) e = refl
  by_act (DeleteKey key) e = refl
  by_act (Grant key uid bits) e = refl
  by_act (Ungrant key uid) e = refl
  by_act (GetNumberOfEntries domain nspace) e = absurd (c.in_default.not-GetNumberOfEntries domain nspace e)
  by_act (ListEntriesBatched domain nspace past) e = absurd (c.in_default.not-ListEntriesBatched domain nspace past e)
  by_act (AddAuthToken challenge user authenticator kind time mac) e = absurd (c.in_default.not-AddAuthToken challenge user authenticator kind time mac e)
  by_act (DeviceLocked user) e = absurd (c.in_default.not-DeviceLocked user e)
  by_act (DeviceUnlocked user) e = absurd (c.in_default.not-DeviceUnlocked user e)
  by_act EarlyBootEnded e = absurd (c.in_default.not-EarlyBootEnded e)
  by_act (ClearNamespace domain nspace) e = absurd (c.in_default.not-ClearNamespace domain nspace e)
  by_act (UserRemoved user) e = absurd (c.in_default.not-UserRemoved user e)
  by_act (Leave ticket) e = absurd (false≢true (subst (λ a. is_framed a ≡ true) e c.requires.framed))
  by_act (Restart root) e = absurd (false≢true (subst (λ a. is_framed a ≡ true) e c.requires.framed))
  by_act (UpgradeKey key params) e = refl
  by_act (ImportWrappedKey key params wrapping wrapped unwrapping) e = refl
