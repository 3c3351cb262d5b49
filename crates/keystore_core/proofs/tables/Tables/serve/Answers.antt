use Rattle.std.proofs.Common.{refl}
use Rattle.rule_model.specs.declared.event.Act.TheVariants as acts
use Rattle.keystore_core.proofs.Standing.{at_begin, at_few}
use Rattle.keystore_core.proofs.Storing.{leaves_after, leaves_at}
use Rattle.keystore_core.proofs.Written.{leaves_goes}
use Rattle.keystore_core.proofs.tables.Tables.serve.Goals as goal

pub connect-requires : goal.connect-requires
connect-requires g c = at_few c.args.self.now c.args.step _ _ c.requires.few c.requires.at

pub enter-requires-clause-tables : goal.enter-requires-clause-tables
enter-requires-clause-tables g c = at_few c.args.self.now c.args.step _ _ c.requires.few c.requires.at

pub enter-requires-in-EnterUpdate-clause-tables : goal.enter-requires-in-EnterUpdate-clause-tables
enter-requires-in-EnterUpdate-clause-tables g c = at_few c.args.self.now c.args.step _ _ c.requires.few c.requires.at

pub enter-requires-in-EnterFinish-clause-tables : goal.enter-requires-in-EnterFinish-clause-tables
enter-requires-in-EnterFinish-clause-tables g c = at_few c.args.self.now c.args.step _ _ c.requires.few c.requires.at

pub abort-requires-clause-tables : goal.abort-requires-clause-tables
abort-requires-clause-tables g c = at_few c.args.self.now c.args.step _ _ c.requires.few c.requires.at

pub begin-requires-clause-at : goal.begin-requires-clause-at
begin-requires-clause-at g c = at_begin c.args.self.now c.args.step _ _ c.in-CreateOperation.key c.in-CreateOperation.params c.in-CreateOperation.forced c.requires.at

pub returns-in-Connect-clause-store : goal.returns-in-Connect-clause-store
returns-in-Connect-clause-store g c = rw c.in-Connect.is (leaves_after g.D.Disk c.args.disk.now c.args.self.now c.connect.new.self c.args.caller (acts.Connect c.in-Connect.uid) c.connect.result refl c.connect.ensures.store c.connect.ensures.serves)

pub returns-in-Disconnect-clause-store : goal.returns-in-Disconnect-clause-store
returns-in-Disconnect-clause-store g c = rw c.in-Disconnect.is (leaves_goes g.D.Disk c.args.disk.now c.args.self.now c.disconnect.new.self c.args.caller acts.Disconnect c.disconnect.result c.disconnect.ensures.store refl)

pub returns-in-CreateOperation-clause-store : goal.returns-in-CreateOperation-clause-store
returns-in-CreateOperation-clause-store g c = rw c.in-CreateOperation.is (leaves_at g.D.Disk c.args.disk.now c.args.self.now c.begin.new.self c.args.caller (acts.CreateOperation c.in-CreateOperation.key c.in-CreateOperation.params c.in-CreateOperation.forced) _ _ c.begin.result refl c.begin.ensures.store c.begin.ensures.serves)

pub returns-in-EnterAad-clause-store : goal.returns-in-EnterAad-clause-store
returns-in-EnterAad-clause-store g c = rw c.in-EnterAad.is c.enter.ensures.store

pub returns-in-EnterUpdate-clause-store : goal.returns-in-EnterUpdate-clause-store
returns-in-EnterUpdate-clause-store g c = rw c.in-EnterUpdate.is c.enter-in-EnterUpdate.ensures.store

pub returns-in-EnterFinish-clause-store : goal.returns-in-EnterFinish-clause-store
returns-in-EnterFinish-clause-store g c = rw c.in-EnterFinish.is c.enter-in-EnterFinish.ensures.store

pub returns-in-Abort-clause-store : goal.returns-in-Abort-clause-store
returns-in-Abort-clause-store g c = rw c.in-Abort.is (leaves_goes g.D.Disk c.args.disk.now c.args.self.now c.abort.new.self c.args.caller (acts.Abort c.in-Abort.op) c.abort.result c.abort.ensures.store refl)

pub returns-in-GetKeyEntry-clause-store : goal.returns-in-GetKeyEntry-clause-store
returns-in-GetKeyEntry-clause-store g c = rw c.in-GetKeyEntry.is (leaves_after g.D.Disk c.args.disk.now c.args.self.now c.args.self.now c.args.caller (acts.GetKeyEntry c.in-GetKeyEntry.key) c.get_key_entry.result refl c.get_key_entry.ensures.store c.get_key_entry.ensures.serves)

pub returns-in-GetNumberOfEntries-clause-store : goal.returns-in-GetNumberOfEntries-clause-store
returns-in-GetNumberOfEntries-clause-store g c = rw c.in-GetNumberOfEntries.is (leaves_goes g.D.Disk c.args.disk.now c.args.self.now c.args.self.now c.args.caller (acts.GetNumberOfEntries c.in-GetNumberOfEntries.domain c.in-GetNumberOfEntries.nspace) c.get_number_of_entries.result c.get_number_of_entries.ensures.store refl)

pub returns-in-ListEntriesBatched-clause-store : goal.returns-in-ListEntriesBatched-clause-store
returns-in-ListEntriesBatched-clause-store g c = rw c.in-ListEntriesBatched.is (leaves_after g.D.Disk c.args.disk.now c.args.self.now c.args.self.now c.args.caller (acts.ListEntriesBatched c.in-ListEntriesBatched.domain c.in-ListEntriesBatched.nspace c.in-ListEntriesBatched.past) c.list_entries_batched.result refl c.list_entries_batched.ensures.store c.list_entries_batched.ensures.serves)

pub returns-in-AddAuthToken-clause-store : goal.returns-in-AddAuthToken-clause-store
returns-in-AddAuthToken-clause-store g c = rw c.in-AddAuthToken.is (leaves_goes g.D.Disk c.args.disk.now c.args.self.now c.add_auth_token.new.self c.args.caller (acts.AddAuthToken c.in-AddAuthToken.challenge c.in-AddAuthToken.user c.in-AddAuthToken.authenticator c.in-AddAuthToken.kind c.in-AddAuthToken.time c.in-AddAuthToken.mac) c.add_auth_token.result c.add_auth_token.ensures.store refl)

pub returns-in-DeviceLocked-clause-store : goal.returns-in-DeviceLocked-clause-store
returns-in-DeviceLocked-clause-store g c = rw c.in-DeviceLocked.is (leaves_goes g.D.Disk c.args.disk.now c.args.self.now c.device_locked.new.self c.args.caller (acts.DeviceLocked c.in-DeviceLocked.user) c.device_locked.result c.device_locked.ensures.store refl)

pub returns-in-DeviceUnlocked-clause-store : goal.returns-in-DeviceUnlocked-clause-store
returns-in-DeviceUnlocked-clause-store g c = rw c.in-DeviceUnlocked.is (leaves_goes g.D.Disk c.args.disk.now c.args.self.now c.device_unlocked.new.self c.args.caller (acts.DeviceUnlocked c.in-DeviceUnlocked.user) c.device_unlocked.result c.device_unlocked.ensures.store refl)

pub returns-in-EarlyBootEnded-clause-store : goal.returns-in-EarlyBootEnded-clause-store
returns-in-EarlyBootEnded-clause-store g c = rw c.in-EarlyBootEnded.is (leaves_goes g.D.Disk c.args.disk.now c.args.self.now c.early_boot_ended.new.self c.args.caller acts.EarlyBootEnded c.early_boot_ended.result c.early_boot_ended.ensures.store refl)
