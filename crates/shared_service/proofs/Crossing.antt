-- What a service is made of may go from thread to thread, and the service may be shared by threads.
use denote.Param.Send.{IsSend, IsSync, sendable, struct_sync}
use denote.Struct.Declared.{shape}
use denote.Param.SendFields.{as_row_send, as_row_sync}
use denote.RattleType.{RattleType}
use Rattle.ks_outside.specs.declared.disk.Disk.{Ghosts as DiskGhosts}
use Rattle.ks_outside.specs.declared.entropy.Entropy.{Ghosts as EntropyGhosts}
use Rattle.service_book.specs.contracts.tally.Tally as tally_type
use Rattle.shared_service.specs.contracts.record.Record as service_record_type
use Rattle.shared_service.specs.contracts.name.ServiceId as name_type
use Rattle.shared_service.specs.contracts.desk.Desk as desk_type
use Rattle.shared_service.specs.contracts.pass.Kept as kept_type
use Rattle.shared_service.specs.contracts.pass.Pass as pass_type
use Rattle.shared_service.specs.contracts.shared.Shared as shared_type
use Rattle.atomic_table.specs.declared.shared.TableRule.{Ghosts as RuleGhosts}
use Rattle.atomic_table.specs.contracts.owned.Table as table_type
use Rattle.turn_lock.specs.contracts.lock.Locked as lock_type
use Rattle.turn_lock.specs.contracts.view.View as view_type
use Rattle.turn_lock.specs.contracts.rule.Turns as turns_type
use Rattle.turn_lock.specs.Views.{first_view}
use Rattle.service_book.specs.declared.entry.BookEntry.{BookEntry}
use Rattle.shared_service.specs.declared.name.ServiceId.{ServiceId}
use Rattle.atomic_table.proofs.badge.Badge.TheSendSync as badges
use Rattle.atomic_table.proofs.shared.Shared.TheSendSync as tables
use Rattle.atomic_table.proofs.send_lease.SendLease.TheSendSync as leases
use Rattle.atomic_table.specs.contracts.send_lease.SendLease as lease_type
use Rattle.std.specs.contracts.alloc.Global as heap_type
use Rattle.std.specs.contracts.option.Option as option_type
use Rattle.std.specs.contracts.impls.GlobalAllocator.TheImpl.{ghosts as heap_ghosts}
use Rattle.std.proofs.Crossing.{crosses as owned, frees, send as heap_send}
use Rattle.std.proofs.MapsCrossing.{crosses as maps}
use Rattle.tags.specs.contracts.bytes.Bytes as bytes_type
use Rattle.tags.specs.contracts.descriptor.Descriptor as descriptor_type
use Rattle.tags.specs.contracts.secrets.DeviceSecrets as secrets_type
use Rattle.tags.specs.contracts.policy.Policy as policy_type
use Rattle.tags.specs.contracts.param.ParamValue as value_type
use Rattle.tags.specs.contracts.param.Param as param_type
use Rattle.tag_lists.specs.contracts.list.AuthList as list_type
use Rattle.journal_records.specs.contracts.record.KeyRecord as record_type
use Rattle.journal_records.specs.contracts.change.Change as change_type
use Rattle.grants.specs.contracts.maps.GrantMaps as grant_maps_type
use Rattle.grants.specs.contracts.table.Grants as grants_type
use Rattle.key_maps.specs.contracts.maps.KeyMaps as key_maps_type
use Rattle.key_maps.specs.contracts.keys.Keys as keys_type
use Rattle.lasting_table.specs.contracts.part.Part as part_type
use Rattle.lasting_table.specs.contracts.lasting.LastingTable as lasting_type
use Rattle.record_areas.specs.contracts.area.Area as area_type
use Rattle.journal_compact.specs.contracts.areas.Areas as areas_type
use Rattle.journal_compact.specs.contracts.areas.Turn as turn_type
use Rattle.journal_compact.specs.contracts.places.Selected as selected_type
use Rattle.key_database.specs.contracts.database.KeyDatabase as database_type
use Rattle.cipher_ops.specs.contracts.state.CipherState as cipher_type
use Rattle.live_tables.specs.contracts.operations.OperationRow as operation_type
use Rattle.live_tables.specs.contracts.operations.Operations as operations_type
use Rattle.live_tables.specs.contracts.tickets.Tickets as tickets_type
use Rattle.live_tables.specs.contracts.begins.Begins as begins_type
use Rattle.live_tables.specs.contracts.device.DeviceState as device_type
use Rattle.token_store.specs.contracts.store.TokenStore as tokens_type
use Rattle.live_tables.specs.contracts.boot.Boot as boot_type
use Rattle.live_tables.specs.contracts.clients.Clients as clients_type
use Rattle.keystore_core.specs.contracts.tables.Tables as tables_type
use Rattle.keystore_core.specs.contracts.engine.Engine as engine_type
use Rattle.rule_model.specs.contracts.event.Act as act_type
use Rattle.rule_model.specs.contracts.event.Event as event_type
use Rattle.rule_model.specs.contracts.reply.Entries as entries_type
use Rattle.rule_model.specs.contracts.reply.Fields as fields_type
use Rattle.rule_model.specs.contracts.reply.Reply as reply_type
use Rattle.rule_model.specs.contracts.entry.Entry as entry_type
use Rattle.service_book.specs.contracts.entry.BookEntry as book_entry_type
use Rattle.service_book.specs.contracts.book.Book as book_type
use Rattle.operation_slots.specs.contracts.slots.Slots as slots_type

pub bytes_send : IsSend (bytes_type.the_field).row
bytes_send = search (owned, sendable) depth 60 fits 20000

pub descriptor_send : IsSend (descriptor_type.the_field).row
descriptor_send = search (bytes_send, owned, sendable) depth 60 fits 20000

pub secrets_send : IsSend (secrets_type.the_field).row
secrets_send = search (owned, sendable) depth 60 fits 20000

pub policy_send : IsSend (policy_type.the_field).row
policy_send = search (owned, sendable) depth 60 fits 20000

pub value_send : IsSend (value_type.the_field).row
value_send = search (bytes_send, owned, sendable) depth 60 fits 20000

pub param_send : IsSend (param_type.the_field).row
param_send = search (value_send, owned, sendable) depth 60 fits 20000

pub param_item : IsSend param_type.the_row
param_item = search (param_send, value_send, owned, sendable) depth 60 fits 20000

pub list_send : IsSend (list_type.the_field).row
list_send = search (param_item, param_send, owned, sendable) depth 60 fits 20000

pub record_send : IsSend (record_type.the_field).row
record_send = search (bytes_send, owned, sendable) depth 60 fits 20000

pub record_item : IsSend record_type.the_row
record_item = search (record_send, bytes_send, owned, sendable) depth 60 fits 20000

pub change_send : IsSend (change_type.the_field).row
change_send = search (record_send, bytes_send, owned, sendable) depth 60 fits 20000

pub grant_maps_send : IsSend (grant_maps_type.the_field).row
grant_maps_send = search (maps, owned, sendable) depth 60 fits 20000

pub grants_send : IsSend (grants_type.the_field).row
grants_send = search (grant_maps_send, owned, sendable) depth 60 fits 20000

pub key_maps_send : IsSend (key_maps_type.the_field).row
key_maps_send = search (record_item, record_send, maps, owned, sendable) depth 60 fits 20000

pub keys_send : IsSend (keys_type.the_field).row
keys_send = search (key_maps_send, owned, sendable) depth 60 fits 20000

pub part_send : IsSend (part_type.the_field).row
part_send = search (keys_send, grants_send, owned, sendable) depth 60 fits 20000

pub lasting_send : IsSend (lasting_type.the_field).row
lasting_send = search (part_send, owned, sendable) depth 60 fits 20000

pub area_send : IsSend (area_type.the_field).row
area_send = search (owned, sendable) depth 60 fits 20000

pub turn_send : IsSend (turn_type.the_field).row
turn_send = search (area_send, owned, sendable) depth 60 fits 20000

pub selected_send : IsSend (selected_type.the_field).row
selected_send = search (owned, sendable) depth 60 fits 20000

pub areas_send : IsSend (areas_type.the_field).row
areas_send = search (area_send, turn_send, selected_send, owned, sendable) depth 60 fits 20000

pub database_send : IsSend (database_type.the_field).row
database_send = search (lasting_send, areas_send, change_send, owned, sendable) depth 60 fits 20000

pub cipher_send : IsSend (cipher_type.the_field).row
cipher_send = search (bytes_send, owned, sendable) depth 60 fits 20000

pub cipher_item : IsSend cipher_type.the_row
cipher_item = search (cipher_send, bytes_send, owned, sendable) depth 60 fits 20000

pub operation_send : IsSend (operation_type.the_field).row
operation_send = search (list_send, bytes_send, owned, sendable) depth 60 fits 20000

pub operation_item : IsSend operation_type.the_row
operation_item = search (operation_send, list_send, bytes_send, owned, sendable) depth 60 fits 20000

pub operations_send : IsSend (operations_type.the_field).row
operations_send = search (operation_item, operation_send, owned, sendable) depth 60 fits 20000

pub tickets_send : IsSend (tickets_type.the_field).row
tickets_send = search (maps, owned, sendable) depth 60 fits 20000

pub begins_send : IsSend (begins_type.the_field).row
begins_send = search (maps, owned, sendable) depth 60 fits 20000

pub device_send : IsSend (device_type.the_field).row
device_send = search (owned, sendable) depth 60 fits 20000

pub tokens_send : IsSend (tokens_type.the_field).row
tokens_send = search (owned, sendable) depth 60 fits 20000

pub boot_send : IsSend (boot_type.the_field).row
boot_send = search (begins_send, device_send, tokens_send, owned, sendable) depth 60 fits 20000

pub clients_send : IsSend (clients_type.the_field).row
clients_send = search (maps, owned, sendable) depth 60 fits 20000

pub slots_send : IsSend (slots_type.the_field cipher_type.the_row).row
slots_send = search (cipher_item, cipher_send, owned, sendable) depth 60 fits 20000

pub tables_send : IsSend (tables_type.the_field).row
tables_send = search (secrets_send, policy_send, clients_send, database_send, operations_send, slots_send, cipher_send, tickets_send, boot_send, owned, sendable) depth 60 fits 20000

pub engine_send : IsSend (engine_type.the_field).row
engine_send = search (tables_send, owned, sendable) depth 60 fits 20000

pub act_send : IsSend (act_type.the_field).row
act_send = search (descriptor_send, bytes_send, owned, sendable) depth 60 fits 20000

pub event_send : IsSend (event_type.the_field).row
event_send = search (act_send, owned, sendable) depth 60 fits 20000

pub entries_send : IsSend (entries_type.the_field).row
entries_send = search (bytes_send, owned, sendable) depth 60 fits 20000

pub fields_send : IsSend (fields_type.the_field).row
fields_send = search (entries_send, bytes_send, owned, sendable) depth 60 fits 20000

pub reply_send : IsSend (reply_type.the_field).row
reply_send = search (fields_send, owned, sendable) depth 60 fits 20000

pub entry_send : IsSend (entry_type.the_field).row
entry_send = search (event_send, reply_send, bytes_send, owned, sendable) depth 60 fits 20000

pub book_entry_send : IsSend (book_entry_type.the_field).row
book_entry_send = search (entry_send, owned, sendable) depth 60 fits 20000

pub book_entry_item : IsSend book_entry_type.the_row
book_entry_item = search (book_entry_send, entry_send, owned, sendable) depth 60 fits 20000

pub book_send : IsSend (book_type.the_field).row
book_send = search (book_entry_item, book_entry_send, owned, sendable) depth 60 fits 20000

-- ---- the service

pub tally_send : IsSend (tally_type.the_field).row
tally_send = search (owned, sendable) depth 60 fits 20000

pub service_record_send : IsSend (service_record_type.the_field).row
service_record_send = search (book_entry_item, tally_send, owned, sendable) depth 60 fits 20000

module _ (N : RattleType) where
  pub name_send : IsSend (name_type.the_field N).row
  name_send = search (owned, sendable) depth 60 fits 20000

  pub name_sync : IsSync (name_type.the_field N).row
  name_sync = search (owned, sendable) depth 60 fits 20000

  pub name_shown : IsSync (name_type.the_row N)
  name_shown = search (owned, sendable) depth 60 fits 20000

  pub kept_send : IsSend (kept_type.the_field N).row
  kept_send = search (badges.the_send, owned, sendable) depth 60 fits 20000

  pub pass_send : (n : EntropyGhosts N.Denot) → IsSend (pass_type.the_field N n).row
  pass_send n = search (kept_send, badges.the_send, owned, sendable) depth 60 fits 20000

-- at the heap, since `search` finds no allocator's ghost members in a row
lease_sync : (T : RattleType) → IsSync (lease_type.the_row T heap_type.the_row heap_ghosts)
lease_sync T = leases.the_sync T heap_type.the_row heap_ghosts heap_send frees

module _ (S V K P : RattleType) (g : RuleGhosts P.Denot S.Denot V.Denot K.Denot) where
  pub table_sync : IsSend S → IsSync (table_type.the_field S V K P heap_type.the_row g heap_ghosts).row
  table_sync slot = search (tables.the_sync, lease_sync, owned, sendable) depth 60 fits 20000

  pub lock_sync : IsSend S → IsSync K → IsSync (lock_type.the_field S V K P g).row
  lock_sync slot name = search (table_sync, owned, sendable) depth 60 fits 20000

slot_send : (T : RattleType) → IsSend T → IsSend (option_type.the_row T)
slot_send T sent = search (owned, sendable) depth 60 fits 20000

module _ (D N : RattleType) (d : DiskGhosts D.Denot) (n : EntropyGhosts N.Denot) where
  pub desk_send : IsSend D → IsSend N → IsSend (desk_type.the_field D N d n).row
  desk_send disk entropy = search (engine_send, service_record_send, name_send N, owned, sendable) depth 60 fits 20000

  pub desk_item : IsSend D → IsSend N → IsSend (desk_type.the_row D N d n)
  desk_item disk entropy = as_row_send (desk_type.the_field D N d n) (desk_send disk entropy)

  pub shared_sync : IsSend D → IsSend N → IsSync (shared_type.the_field D N d n).row
  shared_sync disk entropy =
      let slot : IsSend (option_type.the_row (desk_type.the_row D N d n)) = slot_send (desk_type.the_row D N d n) (desk_item disk entropy) in
      struct_sync (shape (shared_type.the_type D N d n))
      (search sendable depth 20, (lock_sync (option_type.the_row (desk_type.the_row D N d n)) (view_type.the_row book_entry_type.the_row (name_type.the_row N)) (name_type.the_row N) turns_type.the_row (record { holds = _; first = first_view {E = BookEntry} {K = ServiceId N.Denot} }) slot (name_shown N), (search sendable, tt)))

  pub shared_shown : IsSend D → IsSend N → IsSync (shared_type.the_row D N d n)
  shared_shown disk entropy = as_row_sync (shared_type.the_field D N d n) (shared_sync disk entropy)
