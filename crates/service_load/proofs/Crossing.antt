-- A service over a disk in memory, a board, and calls of both, may be shared by threads.
use denote.Ref.{NamedLft}
use denote.Param.Send.{IsSend, IsSync, sendable}
use denote.Param.SendFields.{as_row_send, as_row_sync}
use Rattle.std.proofs.Crossing.{crosses as owned}
use Rattle.std.proofs.MapsCrossing.{crosses as maps}
use Rattle.shared_service.proofs.Crossing.{shared_sync}
use Rattle.ks_outside.specs.contracts.counting.SteadyEntropy as entropy_type
use Rattle.disk_model.specs.contracts.memory.MemoryDisk as disk_type
use Rattle.service_load.specs.contracts.board.Board as board_type
use Rattle.service_load.specs.contracts.service.Service as service_type
use Rattle.service_load.specs.contracts.running.Calls as calls_type

pub entropy_send : IsSend (entropy_type.the_field).row
entropy_send = search (owned, sendable) depth 60 fits 20000

pub entropy_item : IsSend entropy_type.the_row
entropy_item = as_row_send entropy_type.the_field entropy_send

pub disk_send : (l : NamedLft) → IsSend (disk_type.the_field l).row
disk_send l = search (maps, owned, sendable) depth 60 fits 20000

pub disk_item : (l : NamedLft) → IsSend (disk_type.the_row l)
disk_item l = as_row_send (disk_type.the_field l) (disk_send l)

pub service_sync : IsSync (service_type.the_field).row
service_sync = search (shared_sync, disk_item, entropy_item, sendable) depth 60 fits 20000

pub service_shown : IsSync service_type.the_row
service_shown = as_row_sync service_type.the_field service_sync

pub board_sync : IsSync (board_type.the_field).row
board_sync = search (owned, sendable) depth 60 fits 20000

pub board_shown : IsSync board_type.the_row
board_shown = as_row_sync board_type.the_field board_sync

pub calls_sync : (l : NamedLft) → IsSync (calls_type.the_field l).row
calls_sync l = search (service_shown, board_shown, sendable) depth 60 fits 20000

pub calls_shown : (l : NamedLft) → IsSync (calls_type.the_row l)
calls_shown l = as_row_sync (calls_type.the_field l) (calls_sync l)
