-- A caller may go from thread to thread.
use denote.Param.Send.{IsSend, IsSync, recorded_send, sendable, struct_send}
use denote.Struct.Declared.{shape}
use denote.RattleType.{RattleType}
use denote.Ref.{NamedLft}
use Rattle.keystore_server.specs.contracts.caller.ServicePass as caller_type
use Rattle.ks_outside.specs.declared.disk.Disk.{Ghosts as DiskGhosts}
use Rattle.ks_outside.specs.declared.entropy.Entropy.{Ghosts as EntropyGhosts}
use Rattle.shared_service.specs.contracts.shared.Shared as shared_type
use Rattle.shared_service.proofs.Crossing.{pass_send, shared_shown, shared_sync}

module _ (D N C G : RattleType) (d : DiskGhosts D.Denot) (n : EntropyGhosts N.Denot) where
  pub caller_send : (l : NamedLft) → IsSend D → IsSend N → IsSync C → IsSync G → IsSend (caller_type.the_row l D N C G d n)
  caller_send l disk entropy clock gate =
      let seen : IsSync (shared_type.the_field D N d n).row = shared_sync D N d n disk entropy in
      let shown : IsSync (shared_type.the_row D N d n) = shared_shown D N d n disk entropy in
      recorded_send _ _ _ (caller_type.the_type l D N C G d n).to_one (struct_send (shape (caller_type.the_type l D N C G d n))
      (search (shown, seen, sendable) depth 20, (pass_send N n, (search (clock, sendable) depth 20, (search (gate, sendable) depth 20, tt)))))
