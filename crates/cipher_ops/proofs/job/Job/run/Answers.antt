use Rattle.std.proofs.Common.{length, sym, ap, ◌∙◌}
use mathlib.Core.Logic.{∥∥₁_elim, ∥∥₁_map}
use Rattle.cipher_ops.proofs.Pieces.{done}
use Rattle.cipher_ops.proofs.Rooms.{TakesAad-prop, CanTake-prop, nothing-prop}
use Rattle.cipher_ops.proofs.Refusals.{Refuses-prop, last_refuses}
use Rattle.cipher_ops.proofs.RunLemmas.{run_aad, run_text, run_last, run_end}
use Rattle.cipher_ops.proofs.job.Job.run.Goals as goal

pub aad-requires : goal.aad-requires
aad-requires c =
    ∥∥₁_elim c.args.self.can_run (TakesAad-prop c.args.self.state.transform.value) (λ can. run_aad c.args.self.state c.args.self.room c.in-Aad.input c.in-Aad.is can)

pub text-bytes-requires-clause-room : goal.text-bytes-requires-clause-room
text-bytes-requires-clause-room c =
    ∥∥₁_elim c.args.self.can_run (CanTake-prop c.args.self.state (length c.as_slice-in-Text.result.now) (length c.args.self.room.out.items))
    (λ can. run_text c.args.self.state c.args.self.room c.in-Text.input c.as_slice-in-Text.result.now c.in-Text.is c.as_slice-in-Text.ensures can)

pub text-bytes-requires-clause-nothing : goal.text-bytes-requires-clause-nothing
text-bytes-requires-clause-nothing c = ∥∥₁_elim c.args.self.can_run (nothing-prop c.args.self.room.nothing) (λ can. can.fits.nothing_is)

pub last-requires-clause-room : goal.last-requires-clause-room
last-requires-clause-room c =
    ∥∥₁_elim c.args.self.can_run (CanTake-prop c.args.self.state (length c.as_slice-in-Last.result.now) (length c.args.self.room.out.items))
    (λ can. run_last c.args.self.state c.args.self.room c.in-Last.input c.as_slice-in-Last.result.now c.in-Last.signature c.in-Last.is c.as_slice-in-Last.ensures can)

pub last-requires-clause-end : goal.last-requires-clause-end
last-requires-clause-end c =
    ∥∥₁_map c.args.self.can_run (λ can. run_end c.args.self.state c.args.self.room c.in-Last.input c.as_slice-in-Last.result.now c.in-Last.signature c.in-Last.is c.as_slice-in-Last.ensures can)

pub returns-in-Aad-clause-comes : goal.returns-in-Aad-clause-comes
returns-in-Aad-clause-comes c = λ plan limited key nonce aad text work job.
    let e = sym c.in-Aad.is ∙ job.room.work_is in
    let may = rw (← e) at job.may in
    let stands = rw may.1 at job.stands in
    let later = c.aad.ensures plan limited key nonce aad stands in
    rw (← e) (ap done job.room.nothing_is, rw (may.1, ← c.as_slice.ensures) later)

pub returns-in-Last-clause-codes : goal.returns-in-Last-clause-codes
returns-in-Last-clause-codes c =
    ∥∥₁_elim c.args.self.can_run (Refuses-prop c.last.result)
    (λ can. last_refuses c.args.self.state c.args.self.room c.in-Last.input c.as_slice-in-Last.result.now c.in-Last.signature c.last.result c.in-Last.is c.as_slice-in-Last.ensures c.last.ensures can)
