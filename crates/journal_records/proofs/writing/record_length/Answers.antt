-- How many bytes each row has.
use Rattle.std.proofs.Common.{arith}
use Rattle.journal_records.specs.declared.record.Record.TheVariants as records
use Rattle.journal_records.proofs.SnapshotBytes.{closed_long, held_grant_long, held_long, next_long}
use Rattle.journal_records.proofs.writing.record_length.Goals as goal

pub returns-in-Next : goal.returns-in-Next
returns-in-Next c = rw c.in-Next.is (omega (arith, closed_long (records.Next c.in-Next.key c.in-Next.grant), next_long c.in-Next.key c.in-Next.grant))

pub returns-in-Held : goal.returns-in-Held
returns-in-Held c = rw (c.in-Held.is, c.len.ensures, c.len-in-Held.ensures, c.len-in-Held-2.ensures) (omega (arith, closed_long (records.Held c.in-Held.key), held_long c.in-Held.key))

pub returns-in-HeldGrant : goal.returns-in-HeldGrant
returns-in-HeldGrant c = rw c.in-HeldGrant.is (omega (arith, closed_long (records.HeldGrant c.in-HeldGrant.row), held_grant_long c.in-HeldGrant.row))
