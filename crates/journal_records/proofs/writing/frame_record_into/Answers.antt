-- Each row has the length that is asked.
use Rattle.std.proofs.Common.{arith}
use Rattle.journal_records.specs.declared.record.Record.TheVariants as records
use Rattle.journal_records.proofs.SnapshotBytes.{closed_long, held_grant_long, held_long, next_long}
use Rattle.journal_records.proofs.writing.frame_record_into.Goals as goal

pub frame_next_into-requires : goal.frame_next_into-requires
frame_next_into-requires c =
    let room = rw c.in-Next.is at c.requires.room in
    omega (arith, room, closed_long (records.Next c.in-Next.key c.in-Next.grant), next_long c.in-Next.key c.in-Next.grant)

pub frame_key_into-requires-clause-short : goal.frame_key_into-requires-clause-short
frame_key_into-requires-clause-short c =
    let short = rw c.in-Held.is at c.requires.short in
    rw (c.as_slice-alias.ensures, c.as_slice-blob.ensures, c.as_slice-list.ensures) (omega (arith, short, held_long c.in-Held.key))

pub frame_key_into-requires-clause-room : goal.frame_key_into-requires-clause-room
frame_key_into-requires-clause-room c =
    let room = rw c.in-Held.is at c.requires.room in
    rw (c.as_slice-alias.ensures, c.as_slice-blob.ensures, c.as_slice-list.ensures) (omega (arith, room, closed_long (records.Held c.in-Held.key), held_long c.in-Held.key))

pub frame_grant_into-requires : goal.frame_grant_into-requires
frame_grant_into-requires c =
    let room = rw c.in-HeldGrant.is at c.requires.room in
    omega (arith, room, closed_long (records.HeldGrant c.in-HeldGrant.row), held_grant_long c.in-HeldGrant.row)

pub returns-in-Next-clause-count : goal.returns-in-Next-clause-count
returns-in-Next-clause-count c =
    rw c.in-Next.is (omega (arith, c.frame_next_into.ensures.count, closed_long (records.Next c.in-Next.key c.in-Next.grant), next_long c.in-Next.key c.in-Next.grant))

pub returns-in-Held-clause-count : goal.returns-in-Held-clause-count
returns-in-Held-clause-count c =
    let count = rw (c.as_slice-alias.ensures, c.as_slice-blob.ensures, c.as_slice-list.ensures) at c.frame_key_into.ensures.count in
    rw c.in-Held.is (omega (arith, count, closed_long (records.Held c.in-Held.key), held_long c.in-Held.key))

pub returns-in-HeldGrant-clause-count : goal.returns-in-HeldGrant-clause-count
returns-in-HeldGrant-clause-count c =
    rw c.in-HeldGrant.is (omega (arith, c.frame_grant_into.ensures.count, closed_long (records.HeldGrant c.in-HeldGrant.row), held_grant_long c.in-HeldGrant.row))
