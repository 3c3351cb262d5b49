use Rattle.std.proofs.Common.{◌+◌, ap, drop, ◌++◌}
use Rattle.std.proofs.lemmas.List.{drop-drop}
use Rattle.key_blobs.specs.Blobs.{START}
use Rattle.key_blobs.proofs.sealing.put_head.Goals as goal

pub returns : goal.returns
returns c =
    rw (c.copy_from_slice.ensures.after, c.copy_from_slice-2.ensures.after)
    (ap (λ l. START ++ (c.args.nonce ++ l)) (drop-drop 12 4 c.args.out.now))
