use Rattle.std.proofs.Common.{arith}
use Rattle.std.specs.Option.{option_copied}
use Rattle.key_blobs.proofs.Materials.{material_short}
use Rattle.key_blobs.proofs.reading.parts_in.Goals as goal

pub returns-clause-short : goal.returns-clause-short
returns-clause-short c =
    material_short c.args.text.now c.in_ok-root.root.now c.in_ok-root.rest.now (option_copied c.in_ok-app_id.app_id) c.in_ok-app_id.rest.now (option_copied c.in_ok-app_bytes.app_bytes) c.in_ok-app_bytes.rest.now
    c.in_ok-list.list.now c.in_ok-list.rest.now c.in_ok-material.material.now c.in_ok-material.rest.now (λ i. omega (arith, c.type_inv.text i))
    c.in_ok-root.ensures.exact c.in_ok-app_id.ensures.exact c.in_ok-app_bytes.ensures.exact c.in_ok-list.ensures.exact c.in_ok-material.ensures.exact
