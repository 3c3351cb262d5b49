-- What is sealed is short enough for its lengths, and the blob of a key that the rules let through is short.
use Rattle.std.proofs.Common.{ℕ, ◌≤◌, List, length, Option, Some, None, arith}
use Rattle.key_rules.specs.Creation.{IsShortId}
use Rattle.key_blobs.specs.declared.sealed.Sealed.{Sealed}
use Rattle.key_blobs.specs.Text.{IsSealable, IsShort, blob_size, id_size}

pub id_few : (id : Option (List ℕ)) → IsShortId id → id_size id ≤ 1027
id_few None short = omega arith
id_few (Some bytes) short = omega (arith, short)

id_fits : (id : Option (List ℕ)) → id_size id ≤ 6327 → IsShort id
id_fits None few = tt
id_fits (Some bytes) few = omega (arith, few)

-- what a blob of few bytes holds
pub sealable : (x : Sealed) → blob_size x ≤ 6327 → length x.material ≤ 255 → IsSealable x
sealable x few short = record {
  id = id_fits x.app_id (omega (arith, few));
  bytes = id_fits x.app_bytes (omega (arith, few));
  list = omega (arith, few);
  material = short;
}
