-- What the rules of a new key read.
use Rattle.std.specs.Prelude.{ℕ, Bool, List, is_some}
use Rattle.tags.specs.declared.descriptor.Descriptor.{Descriptor}
use Rattle.tags.specs.declared.policy.PolicyRow.{PolicyRow}
use Rattle.tags.specs.declared.secrets.DeviceSecrets.{DeviceSecrets}
use Rattle.key_rules.specs.declared.facts.NewFacts.{NewFacts}
use Rattle.rule_model.specs.declared.facts.Caller.{Caller}
use Rattle.rule_model.specs.Access.{row_for}
use Rattle.rule_model.specs.KeySources.{KeySource}

-- the facts of a caller's call on a device, by where the material comes from and whether early boot has ended
abbrev pub new_facts : DeviceSecrets → List PolicyRow → Caller → Descriptor → List ℕ → KeySource → Bool → NewFacts
new_facts device policy caller key params source early_ended = record {
  connected = is_some caller.uid;
  descriptor = key;
  row = row_for policy caller key.nspace;
  params = params;
  import = source.import;
  wrapped = source.wrapped;
  early_ended = early_ended;
  wall = caller.reading.wall;
  os = device.os;
  patch = device.patch;
}
