use Rattle.std.proofs.Common.{arith}
use Rattle.auth_tokens.proofs.Fields.{text_has_fields}
use Rattle.auth_tokens.proofs.mac.mac_input.Goals as goal

pub returns-clause-fields : goal.returns-clause-fields
returns-clause-fields c = rw (
  c.copy_from_slice.ensures.after,
  c.copy_from_slice-2.ensures.after,
  c.copy_from_slice-3.ensures.after,
  c.copy_from_slice-4.ensures.after,
  c.copy_from_slice-5.ensures.after,
  c.to_le_bytes.ensures,
  c.to_le_bytes-2.ensures,
  c.to_le_bytes-3.ensures,
  c.to_be_bytes.ensures,
  c.to_be_bytes-2.ensures,
) (text_has_fields c.args.token.now (record {
  challenge = omega arith;
  user = omega arith;
  authenticator = omega arith;
  kind = omega arith;
  time = omega arith;
}))
