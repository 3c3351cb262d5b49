use Rattle.std.proofs.Common.{arith, rules}
use Rattle.std.proofs.lemmas.Slice.{drop-put_mid}
use Rattle.byte_strings.proofs.write.place_bytes.Goals as goal

pub returns-clause-rest : goal.returns-clause-rest
returns-clause-rest c = λ n past. drop-put_mid c.args.at _ c.args.out.now c.copy_from_slice.new.self n (omega arith) (omega arith) (search rules)
