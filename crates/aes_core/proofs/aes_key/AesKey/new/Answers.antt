use Rattle.std.proofs.Common.{◌≡◌, ◌+◌, ◌/◌, true, length, ap, ◌∙◌, sym, subst, rules, arith}
use Rattle.aes_core.specs.Expansion.{key_expansion, rounds_of}
use Rattle.aes_core.specs.Cipher.{is_key_size, IsKey}
use Rattle.aes_core.specs.Schedules.{key_in}
use Rattle.aes_core.specs.KeyOf.{key_of}
use Rattle.aes_core.proofs.KeyLemmas.{key_held}
use Rattle.aes_core.proofs.aes_key.AesKey.new.Goals as goal

pub invariant_of-result : goal.invariant_of-result
invariant_of-result c =
    let size : is_key_size (length c.args.key.now) ≡ true = search rules in
    let held : key_in c.expand-schedule.result (length c.args.key.now / 4 + 6) ≡ c.args.key.now = key_held c.expand-schedule.result c.args.key.now size c.expand-schedule.ensures in
    record {
      is_key = subst IsKey (sym held) (record { sized = size; bytes = λ i. omega (arith, c.type_inv.key i) });
      rounds_are = ap rounds_of (sym held);
      is_expanded = c.expand-schedule.ensures ∙ ap key_expansion (sym held);
    }

pub returns-clause-key : goal.returns-clause-key
unfolding key_of
returns-clause-key c =
    let size : is_key_size (length c.args.key.now) ≡ true = search rules in
    key_held c.expand-schedule.result c.args.key.now size c.expand-schedule.ensures
