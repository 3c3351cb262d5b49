use Rattle.std.proofs.Common.{[], ◌∷◌, ◌++◌, sym}
use Rattle.std.proofs.lemmas.Result.{err_from_is_err_and}
use Rattle.tags.specs.declared.code.Code.TheVariants.{UnsupportedKeyFormat}
use Rattle.tags.specs.declared.rule.RuleTable.TheVariants.{K}
use Rattle.tags.specs.Table.{check}
use Rattle.key_rules.specs.Rules.{takes_format}
use Rattle.key_rules.specs.Table.{cipher_rules, last_rules, list_rules}
use Rattle.key_rules.proofs.Walks.{stops}
use Rattle.key_rules.proofs.table.check_list.Goals as goal

pub returns-in_err-check-2-clause-first : goal.returns-in_err-check-2-clause-first
unfolding list_rules
returns-in_err-check-2-clause-first c =
    let fault = err_from_is_err_and c.from_residual-in_err-check-2.result c.from_residual-in_err-check-2.ensures.1 in
    let first = rw (c.rule-2.ensures, c.takes_format.ensures) at c.in_err-check-2.ensures.first in
    let later = cipher_rules c.args.import c.args.list.now ++ last_rules c.args.domain c.args.early_ended c.args.list.now in
    rw (fault.1, fault.2, ← c.names_algorithm.ensures, c.in_ok-check.ensures.holds)
    (sym (stops K (check 6 UnsupportedKeyFormat (takes_format c.args.import) ∷ []) later _ (sym first)))
