-- The rules of the bytes are told first.
use Rattle.std.proofs.Common.{length}
use Rattle.std.specs.Prelude.{nat_le, is_ok}
use Rattle.tags.specs.declared.code.Code.TheVariants.{InvalidInputLength}
use Rattle.tags.specs.declared.rule.RuleTable.TheVariants.{K}
use Rattle.tags.specs.Table.{first_broken, rule_of}
use Rattle.tag_lists.specs.Reading.{listed}
use Rattle.key_rules.specs.Asked.{read_by_rules}
use Rattle.key_rules.specs.Rules.{has_short_ids, list_in, reading_code}
use Rattle.key_rules.specs.Table.{list_rules}
use Rattle.key_rules.proofs.Walks.{told_first}
use Rattle.key_rules.proofs.table.check_params.Goals as goal
use Rattle.tags.specs.declared.limits.TheConstants.{LIST_BYTES}

pub returns-in-Err-clause-list : goal.returns-in-Err-clause-list
unfolding read_by_rules
returns-in-Err-clause-list c =
    let params = c.args.params.now in
    told_first (nat_le (length params) LIST_BYTES) (is_ok (listed params)) (has_short_ids (list_in params))
    (rule_of K 4, InvalidInputLength) (rule_of K 4, reading_code (listed params)) (rule_of K 4, InvalidInputLength)
    (first_broken K (list_rules c.args.import c.args.domain c.args.early_ended (list_in params))) (list_in params) c.in-Err.fault c.in-Err.ensures.list
