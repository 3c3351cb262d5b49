use Rattle.std.proofs.Common.{sym, ap, ◌∙◌}
use Rattle.std.specs.Prelude.{is_some}
use Rattle.journal_records.specs.LastingPart.{is_named}
use Rattle.key_maps.proofs.Tests.{any_is_found, copied_some}
use Rattle.key_maps.proofs.keys.Keys.has_name.Goals as goal

pub returns : goal.returns
returns c =
    c.is_some.ensures ∙ sym (copied_some c.named.result) ∙ ap is_some c.named.ensures.key
    ∙ sym (any_is_found (is_named c.args.domain c.args.nspace c.args.alias.now) c.args.self.now.rows)
