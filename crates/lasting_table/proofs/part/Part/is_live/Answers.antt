use Rattle.std.proofs.Common.{◌∙◌, sym, ap}
use Rattle.std.specs.Prelude.{is_some}
use Rattle.journal_records.specs.LastingPart.{has_id}
use Rattle.key_maps.proofs.Tests.{any_is_found, copied_some}
use Rattle.lasting_table.proofs.part.Part.is_live.Goals as goal

pub returns : goal.returns
returns c = c.is_some.ensures ∙ sym (copied_some c.numbered.result) ∙ ap is_some c.numbered.ensures.key ∙ sym (any_is_found (has_id c.args.id) c.args.self.now.keys.rows)
