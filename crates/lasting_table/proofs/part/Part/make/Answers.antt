use Rattle.std.proofs.Common.{◌≡◌, true, ◌&&◌, length, ◌∙◌, sym, ap}
use Rattle.std.specs.Prelude.{nat_le}
use Rattle.std.specs.List.{list_any}
use Rattle.std.proofs.lemmas.Bool.{and_parts}
use Rattle.tags.specs.declared.limits.TheConstants.{BLOB_BYTES, KEPT_LIST_BYTES}
use Rattle.journal_records.specs.LastingPart.{has_id, some_has_id}
use Rattle.journal_records.specs.Needs.{is_met}
use Rattle.lasting_table.specs.Parts.{part_of}
use Rattle.key_maps.proofs.Tests.{any_is_found}
use Rattle.lasting_table.proofs.part.Part.make.Goals as goal

pub end_key-requires : goal.end_key-requires
end_key-requires c =
    let met : list_any (has_id c.in-Delete.id) c.args.self.now.keys.rows ≡ true = ap (is_met (part_of c.args.self.now)) (sym c.in-Delete.is) ∙ c.requires.can.0 in
    sym (any_is_found (has_id c.in-Delete.id) c.args.self.now.keys.rows) ∙ met

pub upgrade-requires-clause-live : goal.upgrade-requires-clause-live
upgrade-requires-clause-live c =
    let rows = c.args.self.now.keys.rows in
    let met = ap (is_met (part_of c.args.self.now)) (sym c.in-Upgrade.is) ∙ c.requires.can.0 in
    let live : list_any (has_id c.in-Upgrade.id) rows ≡ true = (and_parts (some_has_id c.in-Upgrade.id rows) (nat_le (length c.in-Upgrade.blob) BLOB_BYTES && nat_le (length c.in-Upgrade.list) KEPT_LIST_BYTES) met).0 in
    sym (any_is_found (has_id c.in-Upgrade.id) rows) ∙ live
