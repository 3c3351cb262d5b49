use Rattle.std.proofs.Common.{◌≡◌, Some, refl, sym, ◌∙◌, ap}
use Rattle.std.specs.Prelude.{find}
use Rattle.std.specs.Option.{option_copied}
use Rattle.journal_records.specs.LastingPart.{is_named}
use Rattle.lasting_table.specs.Parts.{part_of}
use Rattle.key_maps.proofs.KeyRows.{id_from_found}
use Rattle.lasting_table.proofs.Ends.{end_of_none, end_of_named}
use Rattle.lasting_table.proofs.part.Part.end_named.Goals as goal

pub returns-in_default-clause-part : goal.returns-in_default-clause-part
returns-in_default-clause-part c = end_of_none c.args.domain c.args.nspace c.args.alias.now (part_of c.args.self.now) (sym c.named.ensures.key ∙ ap option_copied c.in_default.is)

pub end_key-requires : goal.end_key-requires
end_key-requires c =
    let named : find (is_named c.args.domain c.args.nspace c.args.alias.now) c.args.self.now.keys.rows ≡ Some c.in-Some.key.now = sym c.named.ensures.key ∙ ap option_copied c.in-Some.is in
    rw (id_from_found (is_named c.args.domain c.args.nspace c.args.alias.now) c.args.self.now.keys.rows c.in-Some.key.now c.named.ensures.orderly named) refl

pub returns-clause-part : goal.returns-clause-part
returns-clause-part c =
    let named : find (is_named c.args.domain c.args.nspace c.args.alias.now) c.args.self.now.keys.rows ≡ Some c.in-Some.key.now = sym c.named.ensures.key ∙ ap option_copied c.in-Some.is in
    end_of_named c.args.domain c.args.nspace c.args.alias.now (part_of c.args.self.now) (part_of c.end_key.new.self) c.in-Some.key.now c.named.ensures.orderly named c.end_key.ensures.part
