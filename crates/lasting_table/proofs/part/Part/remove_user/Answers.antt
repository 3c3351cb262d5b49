use Rattle.std.proofs.Common.{◌∙◌, sym}
use Rattle.journal_records.specs.LastingPart.{is_of_user}
use Rattle.lasting_table.specs.Parts.{part_of}
use Rattle.lasting_table.proofs.Ends.{ends_on, fewer_left, none_end}
use Rattle.lasting_table.proofs.part.Part.remove_user.Goals as goal

pub keys-smaller : goal.keys-smaller
keys-smaller c = fewer_left (is_of_user c.args.user) c.in-Some.id (part_of c.keys.self) (part_of c.end_key.new.self) c.in-Some.ensures.found c.end_key.ensures.part

pub keys-preserved : goal.keys-preserved
keys-preserved c = ends_on (is_of_user c.args.user) c.in-Some.id (part_of c.keys.self) (part_of c.end_key.new.self) c.first_of_user.ensures.orderly c.in-Some.ensures.found c.end_key.ensures.part ∙ c.keys.invariant

pub returns : goal.returns
returns c = sym (none_end (is_of_user c.args.user) (part_of c.keys.self) c.in_default.ensures.none) ∙ c.keys.invariant
