use Rattle.std.proofs.Common.{◌≡◌, length}
use Rattle.journal_records.specs.LastingPart.{is_owned, without_keys}
use Rattle.lasting_table.specs.Parts.{part_of}
use Rattle.lasting_table.proofs.part.Part.clear.Given as goal

-- what is left once those keys are out is what was left at first
abbrev pub invariant-keys : goal.invariant-keys
invariant-keys l = without_keys (is_owned l.domain l.nspace) (part_of l.self) ≡ without_keys (is_owned l.domain l.nspace) (part_of l.fn.self)

abbrev pub decreases-keys : goal.decreases-keys
decreases-keys l = length l.self.keys.rows
