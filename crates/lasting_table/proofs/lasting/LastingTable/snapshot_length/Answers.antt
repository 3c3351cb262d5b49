use Rattle.lasting_table.specs.Parts.{part_of}
use Rattle.lasting_table.proofs.Lengths.{snapshot_small}
use Rattle.lasting_table.proofs.lasting.LastingTable.snapshot_length.Goals as goal

pub snapshot_length-requires : goal.snapshot_length-requires
snapshot_length-requires c = snapshot_small (part_of c.self.inside.part) c.self.invariant
