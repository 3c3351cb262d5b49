-- ECB and CBC by how their blocks are linked.
use Rattle.std.specs.Prelude.{Bool}
use Rattle.tags.specs.declared.plan.Plan.{Plan}
use Rattle.tags.specs.declared.plan.Plan.TheVariants.{Ecb, Cbc}
use Rattle.whole_outputs.specs.declared.chained.Links.{Links}
use Rattle.whole_outputs.specs.declared.chained.Links.TheVariants.{Apart, Linked}

-- the plan in which blocks are linked so: ECB apart, CBC each to the cipher text before it (SP 800-38A sections 6.1 and 6.2)
abbrev pub plan_of : Links → Bool → Bool → Plan
plan_of Apart seal padded = Ecb seal padded
plan_of Linked seal padded = Cbc seal padded
