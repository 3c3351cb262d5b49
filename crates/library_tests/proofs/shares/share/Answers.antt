use Rattle.std.proofs.Common.{◌+◌, ◌∙◌, arith}
use Rattle.library_tests.proofs.shares.share.Goals as goal

pub returns : goal.returns
returns c = c.grant.ensures.below (c.args.number + 1) (λ other le. c.reserve.ensures.by_number other ∙ c.requires other (omega (arith, le))) (λ is_new. omega arith)
