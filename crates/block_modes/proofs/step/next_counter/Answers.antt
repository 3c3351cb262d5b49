use Rattle.std.proofs.Common.{ℕ, ◌+◌, ◌%◌, ◌^◌, ◌∙◌, ap}
use Rattle.std.specs.Int.{w128, to_be_bytes}
use Rattle.block_modes.proofs.step.next_counter.Goals as goal

pub returns : goal.returns
returns c = c.to_be_bytes.ensures ∙ ap (λ (n : ℕ). to_be_bytes w128 ((n + 1) % 2 ^ 128)) c.from_be_bytes.ensures
