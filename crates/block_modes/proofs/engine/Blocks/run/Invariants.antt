use Rattle.std.proofs.Common.{◌≡◌, ◌+◌, ◌-◌, ◌*◌, ◌≤◌, ◌++◌, length, take, drop}
use Rattle.block_modes.specs.Holds.{after_blocks, outs_of}
use Rattle.block_modes.proofs.engine.Blocks.run.Given as goal

abbrev pub invariant-groups : goal.invariant-groups
invariant-groups g l = record {
  within : l.done ≤ length l.texts;
  end_is : l.end ≡ l.fn.at + 16 * l.done;
  state : l.self ≡ after_blocks g.C.BlockCipher.cipher g.C.BlockCipher.inverse l.fn.self (take l.done l.texts);
  front : take l.end l.out ≡ take l.fn.at l.fn.out ++ outs_of g.C.BlockCipher.cipher g.C.BlockCipher.inverse l.fn.self (take l.done l.texts);
  rest : drop l.end l.out ≡ drop l.end l.fn.out;
  size : length l.out ≡ length l.fn.out;
}

abbrev pub decreases-groups : goal.decreases-groups
decreases-groups g l = length l.texts - l.done
