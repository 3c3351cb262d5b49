use Rattle.std.proofs.Common.{◌≡◌, ◌++◌, length, take}
use Rattle.std.specs.List.{flat_map}
use Rattle.byteorder.specs.Endian.{big_bytes}
use Rattle.tag_lists.specs.Spelling.{spelled}
use Rattle.tag_lists.proofs.writing.spelling.Given as goal

abbrev pub invariant-params : goal.invariant-params
invariant-params l = l.out.items ≡ big_bytes 2 (length l.params) ++ flat_map spelled (take l.param-index l.params)
