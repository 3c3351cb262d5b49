use Rattle.std.proofs.Common.{◌≡◌, ◌+◌, ◌*◌, ◌≤◌, drop}
use Rattle.std.specs.List.{sum_by}
use Rattle.tag_lists.specs.Versions.{size_beside}
use Rattle.tag_lists.proofs.versions.sizes_beside.Given as goal

abbrev pub invariant-params : goal.invariant-params
invariant-params l = record {
  size : l.size + sum_by size_beside (drop l.param-index l.params) ≡ sum_by size_beside l.params;
  few : l.size ≤ 65541 * l.param-index;
}
