use Rattle.std.proofs.Common.{◌≡◌, ◌-◌, ◌≤◌, [], length}
use Rattle.std.specs.Map.{values_of}
use Rattle.tag_lists.specs.Reading.{params_at}
use Rattle.tag_lists.proofs.Gathering.{by_rank}
use Rattle.tag_lists.proofs.reading.params_at.Given as goal

abbrev pub invariant-params : goal.invariant-params
invariant-params l = record {
  keyed : l.params.entries ≡ by_rank (values_of l.params.entries);
  more : params_at (l.count - l.counter) l.total (values_of l.params.entries) l.rest ≡ params_at l.count l.total [] l.fn.bytes;
  within : length l.rest ≤ l.total;
}
