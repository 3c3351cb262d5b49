use Rattle.std.proofs.Common.{◌≡◌, drop, length, map}
use Rattle.std.specs.Prelude.{vec_capacity}
use Rattle.std.specs.List.{AllByRecursion}
use Rattle.group_index.specs.Grouped.{number_of}
use Rattle.live_tables.specs.Operations.{with_all_shown}
use Rattle.live_tables.specs.Places.{IsFree, IsPlaced, rows_on}
use Rattle.live_tables.proofs.placing.show_rows.Given as goal

abbrev pub invariant-loop-pair : goal.invariant-loop-pair
invariant-loop-pair l = record {
  rows : with_all_shown l.token (map number_of (drop l.pair-index l.numbers)) (rows_on l.places.items l.index) ≡ with_all_shown l.token (map number_of l.numbers) (rows_on l.fn.places.items l.index);
  placed : AllByRecursion (IsPlaced l.places.items) l.index;
  size : length l.places.items ≡ length l.fn.places.items;
  free : (place : _) → IsFree l.fn.places.items place → IsFree l.places.items place;
  capacity : vec_capacity l.places ≡ vec_capacity l.fn.places;
}
