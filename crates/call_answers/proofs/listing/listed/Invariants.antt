use Rattle.std.proofs.Common.{◌≡◌, ◌++◌, ◌-◌, ◌≤◌, length}
use Rattle.std.specs.Option.{option_copied}
use Rattle.lasting_table.specs.TableView.{lasting_in}
use Rattle.rule_model.specs.Listing.{listed_from, listing}
use Rattle.call_answers.proofs.listing.listed.Given as goal
use Rattle.tags.specs.declared.limits.TheConstants.{LISTED}

abbrev pub invariant-entries : goal.invariant-entries
invariant-entries l = record {
  few : length l.entries.items ≤ LISTED;
  going : l.entries.items ++ listed_from (LISTED - length l.entries.items) (lasting_in l.fn.table) l.fn.domain l.fn.nspace (option_copied l.last)
      ≡ listing (lasting_in l.fn.table) l.fn.domain l.fn.nspace l.fn.past;
}

abbrev pub decreases-entries : goal.decreases-entries
decreases-entries l = LISTED - length l.entries.items
