-- No byte changed, and the pages so far are held.
use Rattle.std.proofs.Common.{◌≡◌, ℕ, ◌+◌, ◌-◌, ◌<◌, ◌≤◌, min, true}
use Rattle.std.specs.Prelude.{is_some}
use Rattle.std.specs.Prelude.{nat_eq}
use Rattle.std.specs.HashMap.{get, spare}
use Rattle.disk_model.specs.Pages.{byte_in}
use Rattle.disk_model.proofs.pages.Pages.add_all.Given as goal

abbrev pub invariant-numbers : goal.invariant-numbers
invariant-numbers l =
    ((place : ℕ) → byte_in l.self.rows place ≡ byte_in l.fn.self.rows place)
    × ((number : ℕ) → l.fn.first ≤ number → number < l.number → is_some (get nat_eq l.self.rows number) ≡ true)
    × (spare l.fn.self.rows ≤ spare l.self.rows + (min l.number l.fn.end - l.fn.first))
