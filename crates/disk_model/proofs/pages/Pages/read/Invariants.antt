-- The bytes so far are those of the pages.
use Rattle.std.proofs.Common.{◌≡◌, ℕ, ◌+◌, ◌-◌, ◌<◌, ◌≤◌, get_or, length}
use Rattle.disk_model.specs.Pages.{byte_in}
use Rattle.disk_model.proofs.pages.Pages.read.Given as goal

abbrev pub invariant-pages : goal.invariant-pages
invariant-pages l = (l.done ≤ length l.out) × ((j : ℕ) → j < l.done → get_or l.out j 0 ≡ byte_in l.self.rows (l.at + j))

abbrev pub decreases-pages : goal.decreases-pages
decreases-pages l = length l.out - l.done
