-- A front of the piece stands, and the same pages are held.
use Rattle.std.proofs.Common.{◌≡◌, ℕ}
use Rattle.std.specs.Prelude.{is_some}
use Rattle.std.specs.Prelude.{nat_eq}
use Rattle.std.specs.HashMap.{get, spare}
use Rattle.disk_model.specs.Pages.{byte_in, Overlaid}
use Rattle.disk_model.proofs.pages.Pages.write.Given as goal

abbrev pub invariant-bytes : goal.invariant-bytes
invariant-bytes l =
    Overlaid (byte_in l.fn.self.rows) (byte_in l.self.rows) l.at l.i l.piece
    × ((other : ℕ) → is_some (get nat_eq l.self.rows other) ≡ is_some (get nat_eq l.fn.self.rows other))
    × (spare l.self.rows ≡ spare l.fn.self.rows)
