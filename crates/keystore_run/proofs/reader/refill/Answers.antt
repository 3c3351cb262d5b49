use Rattle.std.proofs.Common.{ℕ, List, ◌≤◌, ◌+◌, sym, ap, ◌∙◌, arith, length, take, drop}
use Rattle.keystore_run.proofs.Windows.{filled}
use Rattle.keystore_run.proofs.reader.refill.Goals as goal

pub returns-clause-ok : goal.returns-clause-ok
returns-clause-ok g c =
    let from : ℕ = c.to_front-held.result in
    let n : ℕ = c.in_ok-count.count in
    let new : List ℕ = c.read_behind.new.buffer in
    let fits : from + c.args.room ≤ length new = omega arith in
    let both = filled _ c.to_front-held.new.buffer new from n c.args.room c.to_front-held.ensures.front c.in_ok-count.ensures.front c.in_ok-count.ensures.count fits in
    (take n (drop from new), both.0, ap (λ m. take (m + n) new) (sym c.to_front-held.ensures.count) ∙ both.1, c.in_ok-count.ensures.taken)
