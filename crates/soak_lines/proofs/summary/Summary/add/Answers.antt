use Rattle.std.proofs.Common.{◌≡◌, ◌+◌, ap, ◌∙◌, unwrap_or}
use Rattle.std.specs.Int.{w32}
use Rattle.std.specs.Ordering.{int_cmp}
use Rattle.std.specs.BTreeMap.{insert_entry}
use Rattle.std.proofs.lemmas.Int.{to_z-of_z}
use Rattle.soak_lines.specs.Summary.{count_in}
use Rattle.soak_lines.proofs.summary.Summary.add.Goals as goal
use Rattle.soak_lines.proofs.summary.Summary.add.Goals.{in-Some, in-None}

pub returns-clause-summed : goal.returns-clause-summed
returns-clause-summed c replied text summed =
    let code = to_z-of_z w32 c.args.code c.ranges.code in
    let count : c.match-get.count ≡ count_in c.args.self.now.counts.entries c.args.code = elim c.match-get.branch [
      | in-Some w ↦ w.count-is ∙ ap (λ found. unwrap_or found 0) (rw code at w.in-Some.ensures.value)
      | in-None w ↦ w.count-is ∙ ap (λ found. unwrap_or found 0) (rw code at w.in-None.ensures.value)
    ] in
    let now = count ∙ ap (λ rows. count_in rows c.args.code) summed.rows in
    record { rows = c.in_ok-insert.ensures.entries ∙ (λ i. insert_entry int_cmp (summed.rows i) (code i) (now i + 1)); digest = c.update.ensures text summed.digest }
