use Rattle.std.proofs.Common.{◌≡◌, ◌<◌, Some, [], ◌∷◌, length, length-append, ap, sym, ◌∙◌, arith}
use Rattle.std.specs.Option.{option_copied}
use Rattle.journal_records.specs.LastingPart.{Lasting}
use Rattle.journal_records.specs.Lookups.{next_key}
use Rattle.lasting_table.specs.TableView.{lasting_in}
use Rattle.call_answers.proofs.Listings.{listed_full, listed_more, listed_no_more}
use Rattle.call_answers.proofs.listing.listed.Goals as goal
use Rattle.call_answers.proofs.listing.listed.Goals.{else-entries-test, then-entries-test+in_default}
use Rattle.tags.specs.declared.limits.TheConstants.{LISTED}

pub entries-preserved : goal.entries-preserved
entries-preserved c =
    let part : Lasting = lasting_in c.args.table.now in
    let next : next_key part c.args.domain c.args.nspace (option_copied c.entries.last) ≡ Some c.in-Some.key.now = sym c.next_name.ensures ∙ ap option_copied c.in-Some.is in
    let few : length c.entries.entries.items < LISTED = omega (arith, c.entries-test.true, c.len.ensures, c.entries.entries.ok) in
    let alias : c.as_slice-alias.result.now ≡ c.in-Some.key.now.alias = c.as_slice-alias.ensures in
    let copy : c.in_ok-copy_of.field-0 ≡ c.in-Some.key.now.alias = c.in_ok-copy_of.ensures ∙ alias in
    rw (c.in_ok-push.ensures.items, alias, copy) (record {
      few = omega (arith, few, length-append c.entries.entries.items ((c.in-Some.key.now.alias, c.in-Some.key.now.id) ∷ []));
      going = listed_more part c.args.domain c.args.nspace c.entries.entries.items (option_copied c.entries.last) c.in-Some.key.now few next ∙ c.entries.invariant.going;
    })

pub returns : goal.returns
returns c = c.of.ensures ∙ elim c.entries-test.branch [
  | else-entries-test w ↦
      listed_full (lasting_in c.args.table.now) c.args.domain c.args.nspace c.entries.entries.items (option_copied c.entries.last) (λ l. omega (arith, l, w.entries-test.false, c.len.ensures, c.entries.entries.ok))
      ∙ c.entries.invariant.going
  | then-entries-test+in_default w ↦
      listed_no_more (lasting_in c.args.table.now) c.args.domain c.args.nspace c.entries.entries.items (option_copied c.entries.last) (sym w.next_name.ensures ∙ ap option_copied w.in_default.is)
      ∙ c.entries.invariant.going
]
