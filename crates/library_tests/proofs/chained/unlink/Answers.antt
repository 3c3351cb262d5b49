use Rattle.std.proofs.Common.{◌≡◌, ℕ, not, filter, subst, sym, ◌∙◌, rules}
use Rattle.std.proofs.lemmas.Fn.{filter_same}
use Rattle.library_tests.specs.PlainList.{Agrees, is_at}
use Rattle.library_tests.proofs.PlainLists.{is_in_one, agrees_unlinked}
use Rattle.library_tests.proofs.chained.unlink.Goals as goal

pub unlink-requires : goal.unlink-requires
unlink-requires c =
    is_in_one c.args.chains.now c.args.rows.now.items c.args.place c.requires
    (rw c.deref.ensures.value at (sym c.has.ensures ∙ c.if-not-has.false))

pub returns-clause-agrees : goal.returns-clause-agrees
returns-clause-agrees c =
    let kept : c.retain.new.self.items ≡ filter (λ (r : ℕ × ℕ). not (is_at c.args.place r)) c.args.rows.now.items =
    filter_same _ _ _ (λ x b f' k. search rules) _ _ c.retain.ensures.filtered in
    subst (λ rows. Agrees c.unlink.new.self rows) (sym kept)
    (agrees_unlinked c.args.chains.now c.unlink.new.self c.args.rows.now.items c.args.place c.requires c.unlink.ensures.unlinks)
