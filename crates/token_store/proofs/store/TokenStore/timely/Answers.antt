use Rattle.std.proofs.Common.{◌≡◌, Some, sym, ◌∙◌}
use Rattle.tags.specs.declared.tag.Tag.TheVariants.{AuthTimeout}
use Rattle.tag_lists.specs.Lookups.{number_of}
use Rattle.token_store.specs.Table.{is_timely}
use Rattle.token_store.proofs.Lists.{timely_is, timely_within, timely_never}
use Rattle.token_store.proofs.store.TokenStore.timely.Goals as goal

pub returns-in-Some-clause-last : goal.returns-in-Some-clause-last
returns-in-Some-clause-last c =
    let within : number_of AuthTimeout c.args.list.now ≡ Some c.in-Some.seconds = sym c.number.ensures ∙ c.in-Some.is in
    let answer : c.any_opens.result ≡ is_timely c.self.inside.tokens.items c.args.list.now c.args.boot =
    rw (c.any_opens.ensures, c.deref.ensures.value) (timely_within c.self.inside.tokens.items c.args.list.now c.in-Some.seconds c.args.boot within) in
    rw (← c.self.view_is) (timely_is c.self.inside.tokens.items c.args.list.now c.args.boot c.any_opens.result c.self.invariant.sound.once answer)

pub returns-in-None-clause-exact : goal.returns-in-None-clause-exact
returns-in-None-clause-exact c = timely_never c.args.self.now c.args.list.now c.args.boot (sym c.number.ensures ∙ c.in-None.is)
