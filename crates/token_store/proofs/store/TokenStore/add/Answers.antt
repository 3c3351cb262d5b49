use Rattle.token_store.proofs.Lists.{sound_after, found_after, others_count, count_after}
use Rattle.token_store.proofs.store.TokenStore.add.Goals as goal

pub invariant_of-self : goal.invariant_of-self
invariant_of-self c = record {
  sound = sound_after c.put_last.result _ c.put_last.new.tokens.items c.args.token c.self.invariant.sound c.put_last.ensures.ok c.put_last.ensures.few c.put_last.ensures.err;
  memory = c.put_last.ensures.room;
}

pub returns-clause-found : goal.returns-clause-found
returns-clause-found c = rw (← c.self.view_is) (found_after c.put_last.result _ c.put_last.new.tokens.items c.args.token c.put_last.ensures.ok)

pub returns-clause-sound : goal.returns-clause-sound
returns-clause-sound c = sound_after c.put_last.result _ c.put_last.new.tokens.items c.args.token c.self.invariant.sound c.put_last.ensures.ok c.put_last.ensures.few c.put_last.ensures.err

pub returns-clause-others : goal.returns-clause-others
returns-clause-others c = rw (← c.self.view_is) (others_count c.self.inside.tokens.items c.args.token c.self.invariant.sound.once)

pub returns-clause-count : goal.returns-clause-count
returns-clause-count c = rw (← c.self.view_is) (count_after c.put_last.result _ c.put_last.new.tokens.items c.args.token c.put_last.ensures.ok)
