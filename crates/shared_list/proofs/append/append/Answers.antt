use Rattle.std.proofs.Common.{[], ◌∷◌, ◌++◌, refl, sym, ap, ◌∙◌, append-nil}
use Rattle.turn_lock.specs.Passes.{seen}
use Rattle.shared_list.specs.Lists.{entry}
use Rattle.shared_list.proofs.append.append.Goals as goal

pub leave-requires-clause-grown : goal.leave-requires-clause-grown
leave-requires-clause-grown g c = record {
  more = entry c.number-number.result c.args.item ∷ [];
  grown = c.in-Ok.ensures.ok ∙ ap (λ l. l ++ entry c.number-number.result c.args.item ∷ []) (sym c.enter-turn.ensures.value);
  long = refl;
  made = (c.number-number.ensures ∙ sym c.enter-turn.ensures.number, tt);
}

pub leave-requires-in-Err-clause-grown : goal.leave-requires-in-Err-clause-grown
leave-requires-in-Err-clause-grown g c = record {
  more = [];
  grown = c.in-Err.ensures.err ∙ (sym c.enter-turn.ensures.value ∙ sym (append-nil (seen c.enter-turn.result.0)));
  long = refl;
  made = tt;
}
