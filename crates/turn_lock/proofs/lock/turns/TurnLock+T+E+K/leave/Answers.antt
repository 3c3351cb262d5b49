use Rattle.std.proofs.Common.{rules, [], ◌∷◌, ◌++◌, refl, sym, ap, ◌∙◌, Some, arith, length, ◌≤◌, length-append, subst}
use Rattle.atomic_table.specs.Table.{rest}
use Rattle.turn_lock.specs.declared.view.Stage.TheVariants.{Idle}
use Rattle.turn_lock.specs.Views.{view, hand, front_in, turn_in, log_in}
use Rattle.turn_lock.specs.Fronts.{Extends}
use Rattle.turn_lock.proofs.Posing.{pose_pass, single}
use Rattle.turn_lock.proofs.Serving.{counts_entry}
use Rattle.turn_lock.proofs.Passing.{passes_turn}
use Rattle.turn_lock.proofs.Catching.{tells}
use Rattle.turn_lock.proofs.Counting.{front_after, next_of, counts_on, all_counted, counted_none, after_some, after_none, goes_on}
use Rattle.turn_lock.proofs.lock.turns.TurnLock+T+E+K.leave.Goals as goal

pub loop-counted-init : goal.loop-counted-init
loop-counted-init g c =
    let u = c.args.turn.seat.me.0 in
    let name = c.args.self.now.name in
    let n = c.args.turn.number in
    let now = c.put_back-seat.ensures.full in
    let grown = c.requires.grown in
    record {
      here = refl;
      counting = counted_none g.T.History.entries g.T.History.maker name n (turn_in u.stage) (log_in u.stage) (front_in u.hands) c.args.value c.args.added _ now grown.more grown.grown grown.long grown.made;
    }

pub fetch_add-requires : goal.fetch_add-requires
fetch_add-requires g c =
    let u = c.args.turn.seat.me.0 in
    let name = c.args.self.now.name in
    let n = c.args.turn.number in
    let t = turn_in u.stage in
    let nx = next_of g.T.History.entries g.T.History.maker name n t (log_in u.stage) (front_in u.hands) c.args.value c.args.added c.loop-counted._counted _ c.loop-counted-test.true c.loop-counted.invariant.counting in
    let long = ap length nx.grown ∙ length-append nx.log' (nx.entry ∷ nx.es) in
    let room = c.requires.room in
    (search rules, search rules, counts_entry g.T.History.entries g.T.History.maker g.T.History.fits g.T.History.level _ _ _ _ t n nx.log' nx.front' name c.args.value nx.entry nx.es nx.is nx.grown nx.made (omega arith) g.T.History.rises)

pub loop-counted-preserved : goal.loop-counted-preserved
loop-counted-preserved g c =
    let u = c.args.turn.seat.me.0 in
    let name = c.args.self.now.name in
    let inv = c.loop-counted.invariant in
    record {
      here = c.fetch_add.ensures.0 ∙ inv.here;
      counting = counts_on g.T.History.entries g.T.History.maker name c.args.turn.number (turn_in u.stage) (log_in u.stage) (front_in u.hands) c.args.value c.args.added c.loop-counted._counted _ _ c.loop-counted-test.true inv.counting c.fetch_add.ensures.2;
    }

pub fetch_max-requires : goal.fetch_max-requires
fetch_max-requires g c =
    let u = c.args.turn.seat.me.0 in
    let name = c.args.self.now.name in
    let n = c.args.turn.number in
    let t = turn_in u.stage in
    let log = log_in u.stage in
    let front = front_in u.hands in
    let k = c.loop-counted in
    let done = k.invariant.counting in
    let le : c.args.added ≤ k._counted = omega arith in
    let whole = all_counted g.T.History.entries g.T.History.maker name n t log front c.args.value c.args.added k._counted _ le done in
    (search rules, search rules, tells g.T.History.entries g.T.History.maker g.T.History.fits g.T.History.level _ _ _ _ t n c.args.level (log ++ done.past) (front_after front log done.past) name (ap (λ m. m.0) done.posed) (subst (λ l. c.args.level ≤ g.T.History.level l) whole c.requires.level))

pub fetch_add-requires-2 : goal.fetch_add-requires-2
fetch_add-requires-2 g c =
    let u = c.args.turn.seat.me.0 in
    let name = c.args.self.now.name in
    let n = c.args.turn.number in
    let t = turn_in u.stage in
    let log = log_in u.stage in
    let front = front_in u.hands in
    let k = c.loop-counted in
    let done = k.invariant.counting in
    let le : c.args.added ≤ k._counted = omega arith in
    let whole = all_counted g.T.History.entries g.T.History.maker name n t log front c.args.value c.args.added k._counted _ le done in
    (search rules, search rules, passes_turn g.T.History.entries g.T.History.maker g.T.History.fits g.T.History.level _ _ _ _ t n (log ++ done.past) (front_after front log done.past) name c.args.value (search rules) (c.fetch_max.ensures.2 ∙ done.posed) whole c.requires.fits)

pub invariant_of-result : goal.invariant_of-result
invariant_of-result g c =
    let u = c.args.turn.seat.me.0 in
    let name = c.args.self.now.name in
    let n = c.args.turn.number in
    let done = c.loop-counted.invariant.counting in
    let after = front_after (front_in u.hands) (log_in u.stage) done.past in
    let end = c.fetch_add-2.ensures.2 ∙ (λ i. (view Idle ((c.fetch_max.ensures.2 ∙ done.posed) i).0.hands, rest ((c.fetch_max.ensures.2 ∙ done.posed) i).1)) in
    record { rests = pose_pass _ name n after end; single = single _ Idle (hand name (Some n) after) [] end }

pub returns-clause-front : goal.returns-clause-front
returns-clause-front g c some =
    let u = c.args.turn.seat.me.0 in
    let name = c.args.self.now.name in
    let n = c.args.turn.number in
    let t = turn_in u.stage in
    let log = log_in u.stage in
    let front = front_in u.hands in
    let k = c.loop-counted in
    let done = k.invariant.counting in
    let le : c.args.added ≤ k._counted = omega arith in
    let whole = all_counted g.T.History.entries g.T.History.maker name n t log front c.args.value c.args.added k._counted _ le done in
    let end = c.fetch_add-2.ensures.2 ∙ (λ i. (view Idle ((c.fetch_max.ensures.2 ∙ done.posed) i).0.hands, rest ((c.fetch_max.ensures.2 ∙ done.posed) i).1)) in
    let counted = done.counted in
    ap (λ m. front_in m.0.hands) end ∙ (after_some front log done.past (omega arith) ∙ sym whole)

pub returns-clause-same : goal.returns-clause-same
returns-clause-same g c none =
    let u = c.args.turn.seat.me.0 in
    let done = c.loop-counted.invariant.counting in
    let end = c.fetch_add-2.ensures.2 ∙ (λ i. (view Idle ((c.fetch_max.ensures.2 ∙ done.posed) i).0.hands, rest ((c.fetch_max.ensures.2 ∙ done.posed) i).1)) in
    let counted = done.counted in
    let le = c.loop-counted.auto in
    ap (λ m. front_in m.0.hands) end ∙ after_none (front_in u.hands) (log_in u.stage) done.past (omega arith)

pub returns-clause-own : goal.returns-clause-own
returns-clause-own g c more is =
    let u = c.args.turn.seat.me.0 in
    let name = c.args.self.now.name in
    let n = c.args.turn.number in
    let t = turn_in u.stage in
    let log = log_in u.stage in
    let front = front_in u.hands in
    let k = c.loop-counted in
    let done = k.invariant.counting in
    let le : c.args.added ≤ k._counted = omega arith in
    let whole = all_counted g.T.History.entries g.T.History.maker name n t log front c.args.value c.args.added k._counted _ le done in
    let end = c.fetch_add-2.ensures.2 ∙ (λ i. (view Idle ((c.fetch_max.ensures.2 ∙ done.posed) i).0.hands, rest ((c.fetch_max.ensures.2 ∙ done.posed) i).1)) in
    let grown = c.requires.grown in
    subst (λ m. Extends g.T.History.maker n front (front_in m.0.hands) more) (sym end)
    (goes_on g.T.History.maker n log front done.past grown.more more c.requires.ours.before grown.made (sym whole ∙ grown.grown) (sym whole ∙ is))
