use Rattle.std.proofs.Common.{◌≡◌, ℕ, List, ◌∷◌, drop, length, sym, ap, subst, ◌∙◌, arith}
use Rattle.std.specs.Vec.Iter.{into_iter_items, into_iter_len}
use Rattle.shared_service.specs.declared.pass.Pass.{Pass}
use Rattle.shared_service.specs.Passes.{IsOurs}
use Rattle.shared_service.proofs.NewPasses.{longer_one}
use Rattle.keystore_server.proofs.Pairing.{all_given, none_left, next_is, next_rest, next_within, paired_workers, worker_more}
use Rattle.keystore_server.proofs.workers.add_workers.Goals as goal

pub passes-init : goal.passes-init
passes-init g c =
    let none = c.requires.none in
    let first = c.into_iter-left.ensures.rest in
    record {
      left = first ∙ ap (λ (n : ℕ). drop n c.args.passes.items) (sym none);
      count = omega (arith, c.into_iter-left.ensures.len, ap (λ (l : List (Pass g.row.N.Denot g.N.Entropy)). length l) first);
      few = omega (arith, none);
      places = c.requires.places;
      each = λ k w less. absurd (omega (arith, none, less));
    }

pub new-caller-requires : goal.new-caller-requires
new-caller-requires g c =
    let at = c.passes in
    let k = length at.workers.items in
    let e : drop k c.args.passes.items ≡ c.in-Some.pass ∷ into_iter_items c.next.new.self = sym at.invariant.left ∙ c.in-Some.ensures.items in
    record {
      ours = subst (λ (p : Pass g.row.N.Denot g.N.Entropy). IsOurs c.args.shared.now p) (next_is c.args.passes.items k c.in-Some.pass (into_iter_items c.next.new.self) e c.in-Some.pass)
          (c.requires.ours k c.in-Some.pass (next_within c.args.passes.items k c.in-Some.pass (into_iter_items c.next.new.self) e));
    }

pub add-requires : goal.add-requires
add-requires g c =
    let at = c.passes in
    let k = length at.workers.items in
    let e : drop k c.args.passes.items ≡ c.in-Some.pass ∷ into_iter_items c.next.new.self = sym at.invariant.left ∙ c.in-Some.ensures.items in
    let within = next_within c.args.passes.items k c.in-Some.pass (into_iter_items c.next.new.self) e in
    let places = at.invariant.places in
    record { place = omega (arith, within, places) }

pub passes-preserved : goal.passes-preserved
passes-preserved g c =
    let at = c.passes in
    let k = length at.workers.items in
    let left = into_iter_items c.next.new.self in
    let e : drop k c.args.passes.items ≡ c.in-Some.pass ∷ left = sym at.invariant.left ∙ c.in-Some.ensures.items in
    let within = next_within c.args.passes.items k c.in-Some.pass left e in
    let long = longer_one at.workers.items c.add.new.items.items c.of.result c.add.ensures.added in
    let was = at.invariant.count in
    let shorter = c.in-Some.ensures.len in
    let room = c.add.ensures.places in
    let places = at.invariant.places in
    record {
      left = sym (ap (λ (n : ℕ). drop n c.args.passes.items) long ∙ next_rest c.args.passes.items k c.in-Some.pass left e);
      count = omega (arith, was, shorter, ap (λ (l : List (Pass g.row.N.Denot g.N.Entropy)). length l) c.in-Some.ensures.items);
      few = omega (arith, within, long);
      places = omega (arith, places, room);
      each = worker_more c.args.passes.items at.workers.items c.add.new.items.items c.of.result left c.in-Some.pass c.new-caller.result (λ pass caller. (caller.shared.now ≡ c.args.shared.now) × (caller.clock.now ≡ c.args.clock.now) × (caller.pass ≡ pass))
          c.add.ensures.added e c.of.ensures (c.new-caller.ensures.shared, c.new-caller.ensures.clock, c.new-caller.ensures.pass) at.invariant.each;
    }

pub returns : goal.returns
returns g c =
    let at = c.passes in
    let few = at.invariant.few in
    let count = at.invariant.count in
    let none = none_left c.next.result (into_iter_len at.left) c.in_default.is c.next.ensures.variant.1 in
    let all = all_given c.args.passes.items (length at.workers.items) (into_iter_items at.left) at.invariant.left (omega (arith, count, none)) in
    record { paired = paired_workers c.args.passes.items at.workers.items _ (omega (arith, few, all)) at.invariant.each }
