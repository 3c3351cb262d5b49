use Rattle.std.proofs.Common.{◌≡◌, ℕ, List, ◌∷◌, drop, length, sym, ap, ◌∙◌, arith}
use Rattle.std.specs.Vec.Iter.{into_iter_items, into_iter_len}
use Rattle.shared_service.proofs.NewPasses.{longer_one}
use Rattle.connection_workers.specs.declared.worker.Worker.{Worker}
use Rattle.connection_workers.specs.Workers.{answerer_of}
use Rattle.keystore_server.proofs.Pairing.{all_given, none_left, next_is, next_rest, next_within, pass_more, paired_passes}
use Rattle.keystore_server.proofs.workers.take_passes.Goals as goal

pub workers-init : goal.workers-init
workers-init g c =
    let none = c.requires.none in
    let first = c.into_iter-left.ensures.rest in
    record {
      left = first ∙ ap (λ (n : ℕ). drop n c.args.workers.items) (sym none);
      count = omega (arith, c.into_iter-left.ensures.len, ap (λ (l : List _). length l) first);
      few = omega (arith, none);
      places = c.requires.places;
      each = λ k p less. absurd (omega (arith, none, less));
    }

pub answerer_in-requires : goal.answerer_in-requires
answerer_in-requires g c =
    let at = c.workers in
    let k = length at.passes.items in
    let w = c.in-Some.worker in
    let left = into_iter_items c.next.new.self in
    let e : drop k c.args.workers.items ≡ w ∷ left = sym at.invariant.left ∙ c.in-Some.ensures.items in
    let a = c.requires.answered k w (next_within c.args.workers.items k w left e) in
    (a.0, sym (ap (λ (u : Worker _ _ _). answerer_of u) (next_is c.args.workers.items k w left e w)) ∙ a.1)

pub add-requires : goal.add-requires
add-requires g c =
    let at = c.workers in
    let k = length at.passes.items in
    let w = c.in-Some.worker in
    let left = into_iter_items c.next.new.self in
    let e : drop k c.args.workers.items ≡ w ∷ left = sym at.invariant.left ∙ c.in-Some.ensures.items in
    let within = next_within c.args.workers.items k w left e in
    let places = at.invariant.places in
    record { place = omega (arith, within, places) }

pub workers-preserved : goal.workers-preserved
workers-preserved g c =
    let at = c.workers in
    let k = length at.passes.items in
    let w = c.in-Some.worker in
    let left = into_iter_items c.next.new.self in
    let e : drop k c.args.workers.items ≡ w ∷ left = sym at.invariant.left ∙ c.in-Some.ensures.items in
    let within = next_within c.args.workers.items k w left e in
    let long = longer_one at.passes.items c.add.new.items.items c.into_pass.result c.add.ensures.added in
    let was = at.invariant.count in
    let shorter = c.in-Some.ensures.len in
    let room = c.add.ensures.places in
    let places = at.invariant.places in
    record {
      left = sym (ap (λ (n : ℕ). drop n c.args.workers.items) long ∙ next_rest c.args.workers.items k w left e);
      count = omega (arith, was, shorter, ap (λ (l : List _). length l) c.in-Some.ensures.items);
      few = omega (arith, within, long);
      places = omega (arith, places, room);
      each = pass_more c.args.workers.items at.passes.items c.add.new.items.items c.into_pass.result left w c.answerer_in.result (λ pass caller. caller.pass ≡ pass)
          c.add.ensures.added e c.answerer_in.ensures (sym c.into_pass.ensures) at.invariant.each;
    }

pub returns : goal.returns
returns g c =
    let at = c.workers in
    let few = at.invariant.few in
    let count = at.invariant.count in
    let none = none_left c.next.result (into_iter_len at.left) c.in_default.is c.next.ensures.variant.1 in
    let all = all_given c.args.workers.items (length at.passes.items) (into_iter_items at.left) at.invariant.left (omega (arith, count, none)) in
    record { paired = paired_passes at.passes.items c.args.workers.items _ (omega (arith, few, all)) at.invariant.each }
