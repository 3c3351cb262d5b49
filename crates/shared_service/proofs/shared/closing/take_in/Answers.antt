use Rattle.std.proofs.Common.{◌∙◌}
use Rattle.shared_service.specs.declared.pass.Pass.{Pass}
use Rattle.shared_service.specs.Closings.{TookFront}
use Rattle.shared_service.specs.Passes.{front_of, number_of}
use Rattle.shared_service.proofs.TakenIn.{keeps_front, takes_one}
use Rattle.shared_service.proofs.shared.closing.take_in.Goals as goal

pub loop-next-preserved-in-Some : goal.loop-next-preserved-in-Some
loop-next-preserved-in-Some g c =
    let inv = c.loop-next.invariant in
    record {
      closing = c.absorb.ensures.closing;
      made = c.absorb.ensures.made ∙ inv.made;
      kept = λ number seen t. keeps_front c.loop-next.closing c.absorb.new.closing number seen c.absorb.ensures.kept (inv.kept number seen t);
      taking = takes_one (λ (p : Pass g.row.N.Denot g.N.Entropy). TookFront c.loop-next.closing (number_of p) (front_of p)) (λ (p : Pass g.row.N.Denot g.N.Entropy). TookFront c.absorb.new.closing (number_of p) (front_of p)) c.args.passes.items c.loop-next.passes.items c.pop.new.self.items c.in-Some.next
          inv.taking c.in-Some.ensures.items (record { pass = c.wake.result; took = c.absorb.ensures.taken; number_is = c.wake.ensures.same.0; front_is = c.wake.ensures.same.1 })
          (λ x t. keeps_front c.loop-next.closing c.absorb.new.closing (number_of x) (front_of x) c.absorb.ensures.kept t);
    }

pub loop-next-preserved : goal.loop-next-preserved
loop-next-preserved g c =
    let inv = c.loop-next.invariant in
    record {
      closing = c.absorb.ensures.closing;
      made = c.absorb.ensures.made ∙ inv.made;
      kept = λ number seen t. keeps_front c.loop-next.closing c.absorb.new.closing number seen c.absorb.ensures.kept (inv.kept number seen t);
      taking = takes_one (λ (p : Pass g.row.N.Denot g.N.Entropy). TookFront c.loop-next.closing (number_of p) (front_of p)) (λ (p : Pass g.row.N.Denot g.N.Entropy). TookFront c.absorb.new.closing (number_of p) (front_of p)) c.args.passes.items c.loop-next.passes.items c.pop.new.self.items c.in-Some.next
          inv.taking c.in-Some.ensures.items (record { pass = c.wake.result; took = c.absorb.ensures.taken; number_is = c.wake.ensures.same.0; front_is = c.wake.ensures.same.1 })
          (λ x t. keeps_front c.loop-next.closing c.absorb.new.closing (number_of x) (front_of x) c.absorb.ensures.kept t);
    }
