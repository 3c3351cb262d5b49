use Rattle.std.proofs.Common.{refl, sym, ap, subst, ◌∙◌}
use Rattle.std.proofs.Math.Logic.{∥∥₁_elim}
use Rattle.shared_service.specs.declared.pass.Pass.{Pass}
use Rattle.shared_service.specs.Passes.{connected_of}
use Rattle.keystore_server.specs.Calling.{IsAnswered}
use Rattle.keystore_server.proofs.Callers.{goes_away, ours_prop, stays_connected}
use Rattle.keystore_server.proofs.caller.ServicePassAnswerer.answer.Goals as goal

pub call-pass-requires-clause-ours : goal.call-pass-requires-clause-ours
call-pass-requires-clause-ours g c =
    ∥∥₁_elim c.args.self.ours (ours_prop c.equal_in_one_way.ensures c.args.self.shared.now c.args.self.pass) (λ is. is)

pub returns-clause-answers : goal.returns-clause-answers
returns-clause-answers g c =
    let call = c.call-pass.ensures in (
      c.new-caller.ensures.shared,
      c.new-caller.ensures.clock,
      subst (λ (p : Pass g.row.N.Denot g.N.Entropy). IsAnswered c.args.self.shared.now (g.C.Clock.shows c.args.self.clock.now) c.args.self.pass c.args.request c.call-pass.result.1.reply p) (sym c.new-caller.ensures.pass) (record {
        reading = c.now-reading.result;
        shown = c.now-reading.ensures.shown;
        served = c.call-pass.result.1;
        reply_is = refl;
        call = call.calls;
        number = call.number;
        ours = call.ours;
        legal = call.legal;
        caused = call.caused;
        drew = call.drew;
        complete = call.complete;
      }),
    )

pub returns-clause-stays : goal.returns-clause-stays
returns-clause-stays g c = λ framed.
    ap (λ (p : Pass g.row.N.Denot g.N.Entropy). connected_of p) c.new-caller.ensures.pass ∙ (c.call-pass.ensures.connected ∙ stays_connected c.args.request c.call-pass.result.1.reply (connected_of c.args.self.pass) framed)

pub returns-clause-goes : goal.returns-clause-goes
returns-clause-goes g c = λ is on.
    let both = goes_away c.args.request c.call-pass.result.1.reply (connected_of c.args.self.pass) is (c.call-pass.ensures.parts is on) in
    (ap (λ (p : Pass g.row.N.Denot g.N.Entropy). connected_of p) c.new-caller.ensures.pass ∙ (c.call-pass.ensures.connected ∙ both.0), both.1)
