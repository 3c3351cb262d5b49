use Rattle.std.proofs.Common.{◌≡◌, Bool, true, false, not, refl, sym, ◌∙◌, rules}
use Rattle.ks_outside.proofs.Goings.{goes_none}
use Rattle.key_database.specs.Stands.{is_unsettled}
use Rattle.keystore_core.proofs.Settled.{settled_tables}
use Rattle.keystore_core.proofs.SameStores.{one_store_same}
use Rattle.keystore_core.proofs.Written.{stays_surely}
use Rattle.keystore_core.proofs.tables.Tables.settle_first.Goals as goal

not_false : (b : Bool) → false ≡ not b → b ≡ true
not_false true e = refl
not_false false e = cc

pub returns-then-is_settled-clause-goes : goal.returns-then-is_settled-clause-goes
returns-then-is_settled-clause-goes g c = goes_none g.D.Disk c.args.disk.now

pub returns-in-Ok-clause-goes : goal.returns-in-Ok-clause-goes
returns-in-Ok-clause-goes g c = c.in-Ok.ensures.goes.goes

pub returns-in-Err-clause-goes : goal.returns-in-Err-clause-goes
returns-in-Err-clause-goes g c = c.in-Err.ensures.goes.goes

pub returns-in-Ok-clause-stands : goal.returns-in-Ok-clause-stands
returns-in-Ok-clause-stands g c = λ setup past stands.
    let waiting = sym stands.keys.settled_is ∙ not_false (is_unsettled c.args.self.now.keys) c.if-is_settled.ensures in
    let waits = stands.keys.waiting waiting in
    record {
      stands = settled_tables setup past c.args.self.now c.settle.new.self c.in-Ok.settled waits.0 stands waits.1 (c.in-Ok.ensures.settled waits.0 waits.1.pending_is) c.in-Ok.ensures.waiting;
      ready = refl;
      waits = λ told e. waiting;
      settles = λ told e. sym c.if-not-settles.ensures;
    }

pub returns-then-is_settled-clause-stands : goal.returns-then-is_settled-clause-stands
returns-then-is_settled-clause-stands g c = λ setup past stands. record { stands = stands; ready = search rules; waits = λ told e. cc; settles = λ told e. cc }

pub returns-then-is_settled-clause-surely : goal.returns-then-is_settled-clause-surely
returns-then-is_settled-clause-surely g c = λ held h keeps. stays_surely g.D.Disk c.args.disk.now c.args.self.now.keys c.args.self.now.keys _ (one_store_same c.args.self.now.keys) keeps

pub returns-then-is_settled-clause-unfound : goal.returns-then-is_settled-clause-unfound
returns-then-is_settled-clause-unfound g c = λ held h keeps e. cc

pub returns-in-Ok-clause-surely : goal.returns-in-Ok-clause-surely
returns-in-Ok-clause-surely g c = λ held h keeps. c.in-Ok.ensures.surely held h keeps

pub returns-in-Ok-clause-unfound : goal.returns-in-Ok-clause-unfound
returns-in-Ok-clause-unfound g c = λ held h keeps e. let lost = c.in-Ok.ensures.unfound held h keeps in cc

pub returns-in-Err-clause-surely : goal.returns-in-Err-clause-surely
returns-in-Err-clause-surely g c = λ held h keeps. c.in-Err.ensures.surely held h keeps
