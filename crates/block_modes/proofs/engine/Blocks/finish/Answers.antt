use Rattle.std.proofs.Common.{◌≡◌, take, sym, ◌∙◌, subst, refl, arith}
use Rattle.tags.specs.declared.plan.Plan.{Plan}
use Rattle.tags.specs.declared.plan.Plan.TheVariants.{Ecb, Cbc}
use Rattle.block_modes.specs.Output.{raw, front, whole}
use Rattle.block_modes.specs.Holds.{Holds, Finishes}
use Rattle.block_modes.proofs.EndLemmas.{finishes_ecb, finishes_cbc, finishes_rest}
use Rattle.block_modes.proofs.engine.Blocks.finish.Goals as goal

pub returns-in-Ecb-clause-gives : goal.returns-in-Ecb-clause-gives
returns-in-Ecb-clause-gives g c cipher inverse plan nonce text holds =
    let is_plan : plan ≡ Ecb c.in-Ecb.seal c.in-Ecb.padded = sym holds.going.plan_is ∙ c.in-Ecb.is in
    let P : Plan → Type 0 = λ p. Holds g.C.BlockCipher.cipher g.C.BlockCipher.inverse c.args.self cipher inverse p nonce text in
    let Q : Plan → Type 0 = λ p. Finishes (whole cipher inverse p nonce text) (take (front p text) (raw cipher inverse p nonce text)) c.complete.result c.complete.new.out in
    subst Q (sym is_plan) (finishes_ecb g.C.BlockCipher.cipher g.C.BlockCipher.inverse c.args.self cipher inverse nonce text c.in-Ecb.seal c.in-Ecb.padded c.complete.result c.complete.new.out
    (subst P is_plan holds) c.complete.ensures.last c.complete.ensures.size)

pub returns-in-Cbc-clause-gives : goal.returns-in-Cbc-clause-gives
returns-in-Cbc-clause-gives g c cipher inverse plan nonce text holds =
    let is_plan : plan ≡ Cbc c.in-Cbc.seal c.in-Cbc.padded = sym holds.going.plan_is ∙ c.in-Cbc.is in
    let P : Plan → Type 0 = λ p. Holds g.C.BlockCipher.cipher g.C.BlockCipher.inverse c.args.self cipher inverse p nonce text in
    let Q : Plan → Type 0 = λ p. Finishes (whole cipher inverse p nonce text) (take (front p text) (raw cipher inverse p nonce text)) c.complete-in-Cbc.result c.complete-in-Cbc.new.out in
    subst Q (sym is_plan) (finishes_cbc g.C.BlockCipher.cipher g.C.BlockCipher.inverse c.args.self cipher inverse nonce text c.in-Cbc.seal c.in-Cbc.padded c.complete-in-Cbc.result c.complete-in-Cbc.new.out
    (subst P is_plan holds) c.complete-in-Cbc.ensures.last c.complete-in-Cbc.ensures.size)

pub returns : goal.returns
returns g c = record {
  gives = λ cipher inverse plan nonce text holds.
      finishes_rest g.C.BlockCipher.cipher g.C.BlockCipher.inverse c.args.self cipher inverse plan nonce text holds
      (λ seal padded e. c.in_default.not-Ecb seal padded (holds.going.plan_is ∙ e))
      (λ seal padded e. c.in_default.not-Cbc seal padded (holds.going.plan_is ∙ e));
  rest = refl;
  room = omega arith;
}
