use Rattle.std.proofs.Common.{◌≡◌, ◌<◌, ◌≤◌, ◌++◌, true, false, length, take, ◌∙◌, sym, arith, rules}
use Rattle.std.proofs.lemmas.Bool.{false≢true}
use Rattle.block_modes.specs.Steps.{is_counter, holds_back}
use Rattle.block_modes.proofs.SettleLemmas.{settled_through, settled_show, settled_stay}
use Rattle.block_modes.proofs.engine.Blocks.settle.Goals as goal
use Rattle.block_modes.proofs.engine.Blocks.settle.Goals.{else-size-eq16-via-then-size-eq16+else-not-holds_back, else-size-eq16-via-else-size-eq16}

pub returns-then-not-holds_back-clause-holds : goal.returns-then-not-holds_back-clause-holds
returns-then-not-holds_back-clause-holds g c cipher inverse plan nonce text before going lazy =
    let full : length c.args.self.now.held ≡ 16 = omega arith in
    let part : c.args.skip ≤ 16 = omega arith in
    let off : holds_back c.args.self.now.plan ≡ false = search rules in
    settled_through g.C.BlockCipher.cipher g.C.BlockCipher.inverse c.args.self.now c.let_through.new.self cipher inverse plan nonce text c.args.skip before
    (take c.args.at c.args.out.now) (take c.let_through.result c.let_through.new.out) going full part c.let_through.ensures.size c.let_through.ensures.state c.let_through.ensures.front off

pub returns-then-is_counter-clause-holds : goal.returns-then-is_counter-clause-holds
returns-then-is_counter-clause-holds g c cipher inverse plan nonce text before going lazy =
    let few : length c.args.self.now.held ≤ 16 = omega arith in
    let on : is_counter c.args.self.now.plan ≡ true = search rules in
    let waits : holds_back c.args.self.now.plan ≡ false → length c.args.self.now.held < 16 =
    elim c.else-size-eq16.branch [
      | else-size-eq16-via-then-size-eq16+else-not-holds_back w ↦ λ off. absurd (false≢true (sym off ∙ sym w.holds_back.ensures ∙ w.if-not-holds_back.false))
      | else-size-eq16-via-else-size-eq16 w ↦ λ _. omega arith
    ] in
    settled_show g.C.BlockCipher.cipher g.C.BlockCipher.inverse c.args.self.now cipher inverse plan nonce text c.args.skip before
    (take c.args.at c.args.out.now) (take c.show.result c.show.new.out) going on c.requires.part c.show.ensures.size c.show.ensures.front waits few lazy

pub returns-clause-holds : goal.returns-clause-holds
returns-clause-holds g c cipher inverse plan nonce text before going lazy =
    let few : length c.args.self.now.held ≤ 16 = omega arith in
    let off : is_counter c.args.self.now.plan ≡ false = search rules in
    let waits : holds_back c.args.self.now.plan ≡ false → length c.args.self.now.held < 16 =
    elim c.else-size-eq16.branch [
      | else-size-eq16-via-then-size-eq16+else-not-holds_back w ↦ λ no. absurd (false≢true (sym no ∙ sym w.holds_back.ensures ∙ w.if-not-holds_back.false))
      | else-size-eq16-via-else-size-eq16 w ↦ λ _. omega arith
    ] in
    settled_stay g.C.BlockCipher.cipher g.C.BlockCipher.inverse c.args.self.now cipher inverse plan nonce text c.args.skip (before ++ take c.args.at c.args.out.now) going off waits few lazy
