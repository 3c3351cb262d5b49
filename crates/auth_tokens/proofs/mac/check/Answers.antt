use Rattle.std.proofs.Common.{◌≡◌, [], take}
use Rattle.std.proofs.lemmas.Slice.Eq.{bytes_eq-Decides}
use Rattle.auth_tokens.specs.Mac.{token_mac}
use Rattle.auth_tokens.proofs.mac.check.Goals as goal

pub returns : goal.returns
returns c =
    let taken = c.update.ensures 4 c.args.key.now [] c.new-mac.ensures in
    let right : take c.finish-size.result c.finish-size.new.out ≡ token_mac c.args.key.now c.args.token.now =
    rw (← c.mac_input.ensures.text) (c.finish-size.ensures.mac 4 c.args.key.now c.mac_input.result taken) in
    rw (← right, c.same_bytes.ensures) (bytes_eq-Decides c.args.token.now.mac (take c.finish-size.result c.finish-size.new.out))
