use Rattle.hmac_core.specs.Hmac.{hmac}
use Rattle.hmac_core.specs.State.{StateHolds}
use Rattle.hmac_core.specs.declared.mac.State.TheVariants.{Sha224, Sha256, Sha384, Sha512}
use Rattle.hmac_core.proofs.mac.Hmac.finish.Goals as goal

pub returns-in-Sha224-clause-mac : goal.returns-in-Sha224-clause-mac
unfolding hmac
returns-in-Sha224-clause-mac c digest key text holds =
    let state : StateHolds (Sha224 c.in-Sha224.keyed) digest key text = rw c.in-Sha224.is at holds in
    rw state.0 (c.finish.ensures.mac key text state.1)

pub returns-in-Sha256-clause-mac : goal.returns-in-Sha256-clause-mac
unfolding hmac
returns-in-Sha256-clause-mac c digest key text holds =
    let state : StateHolds (Sha256 c.in-Sha256.keyed) digest key text = rw c.in-Sha256.is at holds in
    rw state.0 (c.finish-in-Sha256.ensures.mac key text state.1)

pub returns-in-Sha384-clause-mac : goal.returns-in-Sha384-clause-mac
unfolding hmac
returns-in-Sha384-clause-mac c digest key text holds =
    let state : StateHolds (Sha384 c.in-Sha384.keyed) digest key text = rw c.in-Sha384.is at holds in
    rw state.0 (c.finish-in-Sha384.ensures.mac key text state.1)

pub returns-in-Sha512-clause-mac : goal.returns-in-Sha512-clause-mac
unfolding hmac
returns-in-Sha512-clause-mac c digest key text holds =
    let state : StateHolds (Sha512 c.in-Sha512.keyed) digest key text = rw c.in-Sha512.is at holds in
    rw state.0 (c.finish-in-Sha512.ensures.mac key text state.1)
