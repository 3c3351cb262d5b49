-- Users that are all locked.
use Rattle.std.proofs.Common.{◌≡◌, ℕ, zero, suc, false, get_or, replicate, refl}

pub all_false : (users user : ℕ) → get_or (replicate users false) user false ≡ false
all_false zero user = refl
all_false (suc users) zero = refl
all_false (suc users) (suc user) = all_false users user
