-- Plain bytes: writing one string behind another.
use Rattle.std.proofs.Common.{◌≡◌, ℕ, List, [], ◌++◌, length, drop, ap}
use Rattle.std.proofs.lemmas.List.{take_at, drop_at, append-nil}
use borrow.Rule.Slice.PartMut.{put_mid}

-- a nonce and a number written behind it into a block
pub block_put : (nonce front number back rest : List ℕ) → drop 4 rest ≡ [] → front ≡ nonce → length nonce ≡ 12 → back ≡ number
    → put_mid 12 4 (front ++ rest) back ≡ nonce ++ number
block_put nonce front number back rest none e len b =
    rw (e, b, take_at nonce rest 12 len, drop_at nonce rest 12 len, none) (ap (λ (l : List ℕ). nonce ++ l) (append-nil number))
