-- A plan of table B fits the key's material and the nonce that is used.
use Rattle.std.proofs.Common.{◌≡◌, ℕ, List, length, Option, Some, None, ◌∙◌}
use Rattle.std.specs.Prelude.{MatchOption, true}
use Rattle.tags.specs.declared.plan.Plan.{Plan}
use Rattle.tags.specs.declared.plan.Plan.TheVariants.{Ecb, Cbc, Ctr, Gcm, HmacSign, HmacVerify}
use Rattle.tags.specs.Plan.{Fits, IsWorkable, TakesNonce, nonce_bytes, takes_key}
use Rattle.keymint_ops.specs.Begin.{nonce_used}

-- the nonce that is used has the plan's bytes
used_length : (given : Option (List ℕ)) (wanted size : ℕ) (drawn : List ℕ) →
    MatchOption given (wanted ≡ size) (λ nonce. (length nonce ≡ size) × (wanted ≡ 0)) → length drawn ≡ wanted → length (nonce_used given drawn) ≡ size
used_length None wanted size drawn h e = e ∙ h
used_length (Some nonce) wanted size drawn h e = h.0

nonce_serves : (plan : Plan) (nonce : List ℕ) → length nonce ≡ nonce_bytes plan → TakesNonce plan nonce
nonce_serves (Ecb seal padded) nonce e = tt
nonce_serves (Cbc seal padded) nonce e = e
nonce_serves Ctr nonce e = e
nonce_serves (Gcm seal tag) nonce e = e
nonce_serves (HmacSign digest size) nonce e = tt
nonce_serves (HmacVerify digest least) nonce e = tt

pub plan_fits : (plan : Plan) (material drawn : List ℕ) (given : Option (List ℕ)) (wanted : ℕ) → IsWorkable plan → takes_key plan (length material) ≡ true →
    MatchOption given (wanted ≡ nonce_bytes plan) (λ nonce. (length nonce ≡ nonce_bytes plan) × (wanted ≡ 0)) →
    length drawn ≡ wanted → Fits plan material (nonce_used given drawn)
plan_fits plan material drawn given wanted works takes nonce e = record {
  works = works;
  key_is = takes;
  nonce_is = nonce_serves plan (nonce_used given drawn) (used_length given wanted (nonce_bytes plan) drawn nonce e);
}
