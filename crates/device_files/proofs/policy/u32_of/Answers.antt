use Rattle.std.proofs.Common.{◌≡◌, ◌<◌, ◌^◌, ℕ, nat_lt, if◌then◌else◌, Some, None, Result, Ok, Err, inl, inr, ap, ◌∙◌}
use Rattle.std.specs.Result.{OkIff, result_ok}
use Rattle.std.proofs.lemmas.Bool.{cases_lt, le-ltb, lt-ltb}
use Rattle.device_files.proofs.policy.u32_of.Goals as goal

narrowed : {E : Type 0} (r : Result ℕ E) (n : ℕ) → OkIff r (n < 2 ^ 32) n → result_ok r ≡ (if nat_lt n (2 ^ 32) then Some n else None)
narrowed (Ok x) n is = rw (lt-ltb n (2 ^ 32) is.0) (ap Some is.1)
narrowed (Err e) n past = elim (cases_lt n (2 ^ 32)) [
  | inl less ↦ absurd (past less)
  | inr more ↦ rw (le-ltb n (2 ^ 32) more)
]

pub returns : goal.returns
returns c = rw (← c.in_ok-number.ensures) (c.ok.ensures.value ∙ narrowed c.try_from.result c.in_ok-number.number c.try_from.ensures)
