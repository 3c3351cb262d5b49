-- Passes that come back from serving.
use Rattle.std.proofs.Common.{◌≡◌, ℕ, ◌<◌, ◌==◌, ◌||◌, Bool, List, [], ◌∷◌, suc, length, get_or, Option, refl, ap, ◌∙◌, arith}
use Rattle.std.specs.List.{list_any}
use Rattle.std.specs.Prelude.{All}
use Rattle.ks_outside.specs.declared.disk.Disk.{Ghosts as DiskGhosts}
use Rattle.ks_outside.specs.declared.entropy.Entropy.{Ghosts as EntropyGhosts}
use Rattle.ks_outside.specs.declared.link.Link.{Ghosts as LinkGhosts}
use Rattle.ks_outside.specs.declared.clock.Reading.{Reading}
use Rattle.connection_workers.specs.declared.intake.Arrival.{Arrival}
use Rattle.shared_service.specs.declared.pass.Pass.{Pass}
use Rattle.shared_service.specs.declared.shared.Shared.{Shared}
use Rattle.shared_service.specs.Passes.{HasAll, IsOurs, number_of}
use Rattle.keystore_server.specs.Listening.{IsIdle, PassesServed}

any_same : {A : Type 0} (test : A → Bool) (xs ys : List A) → length ys ≡ length xs → ((k : ℕ) (d e : A) → k < length xs → test (get_or ys k e) ≡ test (get_or xs k d))
    → list_any test ys ≡ list_any test xs
any_same test [] [] long each = refl
any_same test [] (y ∷ ys) long each = absurd (omega (arith, long))
any_same test (x ∷ xs) [] long each = absurd (omega (arith, long))
any_same test (x ∷ xs) (y ∷ ys) long each =
    let first : test y ≡ test x = each 0 x y (omega arith) in
    let rest : list_any test ys ≡ list_any test xs = any_same test xs ys (omega (arith, long)) (λ k d e less. each (suc k) d e (omega (arith, less))) in
    λ i. first i || rest i

module _ {L D N : Type 0} {d : DiskGhosts D} {n : EntropyGhosts N} (g : LinkGhosts L) (shared : Shared D N d n) (shows : Reading → Type 0) (leaves : L → Option L → Type 0) (arrivals : List (Arrival L)) (old new : List (Pass N n)) (served : PassesServed g shared shows leaves arrivals old new) where
  pub all_ours : All (IsOurs shared) new
  all_ours = λ k p less. let count = served.count in (served.each k p p (omega (arith, less, count))).ours

  pub all_idle : All IsIdle new
  all_idle = λ k p less. let count = served.count in (served.each k p p (omega (arith, less, count))).idle

  -- all numbers are there where they were
  pub all_numbers : (count : ℕ) → HasAll count old → HasAll count new
  all_numbers count all = λ number less.
      any_same (λ (p : Pass N n). number_of p == number) old new served.count (λ k p q within. ap (λ (m : ℕ). m == number) (served.each k p q within).number) ∙ all number less
