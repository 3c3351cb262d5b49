-- How the parts of a run join.
use Rattle.std.proofs.Common.{inl, inr, ⊎_elim, ℕ, List, arith}
use Rattle.ks_outside.specs.declared.disk.Disk.{Ghosts}
use Rattle.ks_outside.specs.Moments.{Elapses}
use Rattle.ks_outside.specs.Images.{AllImages, AtEachMoment, Passes}

-- no call
pub passes_none : {D : Type 0} (g : Ghosts D) (disk : D) (P : List ℕ → Type 0) → Passes g disk disk P
passes_none g disk P = record { later = omega arith; since = λ t c left. inl left }

-- one call
pub passes_call : {D : Type 0} (g : Ghosts D) (old new : D) (P : List ℕ → Type 0)
    → Elapses (g.moment old) (g.moment new) (g.images_since old) (g.images_since new) (g.images new) → AllImages g new P → Passes g old new P
passes_call g old new P time all = record {
  later = time.later;
  since = λ t c left. ⊎_elim (λ past. inl past) (λ now. inr (all c now)) (time.nothing_else t c left);
}

-- two parts, one after the other
pub passes_on : {D : Type 0} (g : Ghosts D) (old mid new : D) (P Q R : List ℕ → Type 0) → Passes g old mid P → Passes g mid new Q
    → ((c : List ℕ) → P c → R c) → ((c : List ℕ) → Q c → R c) → Passes g old new R
passes_on g old mid new P Q R first second p q = record {
  later = omega (arith, first.later, second.later);
  since = λ t c left. ⊎_elim
      (λ (was : g.images_since mid t c). ⊎_elim (λ past. inl past) (λ held. inr (p c held)) (first.since t c was))
      (λ held. inr (q c held))
      (second.since t c left);
}

-- less said
pub passes_as : {D : Type 0} (g : Ghosts D) (old new : D) (P R : List ℕ → Type 0) → Passes g old new P → ((c : List ℕ) → P c → R c) → Passes g old new R
passes_as g old new P R passes p = record {
  later = passes.later;
  since = λ t c left. ⊎_elim (λ past. inl past) (λ held. inr (p c held)) (passes.since t c left);
}

-- what holds of the images at the start and of those that came holds at each moment since
pub each_moment : {D : Type 0} (g : Ghosts D) → ((disk : D) (c : List ℕ) → g.images_since disk (g.moment disk) c → g.images disk c)
    → (old new : D) (P : List ℕ → Type 0) → AllImages g old P → Passes g old new P → AtEachMoment g old new P
each_moment g only_now old new P all passes c left = ⊎_elim (λ past. all c (only_now old c past)) (λ held. held) (passes.since (g.moment old) c left)
