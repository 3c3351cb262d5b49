-- Several facts that are there.
use Rattle.std.proofs.Math.Logic.{∥∥₁_elim, ∥∥₁_map, ∥∥₁_prop}

pub three : {A B C D : Type 0} → ∥ A ∥₁ → ∥ B ∥₁ → ∥ C ∥₁ → (A → B → C → D) → ∥ D ∥₁
three {A} {B} {C} {D} a b c f = ∥∥₁_elim a ∥∥₁_prop (λ x. ∥∥₁_elim b ∥∥₁_prop (λ y. ∥∥₁_map c (λ z. f x y z)))

pub four : {A B C D E : Type 0} → ∥ A ∥₁ → ∥ B ∥₁ → ∥ C ∥₁ → ∥ D ∥₁ → (A → B → C → D → E) → ∥ E ∥₁
four {A} {B} {C} {D} {E} a b c d f = ∥∥₁_elim a ∥∥₁_prop (λ x. three b c d (f x))
