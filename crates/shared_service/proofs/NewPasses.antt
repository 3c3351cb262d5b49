-- New passes, one after another.
use Rattle.std.proofs.Common.{◌≡◌, ℕ, ◌+◌, ◌<◌, ◌==◌, Bool, true, false, List, [], ◌∷◌, ◌++◌, length, get_or, refl, sym, ap, ◌∙◌, subst, arith, length-append}
use Rattle.std.proofs.lemmas.Bool.{eq-eqb}
use Rattle.std.proofs.lemmas.List.{get_or_append_left}
use Rattle.std.proofs.lemmas.List.Folds.{list_any_at}
use Rattle.std.proofs.Math.Seq.{get_or-append_seam}
use mathlib.Core.Logic.{dite}
use native.Mathlib.Decide.{ℕ_discrete}
use Rattle.atomic_table.specs.Seated.{TableId}
use Rattle.ks_outside.specs.declared.entropy.Entropy.{Ghosts as EntropyGhosts}
use Rattle.keystore_core.specs.declared.engine.Engine.{Engine}
use Rattle.service_book.specs.declared.entry.BookEntry.{BookEntry}
use Rattle.shared_service.specs.declared.name.ServiceId.{ServiceId}
use Rattle.shared_service.specs.declared.pass.Pass.{Pass}
use Rattle.shared_service.specs.Desks.{HasSeen}
use Rattle.shared_service.specs.Making.{IsNameOf}
use Rattle.shared_service.specs.Names.{entropy_before}
use Rattle.shared_service.specs.Passes.{HasAll, IsNewPass, number_of}
use Rattle.shared_service.proofs.Drawing.{drew_none_first}

-- nothing is seen in the empty book
pub seen_nothing : {N : Type 0} {g : EntropyGhosts N} (name : ServiceId N) (number : ℕ) (front : List BookEntry) → front ≡ [] → ∥ HasSeen g name number front 0 false ∥₁
seen_nothing {g = g} name number front none = subst (λ (f : List BookEntry). ∥ HasSeen g name number f 0 false ∥₁) (sym none) ∣ record { legal = λ s of. tt; caused = tt; drew = drew_none_first g (entropy_before name); client_is = refl; connected_is = refl; idle = refl } ∣₁

-- one more of what each is
pub each_more : {A : Type 0} (P : ℕ → A → Type 0) (xs ys : List A) (x : A) → ys ≡ xs ++ x ∷ [] → ((k : ℕ) (d : A) → k < length xs → P k (get_or xs k d)) → P (length xs) x → (k : ℕ) (d : A) → k < length ys → P k (get_or ys k d)
each_more {A} P xs ys x e each last k d lt =
    let long : length ys ≡ length xs + 1 = ap length e ∙ length-append xs (x ∷ []) in
    subst (λ (l : List A). P k (get_or l k d)) (sym e) (dite (ℕ_discrete k (length xs))
    (λ at. subst (λ (n : ℕ). P n (get_or (xs ++ x ∷ []) n d)) (sym at) (subst (P (length xs)) (sym (get_or-append_seam xs x [] d)) last))
    (λ ne. subst (P k) (sym (get_or_append_left xs (x ∷ []) d k (omega arith))) (each k d (omega arith))))

-- two names of one beginning
pub one_name : {N : Type 0} (engine : Engine) (disk entropy : ℕ) (drawn_from : N) (a b : ServiceId N) → IsNameOf engine disk entropy drawn_from a → IsNameOf engine disk entropy drawn_from b → a ≡ b
one_name engine disk entropy drawn_from a b p q = λ i. record { engine = record { marker = a.engine.marker; value = (p.engine_is ∙ sym q.engine_is) i }; drawn_from = record { marker = a.drawn_from.marker; value = (p.drawn_is ∙ sym q.drawn_is) i }; disk = (p.disk_is ∙ sym q.disk_is) i; entropy = (p.entropy_is ∙ sym q.entropy_is) i }

-- all numbers are there
any_at : {A : Type 0} (test : A → Bool) (xs : List A) (k : ℕ) → k < length xs → ((d : A) → test (get_or xs k d) ≡ true) → Rattle.std.specs.List.list_any test xs ≡ true
any_at test [] k lt here = absurd (omega arith)
any_at test (x ∷ xs) k lt here = list_any_at test (x ∷ xs) k x lt (here x)

pub has_all : {N : Type 0} {g : EntropyGhosts N} (lock : TableId) (name : ServiceId N) (count : ℕ) (passes : List (Pass N g)) → length passes ≡ count → ((k : ℕ) (d : Pass N g) → k < count → IsNewPass lock name count k (get_or passes k d)) → HasAll count passes
has_all {N} {g} lock name count passes long each = λ number lt.
    any_at (λ (p : Pass N g). number_of p == number) passes number (omega arith) (λ d. eq-eqb (number_of (get_or passes number d)) number (each number d lt).number_is)

pub longer_one : {A : Type 0} (xs ys : List A) (x : A) → ys ≡ xs ++ x ∷ [] → length ys ≡ length xs + 1
longer_one xs ys x e = ap length e ∙ length-append xs (x ∷ [])
