-- No pass leaves a client behind.
use Rattle.std.proofs.Common.{◌≡◌, ℕ, suc, ◌<◌, ◌≤◌, ◌==◌, ◌||◌, inl, inr, Bool, true, false, List, [], ◌∷◌, length, get_or, refl, sym, ap, subst, ◌∙◌, arith}
use Rattle.std.proofs.Math.Bool.{Bool-set}
use Rattle.std.proofs.Math.Logic.{∥∥₁_elim}
use Rattle.std.proofs.lemmas.Bool.{cases_Bool, cases_lt, eqb-true}
use Rattle.std.specs.List.{list_any}
use Rattle.std.specs.Prelude.{All}
use Rattle.turn_lock.specs.Rule.{own}
use Rattle.ks_outside.specs.declared.disk.Disk.{Ghosts as DiskGhosts}
use Rattle.ks_outside.specs.declared.entropy.Entropy.{Ghosts as EntropyGhosts}
use Rattle.service_book.specs.declared.entry.BookEntry.{BookEntry}
use Rattle.service_book.specs.Book.{log_of}
use Rattle.shared_service.specs.declared.pass.Pass.{Pass}
use Rattle.shared_service.specs.declared.shared.Shared.{Shared}
use Rattle.shared_service.specs.Owning.{by, is_connected}
use Rattle.shared_service.specs.Passes.{HasAll, IsOurs, front_of, number_of, service_lock, service_name}
use Rattle.shared_service.proofs.Logs.{same_connected}
use Rattle.keystore_server.specs.Listening.{IsIdle}

-- one of a list that passes a test, and what holds of all of the list of it too
record HasPlace {A : Type 0} (test : A → Bool) (xs : List A) : Type 0 where
  place : ℕ
  item : A
  within : place < length xs
  passes : test item ≡ true
  is : (d : A) → get_or xs place d ≡ item

found : {A : Type 0} (test : A → Bool) (xs : List A) → list_any test xs ≡ true → HasPlace test xs
found test [] any = absurd (cc)
found test (x ∷ xs) any = elim (cases_Bool (test x)) [
  | inl passed ↦ record { place = 0; item = x; within = omega arith; passes = passed; is = λ d. refl }
  | inr failed ↦
      let rest : list_any test xs ≡ true = ap (λ (b : Bool). b || list_any test xs) (sym failed) ∙ any in
      let at = found test xs rest in
      let within = at.within in
      record { place = suc at.place; item = at.item; within = omega (arith, within); passes = at.passes; is = at.is }
]

module _ {D N : Type 0} {d : DiskGhosts D} {n : EntropyGhosts N} (shared : Shared D N d n) (book : List BookEntry) where
  pass_parted : (pass : Pass N n) → IsOurs shared pass → IsIdle pass → own by (number_of pass) book ≡ own by (number_of pass) (front_of pass) → is_connected (number_of pass) (log_of book) ≡ false
  pass_parted pass ours idle same = ∥∥₁_elim (pass.seen (service_lock shared) (service_name shared) ours.resting) (Bool-set _ _)
      (λ seen. same_connected (number_of pass) book (front_of pass) same ∙ (sym seen.connected_is ∙ idle))

  -- where each pass has no client, the book has none that is connected
  pub none_connected : (count : ℕ) (passes : List (Pass N n)) → HasAll count passes → All (IsOurs shared) passes → All IsIdle passes
      → All (λ (p : Pass N n). own by (number_of p) book ≡ own by (number_of p) (front_of p)) passes → ((number : ℕ) → count ≤ number → own by number book ≡ [])
      → (number : ℕ) → is_connected number (log_of book) ≡ false
  none_connected count passes all ours idle owned none number = elim (cases_lt number count) [
    | inl less ↦
        let at = found (λ (p : Pass N n). number_of p == number) passes (all number less) in
        let here : get_or passes at.place at.item ≡ at.item = at.is at.item in
        let mine : IsOurs shared at.item = subst (λ (p : Pass N n). IsOurs shared p) here (ours at.place at.item at.within) in
        let gone : IsIdle at.item = subst (λ (p : Pass N n). IsIdle p) here (idle at.place at.item at.within) in
        let same : own by (number_of at.item) book ≡ own by (number_of at.item) (front_of at.item) =
        subst (λ (p : Pass N n). own by (number_of p) book ≡ own by (number_of p) (front_of p)) here (owned at.place at.item at.within) in
        subst (λ (m : ℕ). is_connected m (log_of book) ≡ false) (eqb-true (number_of at.item) number at.passes) (pass_parted at.item mine gone same)
    | inr more ↦ same_connected number book [] (none number more)
  ]
