-- The passes that the last turn has taken in, from the last one on.
use Rattle.std.proofs.Common.{◌≡◌, ℕ, zero, suc, ◌+◌, ◌<◌, ◌≤◌, Bool, true, false, Some, None, inl, inr, List, [], ◌∷◌, ◌++◌, length, get_or, refl, sym, ap, ◌∙◌, subst, arith, length-append}
use Rattle.std.proofs.lemmas.List.{get_or_append_left}
use Rattle.std.proofs.Math.Seq.{get_or-append_seam}
use mathlib.Core.Logic.{dite}
use native.Mathlib.Decide.{ℕ_discrete}
use Rattle.ks_outside.specs.declared.disk.Disk.{Ghosts as DiskGhosts}
use Rattle.ks_outside.specs.declared.entropy.Entropy.{Ghosts as EntropyGhosts}
use Rattle.turn_lock.specs.declared.lock.LockPass.{LockPass}
use Rattle.std.specs.Prelude.{All}
use Rattle.std.specs.List.{list_any, position, position_or_len}
use Rattle.std.proofs.lemmas.Bool.{cases_lt, lt-ltb}
use Rattle.std.proofs.lemmas.List.Folds.{list_any_none}
use Rattle.std.proofs.lemmas.List.Sums.{fails_before_first}
use Rattle.turn_lock.specs.Fronts.{HasHand, IsFrontOf}
use Rattle.turn_lock.specs.Passes.{Closing, Took, view_of}
use Rattle.shared_service.specs.Owning.{by}
use Rattle.service_book.specs.declared.entry.BookEntry.{BookEntry}
use Rattle.shared_service.specs.declared.desk.Desk.{Desk}
use Rattle.shared_service.specs.declared.name.ServiceId.{ServiceId}
use Rattle.shared_service.specs.Closings.{TookFront}

-- what was taken in stays so
pub keeps_front : {D N : Type 0} {d : DiskGhosts D} {n : EntropyGhosts N} (old new : Closing (Desk D N d n) BookEntry (ServiceId N)) (number : ℕ) (seen : List BookEntry) → ((other : LockPass (Desk D N d n) BookEntry (ServiceId N)) → Took old other → Took new other)
    → TookFront old number seen → TookFront new number seen
keeps_front old new number seen kept t = record { pass = t.pass; took = kept t.pass t.took; number_is = t.number_is; front_is = t.front_is }

-- All were given, and these are left; T holds of the others. What T speaks of may become another, of which it holds still.
pub record IsTaking {A : Type 0} (T : A → Type 0) (all left : List A) : Type 0 where
  pub within : length left ≤ length all
  pub same : (k : ℕ) (d : A) → k < length left → get_or all k d ≡ get_or left k d
  pub took : (k : ℕ) (d : A) → length left ≤ k → k < length all → T (get_or all k d)

pub takes_none : {A : Type 0} (T : A → Type 0) (all : List A) → IsTaking T all all
takes_none T all = record { within = omega arith; same = λ k d lt. refl; took = λ k d ge lt. absurd (omega arith) }

pub takes_one : {A : Type 0} (T T' : A → Type 0) (all left left' : List A) (p : A) → IsTaking T all left → left ≡ left' ++ p ∷ [] → T' p → ((x : A) → T x → T' x) → IsTaking T' all left'
takes_one {A} T T' all left left' p t e took kept =
    let long : length left ≡ length left' + 1 = ap length e ∙ length-append left' (p ∷ []) in
    let within = t.within in
    record {
      within = omega arith;
      same = λ k d lt. t.same k d (omega arith) ∙ (ap (λ (l : List A). get_or l k d) e ∙ get_or_append_left left' (p ∷ []) d k lt);
      took = λ k d ge lt. dite (ℕ_discrete k (length left'))
          (λ at.
          let here : get_or all k d ≡ p = t.same k d (omega arith) ∙ (ap (λ (l : List A). get_or l k d) e ∙ (ap (λ (n : ℕ). get_or (left' ++ p ∷ []) n d) at ∙ get_or-append_seam left' p [] d)) in
          subst T' (sym here) took)
          (λ ne. kept (get_or all k d) (t.took k d (omega arith) lt));
    }

-- what is left is of those that were given
pub left_each : {A : Type 0} (T P : A → Type 0) (all left left' : List A) (p : A) → IsTaking T all left → left ≡ left' ++ p ∷ [] → ((k : ℕ) (d : A) → k < length all → P (get_or all k d)) → P p
left_each {A} T P all left left' p t e each =
    let long : length left ≡ length left' + 1 = ap length e ∙ length-append left' (p ∷ []) in
    let within = t.within in
    let here : get_or all (length left') p ≡ p = t.same (length left') p (omega arith) ∙ (ap (λ (l : List A). get_or l (length left') p) e ∙ get_or-append_seam left' p [] p) in
    subst P here (each (length left') p (omega arith))

-- ---- the place of a number

pub not_found : {A : Type 0} (test : A → Bool) (xs : List A) → position test xs ≡ None → list_any test xs ≡ true → ⊥
not_found test xs none any = elim (cases_lt (position_or_len test xs) (length xs)) [
  | inl l ↦ (let found : position test xs ≡ Some (position_or_len test xs) = rw (lt-ltb _ _ l) refl in cc)
  | inr le ↦ (let never : list_any test xs ≡ false = list_any_none test xs (λ k d lt. fails_before_first test xs k d (omega arith)) in cc)
]

-- ---- all that were taken in

pub all_first : {A : Type 0} (P : A → Type 0) (x : A) (xs : List A) → P x → All P xs → All P (x ∷ xs)
all_first P x xs first all zero d lt = first
all_first P x xs first all (suc k) d lt = all k d (omega arith)

-- the front of a pass that was taken in begins the book, and has all that the pass made
pub front_in : {D N : Type 0} {d : DiskGhosts D} {n : EntropyGhosts N} (closing : Closing (Desk D N d n) BookEntry (ServiceId N)) (number : ℕ) (seen book : List BookEntry) → ((m : ℕ) (front : List BookEntry) → HasHand (view_of closing).hands m front → IsFrontOf by m front book)
    → TookFront closing number seen → IsFrontOf by number seen book
front_in closing number seen book all t = subst (λ (z : ℕ × List BookEntry). IsFrontOf by z.0 z.1 book) (λ i. (t.number_is i, t.front_is i)) (all _ _ t.took)
