-- The passes of a run, by their numbers.
use Rattle.std.specs.Prelude.{◌≡◌, ◌<◌, ℕ, List, [], length, slice_index_or, Result, IfOk}
use Rattle.turn_lock.specs.declared.lock.LockPass.{LockPass}
use Rattle.turn_lock.specs.Rule.{own}
use Rattle.turn_lock.specs.Passes.{Closing, front, number_of, Took}
use Rattle.shared_list.specs.declared.list.PlainList.{PlainList}
use Rattle.shared_list.specs.declared.list.ListEntry.{ListEntry}
use Rattle.shared_list.specs.Lists.{by, counted}

-- a fact of each of these and of its place
abbrev pub Each : {A : Type 0} → (ℕ → A → Type 0) → List A → Type 0
Each {A} P xs = (k : ℕ) (d : A) → k < length xs → P k (slice_index_or xs k d)

-- the same of those that are no errors
abbrev pub EachOk : {A F : Type 0} → (ℕ → A → Type 0) → List (Result A F) → Type 0
EachOk P = Each (λ k r. IfOk r (P k))

abbrev ListPass : Type 0
ListPass = LockPass PlainList ListEntry (Unit {0})

-- a new pass with the number k
pub record IsNew (k : ℕ) (pass : ListPass) : Type 0 where
  pub number_is : number_of pass ≡ k
  pub empty : front pass ≡ []

-- the pass k, which has appended its items
pub record HasAppended (items k : ℕ) (pass : ListPass) : Type 0 where
  pub number_is : number_of pass ≡ k
  pub own_are : own by k (front pass) ≡ counted k items

-- the closing has taken in the pass k, which had appended its items
pub record TookIts (items : ℕ) (closing : Closing PlainList ListEntry (Unit {0})) (k : ℕ) : Type 0 where
  pub pass : ListPass
  pub took : Took closing pass
  pub its : HasAppended items k pass
