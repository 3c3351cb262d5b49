-- The entries of one pass.
use Rattle.std.specs.Prelude.{◌≡◌, ◌<◌, ◌≤◌, ℕ, zero, suc, List, [], ◌∷◌, ◌++◌}
use Rattle.turn_lock.specs.Rule.{own}
use Rattle.shared_list.specs.declared.list.ListEntry.{ListEntry}

abbrev pub by : ListEntry → ℕ
by e = e.by

abbrev pub entry : ℕ → ℕ → ListEntry
entry number item = record { by = number; item = item }

-- the items from 0 on, so many, by one pass
abbrev pub counted : ℕ → ℕ → List ListEntry
counted number zero = []
counted number (suc k) = counted number k ++ entry number k ∷ []

-- each of so many passes appended so many items, in their order, and nothing else stands in the list
pub record IsInOrder (threads items : ℕ) (entries : List ListEntry) : Type 0 where
  pub each : (k : ℕ) → k < threads → own by k entries ≡ counted k items
  pub none : (k : ℕ) → threads ≤ k → own by k entries ≡ []
