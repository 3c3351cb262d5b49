-- Which idle operation gives way, over plain facts of the open operations.
use Rattle.std.specs.Prelude.{ℕ, zero, suc, ◌+◌, ◌-◌, ◌/◌, Bool, ◌&&◌, ◌||◌, ◌==◌, nat_lt, nat_le, List, Option, Some, None, option_map, option_and_then, find, count_by, if◌then◌else◌}
use Rattle.std.specs.List.{filter_map, list_all}
use Rattle.pruning.specs.declared.choice.Candidate.{Candidate}

-- what the choice reads of an open operation
pub record OpenFacts : Type 0 where
  pub number : ℕ
  pub uid : ℕ
  -- the step that last touched it, where it is idle
  pub idle_since : Option ℕ

-- how many open operations a uid has, idle and busy
abbrev pub open_of : List OpenFacts → ℕ → ℕ
open_of operations uid = count_by (λ o. o.uid == uid) operations

-- how many times a number is halved before nothing is left, in at most so many turns
abbrev pub halvings : ℕ → ℕ → ℕ
halvings zero n = zero
halvings (suc turns) zero = zero
halvings (suc turns) (suc n) = suc (halvings turns (suc n / 2))

-- how many binary digits a number has; 0 has none
unfoldable pub binary_digits : ℕ → ℕ
binary_digits n = halvings n n

-- its malus: the open operations of its uid, itself among them, and the binary digits of its age at this step
abbrev pub candidate : List OpenFacts → ℕ → OpenFacts → Option Candidate
candidate operations now o =
    option_map (λ touched. record { number = o.number; malus = open_of operations o.uid + binary_digits (now - touched); touched = touched }) o.idle_since

-- all idle operations
abbrev pub candidates : List OpenFacts → ℕ → List Candidate
candidates operations now = filter_map (candidate operations now) operations

-- one gives way no later than another: its malus is greater, or the same and it was touched no later
abbrev pub goes_before : Candidate → Candidate → Bool
goes_before a b = nat_lt b.malus a.malus || (a.malus == b.malus && nat_le a.touched b.touched)

-- the one that gives way no later than any
abbrev pub first_to_go : List Candidate → Option Candidate
first_to_go all = find (λ a. list_all (goes_before a) all) all

-- The number of the operation that is pruned for a caller of this uid: the first to go, where its malus is greater than the
-- open operations of the uid plus 1, or where the caller forces.
abbrev pub victim : List OpenFacts → ℕ → ℕ → Bool → Option ℕ
victim operations now uid forced =
    option_and_then (λ c. if forced || nat_lt (open_of operations uid + 1) c.malus then Some c.number else None) (first_to_go (candidates operations now))
