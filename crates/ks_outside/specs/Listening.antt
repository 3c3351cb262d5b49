-- What a listener's answers do to its two numbers, of the links that it gave and of the times that it said that no more come, and to the links to come.
use Rattle.std.specs.Prelude.{◌≡◌, ℕ, zero, suc, List, [], ◌∷◌, Option, Some, None, Result, Ok, Err}
use Rattle.ks_outside.specs.Faults.{one_more}

-- the number of links given, after an answer
abbrev pub given_after : {L E : Type 0} → Result (Option L) E → ℕ → ℕ
given_after (Ok (Some link)) count = one_more count
given_after (Ok None) count = count
given_after (Err fault) count = count

-- the number of the times that no more came, after an answer
abbrev pub ended_after : {L E : Type 0} → Result (Option L) E → ℕ → ℕ
ended_after (Ok (Some link)) count = count
ended_after (Ok None) count = one_more count
ended_after (Err fault) count = count

-- the first link to come is the one that is given; without one there is none; a call that fails takes none
abbrev pub GivesFirst : {L E : Type 0} → List L → List L → Result (Option L) E → Type 0
GivesFirst before now (Ok (Some link)) = before ≡ link ∷ now
GivesFirst before now (Ok None) = (before ≡ []) × (now ≡ before)
GivesFirst before now (Err fault) = now ≡ before

-- a number after so many more
abbrev pub raised : ℕ → ℕ → ℕ
raised zero count = count
raised (suc times) count = raised times (one_more count)
