-- The key that a schedule for a number of rounds was made of.
use Rattle.std.specs.Prelude.{ℕ, ◌-◌, ◌*◌, List, take}

-- the words before the first that key expansion makes: 6 fewer than the rounds
abbrev pub key_in : List ℕ → ℕ → List ℕ
key_in schedule rounds = take (4 * (rounds - 6)) schedule
