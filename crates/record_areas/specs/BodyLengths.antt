-- What the first bytes of a record's body tell of how long it is.
use Rattle.std.specs.Prelude.{ℕ, zero, suc, ◌+◌, ◌-◌, ◌==◌, ◌&&◌, nat_le, Bool, true, List, [], ◌∷◌, drop, Option, Some, None, if◌then◌else◌}
use Rattle.byte_strings.specs.Readers.{number_at}

-- Whether so many bytes may be a counted text, and what follows it. Where the text's length is not told, they may.
abbrev pub may_go_on : ℕ → (ℕ → List ℕ → Bool) → Option (ℕ × List ℕ) → Bool
may_go_on size follows None = true
may_go_on size follows (Some told) = nat_le (4 + told.0) size && follows (size - (4 + told.0)) (drop told.0 told.1)

-- whether so many bytes, of which these are the first, may be counted texts and some bytes behind them
abbrev pub may_fill : ℕ → ℕ → ℕ → List ℕ → Bool
may_fill zero behind size front = size == behind
may_fill (suc texts) behind size front = may_go_on size (may_fill texts behind) (number_at 4 front)

-- the same of the fields of a body of so many bytes, its kind among them: numbers of so many bytes, counted texts, and some bytes behind them
abbrev pub may_have : ℕ → ℕ → ℕ → ℕ → List ℕ → Bool
may_have numbers texts behind size fields = may_fill texts behind (size - (numbers + 1)) (drop numbers fields)

-- Whether a body of so many bytes may begin with these. A body of a kind without texts has at most 25.
abbrev pub may_begin : ℕ → List ℕ → Bool
may_begin size [] = true
may_begin size (kind ∷ fields) =
    if kind == 1 then may_have 17 3 4 size fields else if kind == 9 then may_have 17 3 8 size fields else if kind == 11 then may_have 8 2 0 size fields else nat_le size 25
