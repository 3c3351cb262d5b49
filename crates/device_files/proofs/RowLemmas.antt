-- Rows that are read one after another.
use Rattle.std.proofs.Common.{◌≡◌, ℕ, ◌+◌, ◌<◌, List, [], ◌∷◌, ◌++◌, length, drop, get_or, Option, Some, None, refl, sym, ap, ◌∙◌, append_assoc, append-nil}
use Rattle.std.proofs.lemmas.List.{drop_more}
use Rattle.serde_json.specs.View.{view, items_view}
use Rattle.serde_json.specs.declared.value.Value.{Value}
use Rattle.tags.specs.declared.policy.PolicyRow.{PolicyRow}
use Rattle.device_files.specs.Policy.{◌>>=◌, row_of, rows_in}

-- what was read so far, and the rows left, make the whole
abbrev pub GoesOn : List PolicyRow → List Value → List Value → Type 0
GoesOn out left all = (rows_in (items_view left) >>= λ rest. Some (out ++ rest)) ≡ rows_in (items_view all)

with_nothing : (o : Option (List PolicyRow)) → (o >>= λ rest. Some ([] ++ rest)) ≡ o
with_nothing None = refl
with_nothing (Some rest) = refl

pub rows_begin : (all : List Value) → GoesOn [] all all
rows_begin all = with_nothing (rows_in (items_view all))

moved : (out : List PolicyRow) (row : PolicyRow) (o : Option (List PolicyRow)) → (o >>= λ rest. Some ((out ++ row ∷ []) ++ rest)) ≡ ((o >>= λ rest. Some (row ∷ rest)) >>= λ rest. Some (out ++ rest))
moved out row None = refl
moved out row (Some rest) = ap Some (append_assoc out (row ∷ []) rest)

rows_more : (out : List PolicyRow) (row : PolicyRow) (first : Value) (left all : List Value) → GoesOn out (first ∷ left) all → row_of (view first) ≡ Some row → GoesOn (out ++ row ∷ []) left all
rows_more out row first left all h e = moved out row (rows_in (items_view left)) ∙ rw e at h

pub rows_fail : (out : List PolicyRow) (first : Value) (left all : List Value) → GoesOn out (first ∷ left) all → row_of (view first) ≡ None → rows_in (items_view all) ≡ None
rows_fail out first left all h e = sym (rw e at h)

pub rows_end : (out : List PolicyRow) (all : List Value) → GoesOn out [] all → rows_in (items_view all) ≡ Some out
rows_end out all h = sym h ∙ ap Some (append-nil out)

next_row : (xs : List Value) (i : ℕ) (first : Value) → i < length xs → first ≡ get_or xs i first → drop i xs ≡ first ∷ drop (i + 1) xs
next_row xs i first lt is = drop_more xs i first lt ∙ ap (λ p. p ∷ drop (i + 1) xs) (sym is)

-- one row of the list at a time
pub rows_step : (out : List PolicyRow) (row : PolicyRow) (xs all : List Value) (i : ℕ) (first : Value) → i < length xs → first ≡ get_or xs i first → GoesOn out (drop i xs) all → row_of (view first) ≡ Some row
    → GoesOn (out ++ row ∷ []) (drop (i + 1) xs) all
rows_step out row xs all i first lt is h e = rows_more out row first (drop (i + 1) xs) all (rw (next_row xs i first lt is) at h) e

-- the first row that is none
pub rows_stop : (out : List PolicyRow) (xs all : List Value) (i : ℕ) (first : Value) → i < length xs → first ≡ get_or xs i first → GoesOn out (drop i xs) all → row_of (view first) ≡ None
    → rows_in (items_view all) ≡ None
rows_stop out xs all i first lt is h e = rows_fail out first (drop (i + 1) xs) all (rw (next_row xs i first lt is) at h) e
