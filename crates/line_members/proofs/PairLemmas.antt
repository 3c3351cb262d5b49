-- Items that are read one after another.
use Rattle.std.proofs.Common.{◌≡◌, ℕ, ◌+◌, ◌<◌, List, [], ◌∷◌, ◌++◌, length, drop, get_or, Option, Some, None, refl, sym, ap, ◌∙◌, append_assoc, append-nil}
use Rattle.std.specs.List.{AllByRecursion}
use Rattle.std.proofs.lemmas.List.{drop_more}
use Rattle.serde_json.specs.Data.{Data}
use Rattle.serde_json.specs.View.{view, items_view}
use Rattle.serde_json.specs.declared.value.Value.{Value}
use Rattle.line_members.specs.Members.{◌>>=◌, each_of}

-- what was read so far, of which each fits, and the items left make the whole
pub record PairsGoOn {A : Type 0} (kind : Data → Option A) (Fits : A → Type 0) (out : List A) (left all : List Value) : Type 0 where
  pub goes_on : (each_of kind (items_view left) >>= λ rest. Some (out ++ rest)) ≡ each_of kind (items_view all)
  pub fit : AllByRecursion Fits out

with_nothing : {A : Type 0} (o : Option (List A)) → (o >>= λ rest. Some ([] ++ rest)) ≡ o
with_nothing None = refl
with_nothing (Some rest) = refl

pub pairs_begin : {A : Type 0} (kind : Data → Option A) (Fits : A → Type 0) (all : List Value) → PairsGoOn kind Fits [] all all
pairs_begin kind Fits all = record { goes_on = with_nothing (each_of kind (items_view all)); fit = tt }

moved : {A : Type 0} (out : List A) (one : A) (o : Option (List A)) → (o >>= λ rest. Some ((out ++ one ∷ []) ++ rest)) ≡ ((o >>= λ rest. Some (one ∷ rest)) >>= λ rest. Some (out ++ rest))
moved out one None = refl
moved out one (Some rest) = ap Some (append_assoc out (one ∷ []) rest)

all_more : {A : Type 0} (Fits : A → Type 0) (out : List A) (one : A) → AllByRecursion Fits out → Fits one → AllByRecursion Fits (out ++ one ∷ [])
all_more Fits [] one all fits = (fits, tt)
all_more Fits (first ∷ out) one all fits = (all.0, all_more Fits out one all.1 fits)

pairs_more : {A : Type 0} (kind : Data → Option A) (Fits : A → Type 0) (out : List A) (one : A) (pair : Value) (left all : List Value) → PairsGoOn kind Fits out (pair ∷ left) all → kind (view pair) ≡ Some one → Fits one
    → PairsGoOn kind Fits (out ++ one ∷ []) left all
pairs_more kind Fits out one pair left all h e fits = record {
  goes_on = moved out one (each_of kind (items_view left)) ∙ rw e at h.goes_on;
  fit = all_more Fits out one h.fit fits;
}

pub pairs_fail : {A : Type 0} (kind : Data → Option A) (Fits : A → Type 0) (out : List A) (pair : Value) (left all : List Value) → PairsGoOn kind Fits out (pair ∷ left) all → kind (view pair) ≡ None
    → each_of kind (items_view all) ≡ None
pairs_fail kind Fits out pair left all h e = sym (rw e at h.goes_on)

pub pairs_end : {A : Type 0} (kind : Data → Option A) (Fits : A → Type 0) (out : List A) (all : List Value) → PairsGoOn kind Fits out [] all → each_of kind (items_view all) ≡ Some out
pairs_end kind Fits out all h = sym h.goes_on ∙ ap Some (append-nil out)

-- one item of the list at a time
pub pairs_step : {A : Type 0} (kind : Data → Option A) (Fits : A → Type 0) (out : List A) (one : A) (xs all : List Value) (i : ℕ) (pair : Value) → i < length xs → pair ≡ get_or xs i pair → PairsGoOn kind Fits out (drop i xs) all
    → kind (view pair) ≡ Some one → Fits one → PairsGoOn kind Fits (out ++ one ∷ []) (drop (i + 1) xs) all
pairs_step kind Fits out one xs all i pair lt is h e fits =
    let split : drop i xs ≡ pair ∷ drop (i + 1) xs = drop_more xs i pair lt ∙ ap (λ p. p ∷ drop (i + 1) xs) (sym is) in
    pairs_more kind Fits out one pair (drop (i + 1) xs) all (rw split at h) e fits
