-- Pieces that stand in a text stand there also once it is longer.
use Rattle.std.proofs.Common.{◌≡◌, ℕ, zero, suc, ◌<◌, ◌≤◌, List, [], ◌∷◌, ◌++◌, length, take, drop, map, get_or, refl, sym, ap, ◌∙◌, arith, length-drop}
use Rattle.std.specs.List.{AllByRecursion}
use Rattle.std.proofs.lemmas.List.{drop_at, map-append, take_all}
use Rattle.disk_model.specs.declared.calls.KeptCall.{KeptCall}
use Rattle.disk_model.specs.declared.calls.KeptCall.TheVariants as kinds
use Rattle.disk_model.specs.DiskCalls.{Wrote, Synced}
use Rattle.disk_model.specs.Texts.{call_in, IsInFirst}

take_front : (n : ℕ) (xs ys : List ℕ) → n ≤ length xs → take n (xs ++ ys) ≡ take n xs
take_front zero xs ys le = refl
take_front (suc n) [] ys le = absurd (omega (arith, le))
take_front (suc n) (x ∷ xs) ys le = ap (λ (l : List ℕ). x ∷ l) (take_front n xs ys (omega (arith, le)))

drop_front : (n : ℕ) (xs ys : List ℕ) → n ≤ length xs → drop n (xs ++ ys) ≡ drop n xs ++ ys
drop_front zero xs ys le = refl
drop_front (suc n) [] ys le = absurd (omega (arith, le))
drop_front (suc n) (x ∷ xs) ys le = drop_front n xs ys (omega (arith, le))

same_call : (text more : List ℕ) (made : KeptCall) → IsInFirst (length text) made → call_in (text ++ more) made ≡ call_in text made
same_call text more (kinds.Wrote at start size) fits =
    ap (λ (l : List ℕ). Wrote at l)
    (ap (λ (l : List ℕ). take size l) (drop_front start text more (omega (arith, fits))) ∙ take_front size (drop start text) more (omega (arith, fits, length-drop start text)))
same_call text more kinds.Synced fits = refl

same_calls : (text more : List ℕ) (made : List KeptCall) → AllByRecursion (IsInFirst (length text)) made → map (call_in (text ++ more)) made ≡ map (call_in text) made
same_calls text more [] all = refl
same_calls text more (m ∷ made) all = λ i. same_call text more m all.0 i ∷ same_calls text more made all.1 i

longer : (n m : ℕ) (made : KeptCall) → n ≤ m → IsInFirst n made → IsInFirst m made
longer n m (kinds.Wrote at start size) le fits = omega (arith, le, fits)
longer n m kinds.Synced le fits = tt

pub all_longer : (n m : ℕ) (made : List KeptCall) → n ≤ m → AllByRecursion (IsInFirst n) made → AllByRecursion (IsInFirst m) made
all_longer n m [] le all = tt
all_longer n m (x ∷ made) le all = (longer n m x le all.0, all_longer n m made le all.1)

pub all_pushed : (n : ℕ) (made : List KeptCall) (x : KeptCall) → AllByRecursion (IsInFirst n) made → IsInFirst n x → AllByRecursion (IsInFirst n) (made ++ x ∷ [])
all_pushed n [] x all fits = (fits, tt)
all_pushed n (y ∷ made) x all fits = (all.0, all_pushed n made x all.1 fits)

pub in_first_at : (n : ℕ) (made : List KeptCall) (i : ℕ) (d : KeptCall) → AllByRecursion (IsInFirst n) made → i < length made → IsInFirst n (get_or made i d)
in_first_at n [] i d all below = absurd (omega (arith, below))
in_first_at n (x ∷ made) zero d all below = all.0
in_first_at n (x ∷ made) (suc i) d all below = in_first_at n made i d all.1 (omega (arith, below))

pub call_at : (text : List ℕ) (made : List KeptCall) (i : ℕ) (d : KeptCall) → i < length made → get_or (map (call_in text) made) i Synced ≡ call_in text (get_or made i d)
call_at text [] i d below = absurd (omega (arith, below))
call_at text (x ∷ made) zero d below = refl
call_at text (x ∷ made) (suc i) d below = call_at text made i d (omega (arith, below))

-- a write whose piece was put behind the text
pub pushed_write : (text more : List ℕ) (made : List KeptCall) (at start : ℕ) → AllByRecursion (IsInFirst (length text)) made → start ≡ length text
    → map (call_in (text ++ more)) (made ++ kinds.Wrote at start (length more) ∷ []) ≡ map (call_in text) made ++ Wrote at more ∷ []
pushed_write text more made at start all is =
    let piece : take (length more) (drop start (text ++ more)) ≡ more = ap (λ (l : List ℕ). take (length more) l) (drop_at text more start (sym is)) ∙ take_all (length more) more (omega arith) in
    map-append (call_in (text ++ more)) made (kinds.Wrote at start (length more) ∷ [])
    ∙ (λ i. same_calls text more made all i ++ Wrote at (piece i) ∷ [])
