-- What stands at a place outside a torn range stays.
use Rattle.std.proofs.Common.{◌≡◌, ℕ, zero, suc, ◌+◌, ◌-◌, ◌<◌, ◌≤◌, List, [], ◌∷◌, ◌++◌, length, take, drop, get_or, slice_get, Some, None, refl, sym, ◌∙◌, ap, arith, length-take, length-drop, length-append}
use Rattle.std.proofs.lemmas.List.{take_rest, take_at, take-take, drop-take, drop-drop, drop_more}
use Rattle.ks_outside.specs.Ranges.{Holds, Torn}
use Rattle.gated_records.specs.Areas.{HoldsAt}

pub fits : (at : ℕ) (bytes image : List ℕ) → 0 < length bytes → HoldsAt at bytes image → at + length bytes ≤ length image
fits at bytes image some h = omega (arith, ap length h, length-take (length bytes) (drop at image), length-drop at image)

front : (k at : ℕ) (old new : List ℕ) → k ≤ at → k ≤ length old → take (length (take at old)) new ≡ take at old → take k new ≡ take k old
front k at old new below within f =
    let m = length (take at old) in
    let le : k ≤ m = omega (arith, length-take at old) in
    sym (take-take k m new le) ∙ ap (λ (l : List ℕ). take k l) f ∙ take-take k at old below

same_below : (s at : ℕ) (bytes old new : List ℕ) → 0 < length bytes → s + length bytes ≤ at → take (length (take at old)) new ≡ take at old → HoldsAt s bytes old → HoldsAt s bytes new
same_below s at bytes old new some below f h =
    let n = length bytes in
    sym (drop-take s n new) ∙ ap (λ (l : List ℕ). drop s l) (front (s + n) at old new below (fits s bytes old some h) f) ∙ drop-take s n old ∙ h

same_above : (s past : ℕ) (bytes old new : List ℕ) → past ≤ s → drop past new ≡ drop past old → HoldsAt s bytes old → HoldsAt s bytes new
same_above s past bytes old new above f h =
    let more = s - past in
    let sum : past + more ≡ s = omega arith in
    let same : drop s new ≡ drop s old =
    ap (λ (k : ℕ). drop k new) (sym sum) ∙ sym (drop-drop more past new) ∙ ap (λ (l : List ℕ). drop more l) f ∙ drop-drop more past old ∙ ap (λ (k : ℕ). drop k old) sum in
    ap (λ (l : List ℕ). take (length bytes) l) same ∙ h

pub torn_below : (s at n : ℕ) (bytes old new : List ℕ) → 0 < length bytes → s + length bytes ≤ at → Torn at n old new → HoldsAt s bytes old → HoldsAt s bytes new
torn_below s at n bytes old new some below torn h = same_below s at bytes old new some below torn.front h

pub torn_above : (s at n : ℕ) (bytes old new : List ℕ) → at + n ≤ s → Torn at n old new → HoldsAt s bytes old → HoldsAt s bytes new
torn_above s at n bytes old new above torn h = same_above s (at + n) bytes old new above torn.after h

pub held_below : (s at : ℕ) (piece bytes old new : List ℕ) → 0 < length bytes → s + length bytes ≤ at → Holds at piece old new → HoldsAt s bytes old → HoldsAt s bytes new
held_below s at piece bytes old new some below held h = same_below s at bytes old new some below held.front h

pub held_above : (s at : ℕ) (piece bytes old new : List ℕ) → at + length piece ≤ s → Holds at piece old new → HoldsAt s bytes old → HoldsAt s bytes new
held_above s at piece bytes old new above held h = same_above s (at + length piece) bytes old new above held.after h

-- one byte that may be any
pub one_at : (at : ℕ) (image : List ℕ) → at < length image → HoldsAt at (get_or image at 0 ∷ []) image
one_at at image within = ap (λ (l : List ℕ). take 1 l) (drop_more image at 0 within)

take_none : (m : ℕ) → take {A = ℕ} m [] ≡ []
take_none zero = refl
take_none (suc m) = refl

take_join : (n m : ℕ) (c : List ℕ) → take n c ++ take m (drop n c) ≡ take (n + m) c
take_join zero m c = let k : m ≡ 0 + m = omega arith in ap (λ (k : ℕ). take k c) k
take_join (suc n) m [] = take_none m ∙ sym (take_none (suc n + m))
take_join (suc n) m (x ∷ c) = let k : suc (n + m) ≡ suc n + m = omega arith in ap (λ (l : List ℕ). x ∷ l) (take_join n m c) ∙ ap (λ (k : ℕ). take k (x ∷ c)) k

-- two pieces, one behind the other
pub join : (s p : ℕ) (first second image : List ℕ) → p ≡ s + length first → HoldsAt s first image → HoldsAt p second image → HoldsAt s (first ++ second) image
join s p first second image place a b =
    let behind : drop p image ≡ drop (length first) (drop s image) = ap (λ (k : ℕ). drop k image) place ∙ sym (drop-drop (length first) s image) in
    ap (λ (k : ℕ). take k (drop s image)) (length-append first second)
    ∙ sym (take_join (length first) (length second) (drop s image))
    ∙ (λ i. a i ++ (ap (λ (l : List ℕ). take (length second) l) (sym behind) ∙ b) i)

pub first_of : (s : ℕ) (first second image : List ℕ) → HoldsAt s (first ++ second) image → HoldsAt s first image
first_of s first second image h =
    let le : length first ≤ length (first ++ second) = omega (arith, length-append first second) in
    sym (take-take (length first) (length (first ++ second)) (drop s image) le) ∙ ap (λ (l : List ℕ). take (length first) l) h ∙ take_at first second (length first) refl

pub within_below : (s at : ℕ) (bytes old new : List ℕ) → s + length bytes ≤ length old → s + length bytes ≤ at → take (length (take at old)) new ≡ take at old → HoldsAt s bytes old → HoldsAt s bytes new
within_below s at bytes old new within below f h =
    let n = length bytes in
    sym (drop-take s n new) ∙ ap (λ (l : List ℕ). drop s l) (front (s + n) at old new below within f) ∙ drop-take s n old ∙ h

pub piece_is : (more closed : List ℕ) → closed ≡ 75 ∷ (more ++ 0 ∷ []) → take (length closed - 1) (drop 1 closed) ≡ more ++ 0 ∷ []
piece_is more closed is = take_rest closed 1 ∙ ap (λ (l : List ℕ). drop 1 l) is

byte_behind : (first : List ℕ) (byte : ℕ) (rest : List ℕ) → slice_get (first ++ byte ∷ rest) (length first) ≡ Some byte
byte_behind [] byte rest = refl
byte_behind (x ∷ first) byte rest = byte_behind first byte rest

get_none : (n : ℕ) → slice_get (let none : List ℕ = [] in none) n ≡ None
get_none n = refl

get_first : (s k : ℕ) (image : List ℕ) → slice_get (drop s image) k ≡ slice_get image (s + k)
get_first zero k image = let same : k ≡ 0 + k = omega arith in ap (λ (n : ℕ). slice_get image n) same
get_first (suc s) k [] = sym (get_none (suc s + k))
get_first (suc s) k (x ∷ image) = let same : suc (s + k) ≡ suc s + k = omega arith in get_first s k image ∙ ap (λ (n : ℕ). slice_get (x ∷ image) n) same

get_taken : (n k : ℕ) (xs : List ℕ) → k < n → slice_get (take n xs) k ≡ slice_get xs k
get_taken zero k xs lt = absurd (omega arith)
get_taken (suc n) k [] lt = refl
get_taken (suc n) zero (x ∷ xs) lt = refl
get_taken (suc n) (suc k) (x ∷ xs) lt = get_taken n k xs (omega arith)

-- the byte behind the first bytes of what an image holds
pub byte_of : (s p : ℕ) (first : List ℕ) (byte : ℕ) (rest image : List ℕ) → p ≡ s + length first → HoldsAt s (first ++ byte ∷ rest) image → slice_get image p ≡ Some byte
byte_of s p first byte rest image place h =
    let within : length first < length (first ++ byte ∷ rest) = omega (arith, length-append first (byte ∷ rest)) in
    ap (λ (k : ℕ). slice_get image k) place
    ∙ sym (get_first s (length first) image)
    ∙ sym (get_taken (length (first ++ byte ∷ rest)) (length first) (drop s image) within)
    ∙ ap (λ (l : List ℕ). slice_get l (length first)) h
    ∙ byte_behind first byte rest
