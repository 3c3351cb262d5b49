-- Two sums of the same terms by `bit_xor` are equal, in whatever order and however often they stand there:
-- each is the sum of the terms that stand in it an odd number of times.
use Rattle.std.proofs.Common.{◌≡◌, ℕ, zero, suc, ◌<◌, Bool, true, false, cond, not, List, [], ◌∷◌, length, get_or, refl, sym, ◌∙◌, ap, arith}
use Rattle.std.specs.Int.Bits.{bit_xor, xor_assoc, xor_self, xor_zero_r, xor_zero_l}
use Rattle.std.proofs.lemmas.Nat.{xor_comm}
use Rattle.std.proofs.lemmas.Bool.{agree_below, agree_below_at}

-- (a + b) + (c + d) is (a + c) + (b + d)
pub interchange : (a b c d : ℕ) → bit_xor (bit_xor a b) (bit_xor c d) ≡ bit_xor (bit_xor a c) (bit_xor b d)
interchange a b c d =
    xor_assoc a b (bit_xor c d)
    ∙ ap (λ x. bit_xor a x) (sym (xor_assoc b c d) ∙ ap (λ x. bit_xor x d) (xor_comm b c) ∙ xor_assoc c b d)
    ∙ sym (xor_assoc a c (bit_xor b d))

-- a sum of terms of a list: nothing, the term at an index, or two sums
pub data Sum : Type 0 where
  None_of : Sum
  Term : (index : ℕ) → Sum
  Both : (left : Sum) (right : Sum) → Sum

abbrev pub value : List ℕ → Sum → ℕ
value terms None_of = 0
value terms (Term index) = get_or terms index 0
value terms (Both left right) = bit_xor (value terms left) (value terms right)

abbrev pub same : ℕ → ℕ → Bool
same zero zero = true
same zero (suc m) = false
same (suc n) zero = false
same (suc n) (suc m) = same n m

abbrev pub differ : Bool → Bool → Bool
differ true b = not b
differ false b = b

-- the term at this index stands in the sum an odd number of times
abbrev pub is_odd : Sum → ℕ → Bool
is_odd None_of n = false
is_odd (Term index) n = same index n
is_odd (Both left right) n = differ (is_odd left n) (is_odd right n)

-- the sum of the terms at the indexes that are picked
abbrev pub picked : (ℕ → Bool) → List ℕ → ℕ
picked p [] = 0
picked p (x ∷ xs) = bit_xor (cond (p 0) x 0) (picked (λ n. p (suc n)) xs)

both_picked : (b c : Bool) (x : ℕ) → cond (differ b c) x 0 ≡ bit_xor (cond b x 0) (cond c x 0)
both_picked true true x = sym (xor_self x)
both_picked true false x = sym (xor_zero_r x)
both_picked false true x = sym (xor_zero_l x)
both_picked false false x = refl

picked_both : (p q : ℕ → Bool) (terms : List ℕ) → picked (λ n. differ (p n) (q n)) terms ≡ bit_xor (picked p terms) (picked q terms)
picked_both p q [] = refl
picked_both p q (x ∷ xs) =
    ap (λ y. bit_xor y (picked (λ n. differ (p (suc n)) (q (suc n))) xs)) (both_picked (p 0) (q 0) x)
    ∙ ap (λ y. bit_xor (bit_xor (cond (p 0) x 0) (cond (q 0) x 0)) y) (picked_both (λ n. p (suc n)) (λ n. q (suc n)) xs)
    ∙ interchange (cond (p 0) x 0) (cond (q 0) x 0) (picked (λ n. p (suc n)) xs) (picked (λ n. q (suc n)) xs)

none_picked : (terms : List ℕ) → picked (λ _. false) terms ≡ 0
none_picked [] = refl
none_picked (x ∷ xs) = xor_zero_l (picked (λ _. false) xs) ∙ none_picked xs

one_picked : (index : ℕ) (terms : List ℕ) → picked (same index) terms ≡ get_or terms index 0
one_picked index [] = refl
one_picked zero (x ∷ xs) = ap (λ y. bit_xor x y) (none_picked xs) ∙ xor_zero_r x
one_picked (suc index) (x ∷ xs) = xor_zero_l (picked (same index) xs) ∙ one_picked index xs

value_picked : (terms : List ℕ) (s : Sum) → value terms s ≡ picked (is_odd s) terms
value_picked terms None_of = sym (none_picked terms)
value_picked terms (Term index) = sym (one_picked index terms)
value_picked terms (Both left right) =
    ap (λ y. bit_xor y (value terms right)) (value_picked terms left)
    ∙ ap (λ y. bit_xor (picked (is_odd left) terms) y) (value_picked terms right)
    ∙ sym (picked_both (is_odd left) (is_odd right) terms)

picked_same : (p q : ℕ → Bool) (terms : List ℕ) → ((n : ℕ) → n < length terms → p n ≡ q n) → picked p terms ≡ picked q terms
picked_same p q [] h = refl
picked_same p q (x ∷ xs) h =
    ap (λ b. bit_xor (cond b x 0) (picked (λ n. p (suc n)) xs)) (h 0 (omega arith))
    ∙ ap (λ y. bit_xor (cond (q 0) x 0) y) (picked_same (λ n. p (suc n)) (λ n. q (suc n)) xs (λ n below. h (suc n) (omega arith)))

-- two sums in which the same terms stand an odd number of times are equal; the test computes
pub same_sums : (terms : List ℕ) (s t : Sum) → agree_below (is_odd s) (is_odd t) (length terms) ≡ true → value terms s ≡ value terms t
same_sums terms s t agree =
    value_picked terms s
    ∙ picked_same (is_odd s) (is_odd t) terms (λ n below. agree_below_at (is_odd s) (is_odd t) (length terms) n agree below)
    ∙ sym (value_picked terms t)
