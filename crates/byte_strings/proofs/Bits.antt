-- Two bytes are equal where no bit of theirs differs, and two strings where no byte does.
use Rattle.std.proofs.Common.{◌≡◌, ℕ, ◌+◌, ◌<◌, ◌≤◌, ◌==◌, List, take, length, get_or, bit_or, bit_xor, false, ap, sym, ◌∙◌, ◌↔◌, arith}
use Rattle.std.proofs.lemmas.Nat.{le_or_l, le_or_r}
use Rattle.std.specs.Int.Bits.{xor_assoc, xor_self, xor_zero_l, xor_zero_r}
use Rattle.std.specs.Str.{bytes_eq}
use Rattle.std.proofs.lemmas.Bool.Decides.{Decides-eqb, same_from_decides}
use Rattle.std.proofs.lemmas.List.{take_all, take_more_same, take-take, get_or-take}
use Rattle.std.proofs.lemmas.Slice.Eq.{bytes_eq-Decides}

pub no_bits_differ : (a b : ℕ) → bit_xor a b ≡ 0 → a ≡ b
no_bits_differ a b none =
    sym (xor_zero_r a)
    ∙ ap (λ n. bit_xor a n) (sym (xor_self b))
    ∙ sym (xor_assoc a b b)
    ∙ ap (λ n. bit_xor n b) none
    ∙ xor_zero_l b

pub xor_same : (a b : ℕ) → a ≡ b → bit_xor a b ≡ 0
xor_same a b e = ap (λ n. bit_xor n b) e ∙ xor_self b

-- the step of a loop that gathers in d the bits in which a and b differ
pub same_more : (a b : List ℕ) (i d : ℕ) → i < length a → length a ≡ length b → ((d ≡ 0) ↔ (take i a ≡ take i b)) → (bit_or d (bit_xor (get_or a i 0) (get_or b i 0)) ≡ 0) ↔ (take (i + 1) a ≡ take (i + 1) b)
same_more a b i d within same_length so_far =
    let x : ℕ = get_or a i 0 in
    let y : ℕ = get_or b i 0 in (
      λ none.
          let no_d : d ≡ 0 = omega (arith, none, le_or_l d (bit_xor x y)) in
          let no_bit : bit_xor x y ≡ 0 = omega (arith, none, le_or_r d (bit_xor x y)) in
          take_more_same a b i 0 within (omega (arith, within, same_length)) (so_far.0 no_d) (no_bits_differ x y no_bit),
      λ same.
          let front : take i a ≡ take i b =
          sym (take-take i (i + 1) a (omega arith)) ∙ ap (λ m. take i m) same ∙ take-take i (i + 1) b (omega arith) in
          let last : x ≡ y =
          sym (get_or-take (i + 1) a i 0 (omega arith)) ∙ ap (λ m. get_or m i 0) same ∙ get_or-take (i + 1) b i 0 (omega arith) in
          ap (λ n. bit_or n (bit_xor x y)) (so_far.1 front) ∙ xor_same x y last,
    )

-- where all were looked at, no bit differs exactly where the strings are the same
pub all_looked_at : (a b : List ℕ) (i d : ℕ) → length a ≤ i → length b ≤ i → ((d ≡ 0) ↔ (take i a ≡ take i b)) → (d == 0) ≡ bytes_eq a b
all_looked_at a b i d whole_a whole_b so_far =
    let same : (d ≡ 0) ↔ (a ≡ b) = rw (take_all i a whole_a, take_all i b whole_b) at so_far in
    same_from_decides (d == 0) (bytes_eq a b) (λ none. same.0 ((Decides-eqb d 0).0 none), λ e. (Decides-eqb d 0).1 (same.1 e)) (bytes_eq-Decides a b)

-- strings of two lengths are not the same
pub lengths_differ : (a b : List ℕ) → (length a ≡ length b → ⊥) → false ≡ bytes_eq a b
lengths_differ a b differ = same_from_decides false (bytes_eq a b) (λ e. absurd cc, λ e. absurd (differ (ap length e))) (bytes_eq-Decides a b)
