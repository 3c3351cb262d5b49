-- The code's way to mix a column: fewer products with x than the definition has.
use Rattle.std.proofs.Common.{◌≡◌, ℕ, ◌<◌, [], ◌∷◌, refl, ◌∙◌, ap}
use Rattle.std.specs.Int.Bits.{bit_xor}
use Rattle.aes_core.specs.Field.{x_times, times_bits, times}
use Rattle.aes_core.specs.State.{mixed, unmixed}
use Rattle.aes_core.specs.Laws.XorSums.{same_sums}
use Rattle.aes_core.specs.Laws.XorSums.Sum.{None_of, Term, Both}
use Rattle.aes_core.specs.Laws.FieldLaws.{x_times_sum, x_times_byte, sum_byte, sum4, sum4_of}

turned : (a b c d : ℕ) → sum4 a b c d ≡ sum4 b c d a
turned a b c d =
    same_sums (a ∷ b ∷ c ∷ d ∷ []) (sum4_of (Term 0) (Term 1) (Term 2) (Term 3)) (sum4_of (Term 1) (Term 2) (Term 3) (Term 0)) refl

-- 2 a + 3 b + c + d is a, all four, and 2 (a + b)
pub mixed_by_all : (a b c d all : ℕ) → a < 256 → b < 256 → all ≡ sum4 a b c d → bit_xor (bit_xor a all) (x_times (bit_xor a b)) ≡ mixed a b c d
unfolding mixed times times_bits
mixed_by_all a b c d all la lb is_all =
    ap (λ t. bit_xor (bit_xor a t) (x_times (bit_xor a b))) is_all
    ∙ ap (λ t. bit_xor (bit_xor a (sum4 a b c d)) t) (x_times_sum a b la lb)
    ∙ same_sums (a ∷ b ∷ c ∷ d ∷ x_times a ∷ x_times b ∷ [])
    (Both (Both (Term 0) (sum4_of (Term 0) (Term 1) (Term 2) (Term 3))) (Both (Term 4) (Term 5)))
    (sum4_of (Both (Term 4) None_of) (Both (Term 1) (Both (Term 5) None_of)) (Term 2) (Term 3))
    refl

pub mixed_column : (a b c d : ℕ) → a < 256 → b < 256 → c < 256 → d < 256 →
    (bit_xor (bit_xor a (sum4 a b c d)) (x_times (bit_xor a b)) ≡ mixed a b c d)
    × (bit_xor (bit_xor b (sum4 a b c d)) (x_times (bit_xor b c)) ≡ mixed b c d a)
    × (bit_xor (bit_xor c (sum4 a b c d)) (x_times (bit_xor c d)) ≡ mixed c d a b)
    × (bit_xor (bit_xor d (sum4 a b c d)) (x_times (bit_xor d a)) ≡ mixed d a b c)
mixed_column a b c d la lb lc ld = (
  mixed_by_all a b c d (sum4 a b c d) la lb refl,
  mixed_by_all b c d a (sum4 a b c d) lb lc (turned a b c d),
  mixed_by_all c d a b (sum4 a b c d) lc ld (turned a b c d ∙ turned b c d a),
  mixed_by_all d a b c (sum4 a b c d) ld la (turned a b c d ∙ turned b c d a ∙ turned c d a b),
)

-- 4 (a + c), by its terms, and a + 4 (a + c) times x
four_times : (a c : ℕ) → a < 256 → c < 256 → x_times (x_times (bit_xor a c)) ≡ bit_xor (x_times (x_times a)) (x_times (x_times c))
four_times a c la lc = ap x_times (x_times_sum a c la lc) ∙ x_times_sum (x_times a) (x_times c) (x_times_byte a la) (x_times_byte c lc)

eased_times : (a c e : ℕ) → a < 256 → c < 256 → e ≡ bit_xor (x_times (x_times a)) (x_times (x_times c)) →
    x_times (bit_xor a e) ≡ bit_xor (x_times a) (bit_xor (x_times (x_times (x_times a))) (x_times (x_times (x_times c))))
eased_times a c e la lc is_e =
    let lxa : x_times (x_times a) < 256 = x_times_byte (x_times a) (x_times_byte a la) in
    let lxc : x_times (x_times c) < 256 = x_times_byte (x_times c) (x_times_byte c lc) in
    ap (λ t. x_times (bit_xor a t)) is_e
    ∙ x_times_sum a (bit_xor (x_times (x_times a)) (x_times (x_times c))) la (sum_byte (x_times (x_times a)) (x_times (x_times c)) lxa lxc)
    ∙ ap (λ t. bit_xor (x_times a) t) (x_times_sum (x_times (x_times a)) (x_times (x_times c)) lxa lxc)

-- InvMixColumns is MixColumns after 4 (a + c) is added to a and c, and 4 (b + d) to b and d
pub unmixed_by_mixed : (a b c d e o : ℕ) → a < 256 → b < 256 → c < 256 → d < 256 → e ≡ x_times (x_times (bit_xor a c)) → o ≡ x_times (x_times (bit_xor b d)) →
    mixed (bit_xor a e) (bit_xor b o) (bit_xor c e) (bit_xor d o) ≡ unmixed a b c d
unfolding mixed unmixed times times_bits
unmixed_by_mixed a b c d e o la lb lc ld is_e is_o =
    let even : e ≡ bit_xor (x_times (x_times a)) (x_times (x_times c)) = is_e ∙ four_times a c la lc in
    let odd : o ≡ bit_xor (x_times (x_times b)) (x_times (x_times d)) = is_o ∙ four_times b d lb ld in
    ap (λ t. sum4 (bit_xor t 0) (bit_xor (bit_xor b o) (bit_xor (x_times (bit_xor b o)) 0)) (bit_xor c e) (bit_xor d o)) (eased_times a c e la lc even)
    ∙ ap (λ t. sum4 (bit_xor (bit_xor (x_times a) (bit_xor (x_times (x_times (x_times a))) (x_times (x_times (x_times c))))) 0) (bit_xor (bit_xor b o) (bit_xor t 0)) (bit_xor c e) (bit_xor d o)) (eased_times b d o lb ld odd)
    ∙ ap (λ t. sum4 (bit_xor (bit_xor (x_times a) (bit_xor (x_times (x_times (x_times a))) (x_times (x_times (x_times c))))) 0) (bit_xor (bit_xor b o) (bit_xor (bit_xor (x_times b) (bit_xor (x_times (x_times (x_times b))) (x_times (x_times (x_times d))))) 0)) (bit_xor c t) (bit_xor d o)) even
    ∙ ap (λ t. sum4 (bit_xor (bit_xor (x_times a) (bit_xor (x_times (x_times (x_times a))) (x_times (x_times (x_times c))))) 0) (bit_xor (bit_xor b t) (bit_xor (bit_xor (x_times b) (bit_xor (x_times (x_times (x_times b))) (x_times (x_times (x_times d))))) 0)) (bit_xor c (bit_xor (x_times (x_times a)) (x_times (x_times c)))) (bit_xor d t)) odd
    ∙ same_sums (a ∷ b ∷ c ∷ d ∷ x_times a ∷ x_times b ∷ x_times c ∷ x_times d ∷
    x_times (x_times a) ∷ x_times (x_times b) ∷ x_times (x_times c) ∷ x_times (x_times d) ∷
    x_times (x_times (x_times a)) ∷ x_times (x_times (x_times b)) ∷ x_times (x_times (x_times c)) ∷ x_times (x_times (x_times d)) ∷ [])
    (sum4_of (Both (Both (Term 4) (Both (Term 12) (Term 14))) None_of)
    (Both (Both (Term 1) (Both (Term 9) (Term 11))) (Both (Both (Term 5) (Both (Term 13) (Term 15))) None_of))
    (Both (Term 2) (Both (Term 8) (Term 10)))
    (Both (Term 3) (Both (Term 9) (Term 11))))
    (sum4_of (Both (Term 4) (Both (Term 8) (Both (Term 12) None_of)))
    (Both (Term 1) (Both (Term 5) (Both (Term 13) None_of)))
    (Both (Term 2) (Both (Term 10) (Both (Term 14) None_of)))
    (Both (Term 3) (Both (Term 15) None_of)))
    refl
