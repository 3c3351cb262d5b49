-- What the code leaves: a block in an array, and parts that lie in one slice.
use Rattle.std.proofs.Common.{◌≡◌, ◌+◌, ◌-◌, ◌*◌, ℕ, List, ◌++◌, length, take, drop, ap, ◌∙◌, arith}
use Rattle.std.proofs.lemmas.List.{append-nil, take_at, drop_at, drop-drop, drop_all}
use borrow.Rule.Slice.PartMut.{put_mid}
use Rattle.key_wrap.specs.Wrapping.{state_of, first_half, second_half, numbered, step, unstep}

-- a block whose halves are written one behind the other
pub block_made : (a b zeros value part : List ℕ) → a ≡ value → b ≡ part → length a ≡ 8 → length zeros ≡ 8 → put_mid 8 8 (a ++ zeros) b ≡ value ++ part
block_made a b zeros value part is_value is_part la lz =
    ap (λ x. x ++ (b ++ drop 8 (drop 8 (a ++ zeros)))) (take_at a zeros 8 la)
    ∙ ap (λ x. a ++ (b ++ drop 8 x)) (drop_at a zeros 8 la)
    ∙ ap (λ x. a ++ (b ++ x)) (drop_all 8 zeros (omega (arith, lz)))
    ∙ ap (λ x. a ++ x) (append-nil b)
    ∙ ap (λ x. x ++ b) is_value
    ∙ ap (λ x. value ++ x) is_part

-- eight bytes that are read from a slice, and written into it
part_read : (a : ℕ) (parts : List ℕ) → take (a + 8 - a) (drop a parts) ≡ take 8 (drop a parts)
part_read a parts = let eight : a + 8 - a ≡ 8 = omega arith in ap (λ k. take k (drop a parts)) eight

part_put : (a : ℕ) (parts part : List ℕ) → put_mid a (a + 8 - a) parts part ≡ take a parts ++ (part ++ drop (a + 8) parts)
part_put a parts part =
    let eight : a + 8 - a ≡ 8 = omega arith in
    ap (λ k. put_mid a k parts part) eight ∙ ap (λ x. take a parts ++ (part ++ x)) (drop-drop 8 a parts)

-- the state after a step on part i, and after one that was undone
pub stepped : (f : List ℕ → List ℕ) (t i : ℕ) (value parts new part : List ℕ)
    → new ≡ numbered t (first_half (f (value ++ take (8 * i + 8 - 8 * i) (drop (8 * i) parts))))
    → part ≡ second_half (f (value ++ take (8 * i + 8 - 8 * i) (drop (8 * i) parts)))
    → state_of new (put_mid (8 * i) (8 * i + 8 - 8 * i) parts part) ≡ step f t i (state_of value parts)
unfolding step
stepped f t i value parts new part is_new is_part = rw (is_new, is_part, part_put (8 * i) parts, part_read (8 * i) parts)

pub unstepped : (g : List ℕ → List ℕ) (t i : ℕ) (value parts new part : List ℕ)
    → new ≡ first_half (g (numbered t value ++ take (8 * i + 8 - 8 * i) (drop (8 * i) parts)))
    → part ≡ second_half (g (numbered t value ++ take (8 * i + 8 - 8 * i) (drop (8 * i) parts)))
    → state_of new (put_mid (8 * i) (8 * i + 8 - 8 * i) parts part) ≡ unstep g t i (state_of value parts)
unfolding unstep
unstepped g t i value parts new part is_new is_part = rw (is_new, is_part, part_put (8 * i) parts, part_read (8 * i) parts)
