-- The block of a state and a state with a block: each undoes the other, on states of n parts.
use Rattle.std.proofs.Common.{◌≡◌, ◌<◌, ◌+◌, ◌*◌, ◌^◌, ℕ, List, ◌++◌, length, take, drop, sym, ap, ◌∙◌, arith}
use Rattle.std.proofs.lemmas.List.{length-append, length-take-le, length-drop, take-append-drop, take_at, drop_at, drop-drop, take_all}
use Rattle.aes_core.specs.Block.{IsBytes, IsBlock}
use Rattle.key_wrap.specs.Wrapping.{State, state_of, block_of, second_half, with_block, with_number}
use Rattle.key_wrap.proofs.ByteLists.{IsBytes-append, IsBytes-take, IsBytes-drop}
use Rattle.key_wrap.proofs.Numbers.{numbered-length, numbered-bytes, numbered-twice}

-- a value of eight bytes, and n parts of eight bytes each
pub record IsState (n : ℕ) (s : State) : Type 0 where
  pub value : length s.value ≡ 8
  pub parts : length s.parts ≡ 8 * n
  pub value_bytes : IsBytes s.value
  pub parts_bytes : IsBytes s.parts

-- the block of a state is one
pub is_block : (n i : ℕ) (s : State) → i < n → IsState n s → IsBlock (block_of i s)
is_block n i s h is = record {
  whole = length-append s.value (take 8 (drop (8 * i) s.parts)) ∙ ap (λ k. length s.value + k) (length-take-le 8 (drop (8 * i) s.parts) (omega (arith, length-drop (8 * i) s.parts, is.parts))) ∙ omega (arith, is.value);
  bytes = IsBytes-append s.value (take 8 (drop (8 * i) s.parts)) is.value_bytes (IsBytes-take 8 (drop (8 * i) s.parts) (IsBytes-drop (8 * i) s.parts is.parts_bytes));
}

half_length : (block : List ℕ) → IsBlock block → length (second_half block) ≡ 8
half_length block b = length-take-le 8 (drop 8 block) (omega (arith, length-drop 8 block, b.whole))

-- eight bytes in place of eight bytes
part_length : (n i : ℕ) (part parts : List ℕ) → i < n → length part ≡ 8 → length parts ≡ 8 * n → length (take (8 * i) parts ++ (part ++ drop (8 * i + 8) parts)) ≡ 8 * n
part_length n i part parts h p l =
    let front = length-take-le (8 * i) parts (omega (arith, l)) in
    omega (arith, length-append (take (8 * i) parts) (part ++ drop (8 * i + 8) parts), length-append part (drop (8 * i + 8) parts), length-drop (8 * i + 8) parts, front, p, l)

-- with a block, and with a number, a state is one
pub block_put : (n i : ℕ) (block : List ℕ) (s : State) → i < n → IsBlock block → IsState n s → IsState n (with_block i block s)
block_put n i block s h b is = record {
  value = length-take-le 8 block (omega (arith, b.whole));
  parts = part_length n i (second_half block) s.parts h (half_length block b) is.parts;
  value_bytes = IsBytes-take 8 block b.bytes;
  parts_bytes = IsBytes-append (take (8 * i) s.parts) (second_half block ++ drop (8 * i + 8) s.parts) (IsBytes-take (8 * i) s.parts is.parts_bytes)
      (IsBytes-append (second_half block) (drop (8 * i + 8) s.parts) (IsBytes-take 8 (drop 8 block) (IsBytes-drop 8 block b.bytes)) (IsBytes-drop (8 * i + 8) s.parts is.parts_bytes));
}

pub number_put : (n t : ℕ) (s : State) → IsState n s → IsState n (with_number t s)
number_put n t s is = record {
  value = numbered-length t s.value;
  parts = is.parts;
  value_bytes = numbered-bytes t s.value;
  parts_bytes = is.parts_bytes;
}

-- the block that was put is read again
put_part : (n i : ℕ) (part parts : List ℕ) → i < n → length part ≡ 8 → length parts ≡ 8 * n → take 8 (drop (8 * i) (take (8 * i) parts ++ (part ++ drop (8 * i + 8) parts))) ≡ part
put_part n i part parts h p l =
    ap (take 8) (drop_at (take (8 * i) parts) (part ++ drop (8 * i + 8) parts) (8 * i) (length-take-le (8 * i) parts (omega (arith, l))))
    ∙ take_at part (drop (8 * i + 8) parts) 8 p

pub put_read : (n i : ℕ) (block : List ℕ) (s : State) → i < n → IsBlock block → IsState n s → block_of i (with_block i block s) ≡ block
put_read n i block s h b is =
    ap (λ part. take 8 block ++ part) (put_part n i (second_half block) s.parts h (half_length block b) is.parts)
    ∙ ap (λ part. take 8 block ++ part) (take_all 8 (drop 8 block) (omega (arith, length-drop 8 block, b.whole)))
    ∙ take-append-drop 8 block

-- to put twice is to put the second
put_twice_part : (n i : ℕ) (a b parts : List ℕ) → i < n → length a ≡ 8 → length parts ≡ 8 * n
    → take (8 * i) (take (8 * i) parts ++ (a ++ drop (8 * i + 8) parts)) ++ (b ++ drop (8 * i + 8) (take (8 * i) parts ++ (a ++ drop (8 * i + 8) parts)))
    ≡ take (8 * i) parts ++ (b ++ drop (8 * i + 8) parts)
put_twice_part n i a b parts h whole l =
    let front = length-take-le (8 * i) parts (omega (arith, l)) in
    let left = take_at (take (8 * i) parts) (a ++ drop (8 * i + 8) parts) (8 * i) front in
    let right : drop (8 * i + 8) (take (8 * i) parts ++ (a ++ drop (8 * i + 8) parts)) ≡ drop (8 * i + 8) parts =
    sym (drop-drop 8 (8 * i) (take (8 * i) parts ++ (a ++ drop (8 * i + 8) parts)))
    ∙ ap (drop 8) (drop_at (take (8 * i) parts) (a ++ drop (8 * i + 8) parts) (8 * i) front)
    ∙ drop_at a (drop (8 * i + 8) parts) 8 whole in
    ap (λ x. x ++ (b ++ drop (8 * i + 8) (take (8 * i) parts ++ (a ++ drop (8 * i + 8) parts)))) left ∙ ap (λ x. take (8 * i) parts ++ (b ++ x)) right

pub put_put : (n i : ℕ) (a b : List ℕ) (s : State) → i < n → IsBlock a → IsState n s → with_block i b (with_block i a s) ≡ with_block i b s
put_put n i a b s h is_a is =
    ap (λ parts. state_of (take 8 b) parts) (put_twice_part n i (second_half a) (second_half b) s.parts h (half_length a is_a) is.parts)

-- to put what is there changes nothing
same_part : (n i : ℕ) (parts : List ℕ) → i < n → length parts ≡ 8 * n → take (8 * i) parts ++ (take 8 (drop (8 * i) parts) ++ drop (8 * i + 8) parts) ≡ parts
same_part n i parts h l =
    ap (λ x. take (8 * i) parts ++ (take 8 (drop (8 * i) parts) ++ x)) (sym (drop-drop 8 (8 * i) parts))
    ∙ ap (λ x. take (8 * i) parts ++ x) (take-append-drop 8 (drop (8 * i) parts))
    ∙ take-append-drop (8 * i) parts

pub put_same : (n i : ℕ) (s : State) → i < n → IsState n s → with_block i (block_of i s) s ≡ s
put_same n i s h is =
    let part = take 8 (drop (8 * i) s.parts) in
    let left : take 8 (s.value ++ part) ≡ s.value = take_at s.value part 8 is.value in
    let right : second_half (s.value ++ part) ≡ part = ap (take 8) (drop_at s.value part 8 is.value) ∙ take_all 8 part (omega (arith, length-take-le 8 (drop (8 * i) s.parts) (omega (arith, length-drop (8 * i) s.parts, is.parts)))) in
    ap (λ value. state_of value (take (8 * i) s.parts ++ (second_half (s.value ++ part) ++ drop (8 * i + 8) s.parts))) left
    ∙ ap (λ x. state_of s.value (take (8 * i) s.parts ++ (x ++ drop (8 * i + 8) s.parts))) right
    ∙ ap (state_of s.value) (same_part n i s.parts h is.parts)

-- a number that is put twice is none
pub number_twice : (n t : ℕ) (s : State) → t < 2 ^ 64 → IsState n s → with_number t (with_number t s) ≡ s
number_twice n t s small is = ap (λ value. state_of value s.parts) (numbered-twice t s.value small is.value is.value_bytes)
