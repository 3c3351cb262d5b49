-- How the hash and the bytes that wait follow a string as it grows.
use Rattle.std.proofs.Common.{◌≡◌, ℕ, ◌+◌, ◌*◌, ◌/◌, ◌%◌, ◌<◌, ◌≤◌, List, [], ◌∷◌, ◌++◌, length, take, drop, set, refl, sym, ap, ◌∙◌, arith, length-append}
use Rattle.std.proofs.lemmas.List.{drop-append-le, take_more_set, take_all, drop_all, length-set, length_push, length-take-le}
use Rattle.ghash.specs.Hash.{Holds}
use Rattle.gcm_mode.specs.Blocks.{first_blocks}
use Rattle.gcm_mode.specs.Parts.{Feeds}
use Rattle.gcm_mode.specs.declared.feed.Feed.{Feed}
use Rattle.gcm_mode.proofs.Cutting.{first_blocks-append, first_blocks_more, first_blocks-add, first_blocks-take}

-- a byte that does not fill the block
pub feeds_short : (s n : Feed) (h bytes : List ℕ) (b at : ℕ) → Feeds s h bytes → length s.block ≡ 16 → at ≡ s.filled % 16 → at < 15
    → n.hash ≡ s.hash → n.block ≡ set s.block at b → n.filled ≡ (at + 1) % 16 → Feeds n h (bytes ++ b ∷ [])
feeds_short s n h bytes b at held len is short hash block filled =
    let q : ℕ = length bytes / 16 in
    let longer : length (bytes ++ b ∷ []) ≡ length bytes + 1 = length_push bytes b in
    let filled_is : s.filled ≡ length bytes % 16 = held.filled in
    let at_is : at ≡ length bytes % 16 = omega arith in
    let same : length (bytes ++ b ∷ []) / 16 ≡ q = omega arith in
    let left : length (bytes ++ b ∷ []) % 16 ≡ at + 1 = omega arith in
    let waits : take at s.block ≡ drop (q * 16) bytes = rw at_is held.rest in
    record {
      hash = rw (hash, same, first_blocks-append q bytes (b ∷ []) (omega arith)) held.hash;
      filled = omega arith;
      rest = rw (left, same, block, take_more_set s.block at b (omega arith), waits) (sym (drop-append-le (q * 16) bytes (b ∷ []) (omega arith)));
    }

-- a byte that fills the block, which the hash takes
pub feeds_full : (s n : Feed) (h bytes full : List ℕ) (b at : ℕ) → Feeds s h bytes → length s.block ≡ 16 → at ≡ s.filled % 16 → 15 ≤ at
    → full ≡ set s.block at b → ((blocks : List (List ℕ)) → Holds s.hash h blocks → Holds n.hash h (blocks ++ full ∷ []))
    → n.filled ≡ (at + 1) % 16 → Feeds n h (bytes ++ b ∷ [])
feeds_full s n h bytes full b at held len is long full_is absorbed filled =
    let q : ℕ = length bytes / 16 in
    let longer : length (bytes ++ b ∷ []) ≡ length bytes + 1 = length_push bytes b in
    let filled_is : s.filled ≡ length bytes % 16 = held.filled in
    let at_is : at ≡ length bytes % 16 = omega arith in
    let next : length (bytes ++ b ∷ []) / 16 ≡ q + 1 = omega arith in
    let left : length (bytes ++ b ∷ []) % 16 ≡ 0 = omega arith in
    let waits : take at s.block ≡ drop (q * 16) bytes = rw at_is held.rest in
    let tail : drop (q * 16) (bytes ++ b ∷ []) ≡ take (at + 1) (set s.block at b) =
    drop-append-le (q * 16) bytes (b ∷ []) (omega arith) ∙ rw (take_more_set s.block at b (omega arith), waits) refl in
    let size : length (set s.block at b) ≡ 16 = length-set s.block at b ∙ len in
    let whole : take 16 (drop (q * 16) (bytes ++ b ∷ [])) ≡ full =
    rw (tail, take_all (at + 1) (set s.block at b) (omega arith), take_all 16 (set s.block at b) (omega arith)) (sym full_is) in
    let blocks : first_blocks (q + 1) (bytes ++ b ∷ []) ≡ first_blocks q bytes ++ full ∷ [] =
    rw (first_blocks_more q (bytes ++ b ∷ []), whole, first_blocks-append q bytes (b ∷ []) (omega arith)) refl in
    record {
      hash = rw (next, blocks) (absorbed (first_blocks q bytes) held.hash);
      filled = omega arith;
      rest = rw (left, next) (sym (drop_all ((q + 1) * 16) (bytes ++ b ∷ []) (omega arith)));
    }

-- whole blocks behind whole blocks
pub feeds_blocks : (s n : Feed) (h bytes input : List ℕ) (blocks : List (List ℕ)) → Feeds s h bytes → length bytes % 16 ≡ 0 → blocks ≡ first_blocks (length input / 16) input
    → Holds n.hash h (first_blocks (length bytes / 16) bytes ++ blocks) → n.filled ≡ s.filled → Feeds n h (bytes ++ take (length input / 16 * 16) input)
feeds_blocks s n h bytes input blocks held whole blocks_are absorbed filled =
    let q : ℕ = length bytes / 16 in
    let m : ℕ = length input / 16 in
    let front : length (take (length input / 16 * 16) input) ≡ length input / 16 * 16 = length-take-le (length input / 16 * 16) input (omega arith) in
    let all : length (bytes ++ take (length input / 16 * 16) input) ≡ length bytes + length input / 16 * 16 =
    length-append bytes (take (length input / 16 * 16) input) ∙ ap (λ (k : ℕ). length bytes + k) front in
    let count : length (bytes ++ take (length input / 16 * 16) input) / 16 ≡ length bytes / 16 + length input / 16 = omega arith in
    let none : length (bytes ++ take (length input / 16 * 16) input) % 16 ≡ 0 = omega arith in
    let filled_is : s.filled ≡ length bytes % 16 = held.filled in
    record {
      hash = rw (
        count,
        first_blocks-add (length bytes / 16) (length input / 16) bytes (take (length input / 16 * 16) input) (omega arith),
        first_blocks-take (length input / 16) input (omega arith),
        ← blocks_are,
      ) absorbed;
      filled = omega arith;
      rest = rw none (sym (drop_all (length (bytes ++ take (length input / 16 * 16) input) / 16 * 16) (bytes ++ take (length input / 16 * 16) input) (omega arith)));
    }
