-- The bytes of a generator are those of its next word, and then those of the generator after it.
use Rattle.std.proofs.Common.{◌≡◌, ℕ, zero, suc, ◌/◌, ◌%◌, List, [], refl, sym, ap, arith}
use Rattle.std.proofs.Math.Path.{fun_ext}
use Rattle.std.specs.Int.{w32, to_le_bytes}
use Rattle.rand_chacha.specs.ChaCha.{ChaCha, next_word}
use Rattle.ks_outside.specs.Draws.{followed}
use Rattle.ks_outside.specs.Seeded.{word_bytes, bytes_from}

next_at : (generator : ChaCha) (place : ℕ) → bytes_from generator place ≡ followed (word_bytes generator) (bytes_from (next_word 10 generator).1) place
unfolding bytes_from
next_at generator zero = refl
next_at generator (suc zero) = refl
next_at generator (suc (suc zero)) = refl
next_at generator (suc (suc (suc zero))) = refl
next_at generator (suc (suc (suc (suc place)))) =
    let word : suc (suc (suc (suc place))) / 4 ≡ suc (place / 4) = omega arith in
    let byte : suc (suc (suc (suc place))) % 4 ≡ place % 4 = omega arith in
    rw (word, byte) refl

pub next_bytes : (generator : ChaCha) → bytes_from generator ≡ followed (word_bytes generator) (bytes_from (next_word 10 generator).1)
next_bytes generator = fun_ext (next_at generator)

pub refilled : (bytes left : List ℕ) (word : ℕ) (generator later : ChaCha) → left ≡ [] → bytes ≡ to_le_bytes w32 word
    → (word, later) ≡ next_word 10 generator → followed bytes (bytes_from later) ≡ followed left (bytes_from generator)
refilled bytes left word generator later none written next =
    let rest = ap (λ pair. pair.1) next in
    let first = ap (λ pair. pair.0) next in
    rw (none, written, rest, first) (sym (next_bytes generator))
