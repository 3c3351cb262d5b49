-- What the code of a key rests on: its schedule stands for the key, and is long enough for its rounds.
use Rattle.std.proofs.Common.{◌≡◌, ℕ, ◌+◌, ◌-◌, ◌*◌, ◌/◌, ◌≤◌, true, List, length, take, ap, ◌∙◌, arith}
use Rattle.aes_core.specs.Expansion.{key_expansion, words_of, rounds_of}
use Rattle.aes_core.specs.Cipher.{is_key_size}
use Rattle.aes_core.specs.Schedules.{key_in}
use Rattle.aes_core.specs.declared.aes_key.AesKey.{AesKey}
use Rattle.aes_core.proofs.ScheduleLemmas.{begins_with_key, key_expansion_length}

pub key_held : (schedule key : List ℕ) → is_key_size (length key) ≡ true → schedule ≡ key_expansion key → key_in schedule (length key / 4 + 6) ≡ key
key_held schedule key size made =
    let e : 4 * (length key / 4 + 6 - 6) ≡ 4 * words_of key = omega arith in
    ap (λ n. take n schedule) e ∙ ap (take (4 * words_of key)) made ∙ begins_with_key key size

pub long_enough : (aes : AesKey) → 16 * aes.rounds + 16 ≤ length aes.schedule
long_enough aes =
    let whole : length aes.schedule ≡ 16 * (rounds_of (key_in aes.schedule aes.rounds) + 1) = ap length aes.is_expanded ∙ key_expansion_length (key_in aes.schedule aes.rounds) aes.is_key.sized in
    omega (arith, whole, aes.rounds_are)
