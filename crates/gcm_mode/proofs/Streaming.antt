-- The key stream from one byte to the next.
use Rattle.std.proofs.Common.{◌≡◌, ℕ, ◌+◌, ◌/◌, ◌%◌, ◌^◌, List, ◌++◌, slice_index, refl, ap, ◌∙◌, arith}
use Rattle.std.specs.Int.{w32, to_be_bytes}
use Rattle.gcm_mode.specs.Gcm.{pre_counter}
use Rattle.gcm_mode.specs.Parts.{Streams, IsReady, counter_block, key_byte}
use Rattle.gcm_mode.specs.declared.stream.Gctr.{Gctr}

-- a block that was due was made
pub ready_next : {C : Type 0} (cipher_of : C → List ℕ → List ℕ) (s t : Gctr C) (cipher : List ℕ → List ℕ) (nonce : List ℕ) (n : ℕ)
    → Streams cipher_of s cipher nonce n → s.used ≡ 0 → t.cipher ≡ s.cipher → t.nonce ≡ s.nonce → t.counter ≡ (s.counter + 1) % 2 ^ 32 → t.used ≡ s.used
    → t.key_block ≡ cipher_of s.cipher (s.nonce ++ to_be_bytes w32 s.counter) → IsReady cipher_of t cipher nonce n
unfolding counter_block
ready_next cipher_of s t cipher nonce n held due cipher_is nonce_is counter used key =
    let used_is : s.used ≡ n % 16 = held.used in
    let counter_is : s.counter ≡ (2 + (n + 15) / 16) % 2 ^ 32 = held.counter in
    let number : 2 + (n + 15) / 16 ≡ 2 + n / 16 = omega arith in
    let now : s.counter ≡ (2 + n / 16) % 2 ^ 32 = omega arith in
    let block : s.nonce ++ to_be_bytes w32 s.counter ≡ counter_block nonce (2 + n / 16) =
    ap (λ (l : List ℕ). l ++ to_be_bytes w32 s.counter) held.nonce_is ∙ ap (λ (m : ℕ). nonce ++ to_be_bytes w32 m) now in
    record {
      same = rw cipher_is held.same;
      nonce_is = nonce_is ∙ held.nonce_is;
      nonce_len = held.nonce_len;
      counter = omega arith;
      used = used ∙ held.used;
      key = key ∙ ap (λ (f : List ℕ → List ℕ). f (s.nonce ++ to_be_bytes w32 s.counter)) held.same ∙ ap cipher block;
    }

-- the byte that is read
pub byte_is : {C : Type 0} (cipher_of : C → List ℕ → List ℕ) (s : Gctr C) (cipher : List ℕ → List ℕ) (nonce : List ℕ) (n : ℕ)
    → IsReady cipher_of s cipher nonce n → slice_index s.key_block (s.used % 16) ≡ key_byte cipher nonce n
byte_is cipher_of s cipher nonce n held =
    let used_is : s.used ≡ n % 16 = held.used in
    let place : s.used % 16 ≡ n % 16 = omega arith in
    rw (place, held.key) refl

-- one byte on
pub stream_next : {C : Type 0} (cipher_of : C → List ℕ → List ℕ) (s t : Gctr C) (cipher : List ℕ → List ℕ) (nonce : List ℕ) (n : ℕ)
    → IsReady cipher_of s cipher nonce n → t.cipher ≡ s.cipher → t.nonce ≡ s.nonce → t.counter ≡ s.counter → t.key_block ≡ s.key_block
    → t.used ≡ (s.used % 16 + 1) % 16 → Streams cipher_of t cipher nonce (n + 1)
stream_next cipher_of s t cipher nonce n held cipher_is nonce_is counter key used =
    let used_is : s.used ≡ n % 16 = held.used in
    let counter_is : s.counter ≡ (3 + n / 16) % 2 ^ 32 = held.counter in
    let number : 3 + n / 16 ≡ 2 + (n + 1 + 15) / 16 = omega arith in
    record {
      same = rw cipher_is held.same;
      nonce_is = nonce_is ∙ held.nonce_is;
      nonce_len = held.nonce_len;
      counter = rw (← number) (counter ∙ counter_is);
      used = omega arith;
      key = λ within. let row : (n + 1) / 16 ≡ n / 16 = omega arith in rw row (key ∙ held.key);
    }

-- the key block of the tag
pub tag_key_is : {C : Type 0} (cipher_of : C → List ℕ → List ℕ) (s : Gctr C) (cipher : List ℕ → List ℕ) (nonce : List ℕ) (n : ℕ) (key : List ℕ)
    → Streams cipher_of s cipher nonce n → key ≡ cipher_of s.cipher (pre_counter s.nonce) → key ≡ cipher (pre_counter nonce)
tag_key_is cipher_of s cipher nonce n key held e =
    e ∙ ap (λ (f : List ℕ → List ℕ). f (pre_counter s.nonce)) held.same ∙ ap (λ (l : List ℕ). cipher (pre_counter l)) held.nonce_is
