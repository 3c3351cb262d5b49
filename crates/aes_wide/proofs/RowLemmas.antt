-- The round keys of one block, and its rounds.
use Rattle.std.proofs.Common.{◌≡◌, ◌≢◌, ℕ, zero, suc, ◌+◌, ◌-◌, ◌<◌, ◌≤◌, List, [], set, length, refl, sym, ◌∙◌, ap, arith, below_more}
use Rattle.std.proofs.lemmas.Bool.{lt-ltb, le-ltb}
use Rattle.std.proofs.lemmas.List.{get_or-set_same, get_or-set_other, length-set}
use Rattle.aes_core.specs.Block.{IsBytes}
use Rattle.aes_core.specs.State.{sub_bytes, shift_rows, mix_columns, add_round_key}
use Rattle.aes_core.specs.Expansion.{key_expansion, round_key, rounds_of}
use Rattle.aes_core.specs.Cipher.{rounds, cipher_by, cipher}
use Rattle.aes_core.specs.Laws.StateLaws.{sub_bytes_block, shift_rows_block, mix_columns_block, add_round_key_block}
use Rattle.aes_wide.specs.declared.single.RoundKey.{RoundKey}
use Rattle.aes_wide.specs.Steps.{constant}
use Rattle.aes_wide.specs.Single.{towered, added_key, row_at}
use Rattle.aes_wide.proofs.GroupLemmas.{rounds_more}

pub added_first : (key : List ℕ) (r : ℕ) → r ≡ 0 → towered (round_key (key_expansion key) r) ≡ added_key key r
added_first key r e = rw e refl

pub added_middle : (key : List ℕ) (r : ℕ) → 0 < r → r < rounds_of key → towered (add_round_key (round_key (key_expansion key) r) constant) ≡ added_key key r
added_middle key zero h k = absurd (omega arith)
added_middle key (suc r) h k = rw (lt-ltb (suc r) (rounds_of key) k) refl

pub added_last : (key : List ℕ) (r : ℕ) → 0 < r → rounds_of key ≤ r → add_round_key (round_key (key_expansion key) r) constant ≡ added_key key r
added_last key zero h k = absurd (omega arith)
added_last key (suc r) h k = rw (le-ltb (suc r) (rounds_of key) k) refl

-- the first n of 15
pub record HasSome (n : ℕ) (rows : List RoundKey) (key : List ℕ) : Type 0 where
  pub long : length rows ≡ 15
  pub has : (r : ℕ) → r < n → row_at rows r ≡ added_key key r

pub more_rows : (n : ℕ) (rows : List RoundKey) (new : RoundKey) (key : List ℕ) → n < 15 → HasSome n rows key → new.bytes ≡ added_key key n → HasSome (n + 1) (set rows n new) key
more_rows n rows new key few some is_new =
    let within : n < length rows = omega (arith, some.long) in
    let none : RoundKey = record { bytes = [] } in
    let P : ℕ → Type 0 = λ k. row_at (set rows n new) k ≡ added_key key k in
    record {
      long = length-set rows n new ∙ some.long;
      has = below_more P n (λ k h. let other : k ≢ n = omega arith in ap (λ (t : RoundKey). t.bytes) (get_or-set_other rows n k new none other) ∙ some.has k h)
          (ap (λ (t : RoundKey). t.bytes) (get_or-set_same rows n new none within) ∙ is_new);
    }

-- ---- the rounds

-- the state in the tower after n rounds
pub record IsOn (w : List ℕ) (n : ℕ) (start state : List ℕ) : Type 0 where
  pub bytes : IsBytes (rounds w n start)
  pub is : state ≡ towered (rounds w n start)

pub on_start : (w start state : List ℕ) → IsBytes start → state ≡ towered start → IsOn w 0 start state
unfolding rounds
on_start w start state bytes is = record { bytes = bytes; is = is }

pub on_more : (w : List ℕ) (n : ℕ) (start state next : List ℕ) → IsOn w n start state → IsBytes (round_key w (n + 1)) →
    next ≡ towered (add_round_key (mix_columns (shift_rows (sub_bytes (rounds w n start)))) (round_key w (n + 1))) → IsOn w (n + 1) start next
on_more w n start state next on key is =
    let s = rounds w n start in
    let mixed = mix_columns_block (shift_rows (sub_bytes s)) (shift_rows_block (sub_bytes s) (sub_bytes_block s on.bytes).bytes).bytes in
    record {
      bytes = rw (rounds_more w n start) (add_round_key_block (mix_columns (shift_rows (sub_bytes s))) (round_key w (n + 1)) mixed.bytes key).bytes;
      is = is ∙ ap towered (sym (rounds_more w n start));
    }

pub on_end : (key x out : List ℕ) (n : ℕ) → n ≡ rounds_of key - 1 →
    out ≡ add_round_key (shift_rows (sub_bytes (rounds (key_expansion key) n (add_round_key x (round_key (key_expansion key) 0))))) (round_key (key_expansion key) (rounds_of key)) →
    out ≡ cipher key x
unfolding cipher cipher_by
on_end key x out n is_n is =
    is ∙ ap (λ m. add_round_key (shift_rows (sub_bytes (rounds (key_expansion key) m (add_round_key x (round_key (key_expansion key) 0))))) (round_key (key_expansion key) (rounds_of key))) is_n
