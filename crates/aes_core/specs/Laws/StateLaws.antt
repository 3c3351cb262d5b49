-- The steps of a round on blocks: each keeps blocks, and each is undone by its inverse.
use Rattle.std.proofs.Common.{◌≡◌, ℕ, zero, suc, ◌+◌, ◌-◌, ◌*◌, ◌%◌, ◌<◌, List, [], ◌∷◌, length, get_or, refl, sym, ◌∙◌, ap, lit<}
use Rattle.std.proofs.Math.Path.{fun_ext}
use Rattle.std.proofs.lemmas.List.FromFn.{fill_by_all}
use Rattle.aes_core.specs.Block.{IsBytes, IsBlock}
use Rattle.aes_core.specs.Field.{add, sub_byte, inv_sub_byte}
use Rattle.aes_core.specs.State.{byte_at, column_of, state_of, sub_bytes, shift_rows, mixed, mix_columns, add_round_key, inv_shift_rows, inv_sub_bytes, unmixed, inv_mix_columns}
use Rattle.aes_core.specs.Laws.FieldLaws.{sub_byte_byte, inv_sub_byte_byte, sub_byte_undone, inv_sub_byte_undone, mixed_byte, unmixed_byte, mixed_undone, unmixed_undone, sum_byte, add_undone}

-- a block is the state of its bytes
pub block_is : (s : List ℕ) → length s ≡ 16 → s ≡ state_of (byte_at s)
unfolding state_of
block_is s h = fill_by_all (λ i. get_or s i 0) s 16 0 h (λ k _. refl)

-- states with the same bytes are equal
same_states : (f g : ℕ → ℕ → ℕ) → ((r c : ℕ) → f r c ≡ g r c) → state_of f ≡ state_of g
same_states f g h = let whole : f ≡ g = fun_ext (λ r. fun_ext (λ c. h r c)) in ap state_of whole

pub bytes_cons : (x : ℕ) (xs : List ℕ) → x < 256 → IsBytes xs → IsBytes (x ∷ xs)
bytes_cons x xs h hs zero = h
bytes_cons x xs h hs (suc i) = hs i

pub bytes_none : IsBytes []
bytes_none i = lit< tt

bytes_column : (f : ℕ → ℕ) (rest : List ℕ) → ((r : ℕ) → f r < 256) → IsBytes rest → IsBytes (column_of f rest)
bytes_column f rest h hs =
    bytes_cons (f 0) (f 1 ∷ f 2 ∷ f 3 ∷ rest) (h 0)
    (bytes_cons (f 1) (f 2 ∷ f 3 ∷ rest) (h 1)
    (bytes_cons (f 2) (f 3 ∷ rest) (h 2)
    (bytes_cons (f 3) rest (h 3) hs)))

-- a state of bytes is a block
pub state_block : (f : ℕ → ℕ → ℕ) → ((r c : ℕ) → f r c < 256) → IsBlock (state_of f)
unfolding state_of
state_block f h = record {
  whole = refl;
  bytes =
      bytes_column (λ r. f r 0) (column_of (λ r. f r 1) (column_of (λ r. f r 2) (column_of (λ r. f r 3) []))) (λ r. h r 0)
      (bytes_column (λ r. f r 1) (column_of (λ r. f r 2) (column_of (λ r. f r 3) [])) (λ r. h r 1)
      (bytes_column (λ r. f r 2) (column_of (λ r. f r 3) []) (λ r. h r 2)
      (bytes_column (λ r. f r 3) [] (λ r. h r 3) bytes_none)));
}

-- ---- SubBytes

pub sub_bytes_block : (s : List ℕ) → IsBytes s → IsBlock (sub_bytes s)
unfolding sub_bytes
sub_bytes_block s h = state_block (λ r c. sub_byte (byte_at s r c)) (λ r c. sub_byte_byte (byte_at s r c) (h (r + 4 * c)))

pub inv_sub_bytes_block : (s : List ℕ) → IsBytes s → IsBlock (inv_sub_bytes s)
unfolding inv_sub_bytes
inv_sub_bytes_block s h = state_block (λ r c. inv_sub_byte (byte_at s r c)) (λ r c. inv_sub_byte_byte (byte_at s r c) (h (r + 4 * c)))

sub_bytes_twice : (s : List ℕ) → inv_sub_bytes (sub_bytes s) ≡ state_of (λ r c. inv_sub_byte (sub_byte (byte_at s r c)))
unfolding sub_bytes inv_sub_bytes state_of
sub_bytes_twice s = refl

pub sub_bytes_undone : (s : List ℕ) → IsBlock s → inv_sub_bytes (sub_bytes s) ≡ s
sub_bytes_undone s h =
    sub_bytes_twice s
    ∙ same_states (λ r c. inv_sub_byte (sub_byte (byte_at s r c))) (byte_at s) (λ r c. sub_byte_undone (byte_at s r c) (h.bytes (r + 4 * c)))
    ∙ sym (block_is s h.whole)

inv_sub_bytes_twice : (s : List ℕ) → sub_bytes (inv_sub_bytes s) ≡ state_of (λ r c. sub_byte (inv_sub_byte (byte_at s r c)))
unfolding sub_bytes inv_sub_bytes state_of
inv_sub_bytes_twice s = refl

pub inv_sub_bytes_undone : (s : List ℕ) → IsBlock s → sub_bytes (inv_sub_bytes s) ≡ s
inv_sub_bytes_undone s h =
    inv_sub_bytes_twice s
    ∙ same_states (λ r c. sub_byte (inv_sub_byte (byte_at s r c))) (byte_at s) (λ r c. inv_sub_byte_undone (byte_at s r c) (h.bytes (r + 4 * c)))
    ∙ sym (block_is s h.whole)

-- ---- ShiftRows

pub shift_rows_block : (s : List ℕ) → IsBytes s → IsBlock (shift_rows s)
unfolding shift_rows
shift_rows_block s h = state_block (λ r c. byte_at s r ((c + r) % 4)) (λ r c. h (r + 4 * ((c + r) % 4)))

pub inv_shift_rows_block : (s : List ℕ) → IsBytes s → IsBlock (inv_shift_rows s)
unfolding inv_shift_rows
inv_shift_rows_block s h = state_block (λ r c. byte_at s r ((c + 4 - r) % 4)) (λ r c. h (r + 4 * ((c + 4 - r) % 4)))

shift_rows_twice : (s : List ℕ) → inv_shift_rows (shift_rows s) ≡ state_of (byte_at s)
unfolding shift_rows inv_shift_rows state_of
shift_rows_twice s = refl

pub shift_rows_undone : (s : List ℕ) → IsBlock s → inv_shift_rows (shift_rows s) ≡ s
shift_rows_undone s h = shift_rows_twice s ∙ sym (block_is s h.whole)

inv_shift_rows_twice : (s : List ℕ) → shift_rows (inv_shift_rows s) ≡ state_of (byte_at s)
unfolding shift_rows inv_shift_rows state_of
inv_shift_rows_twice s = refl

pub inv_shift_rows_undone : (s : List ℕ) → IsBlock s → shift_rows (inv_shift_rows s) ≡ s
inv_shift_rows_undone s h = inv_shift_rows_twice s ∙ sym (block_is s h.whole)

-- ---- MixColumns

abbrev mix_at : List ℕ → ℕ → ℕ → ℕ
mix_at s r c = mixed (byte_at s r c) (byte_at s ((r + 1) % 4) c) (byte_at s ((r + 2) % 4) c) (byte_at s ((r + 3) % 4) c)

abbrev unmix_at : List ℕ → ℕ → ℕ → ℕ
unmix_at s r c = unmixed (byte_at s r c) (byte_at s ((r + 1) % 4) c) (byte_at s ((r + 2) % 4) c) (byte_at s ((r + 3) % 4) c)

pub mix_columns_block : (s : List ℕ) → IsBytes s → IsBlock (mix_columns s)
unfolding mix_columns
mix_columns_block s h = state_block (mix_at s) (λ r c. mixed_byte _ _ _ _ (h (r + 4 * c)) (h ((r + 1) % 4 + 4 * c)) (h ((r + 2) % 4 + 4 * c)) (h ((r + 3) % 4 + 4 * c)))

pub inv_mix_columns_block : (s : List ℕ) → IsBytes s → IsBlock (inv_mix_columns s)
unfolding inv_mix_columns
inv_mix_columns_block s h = state_block (unmix_at s) (λ r c. unmixed_byte _ _ _ _ (h (r + 4 * c)) (h ((r + 1) % 4 + 4 * c)) (h ((r + 2) % 4 + 4 * c)) (h ((r + 3) % 4 + 4 * c)))

-- the product of the products, where x, y, z, w are a column from a row on
abbrev both_mixed : ℕ → ℕ → ℕ → ℕ → ℕ
both_mixed x y z w = unmixed (mixed x y z w) (mixed y z w x) (mixed z w x y) (mixed w x y z)

abbrev both_unmixed : ℕ → ℕ → ℕ → ℕ → ℕ
both_unmixed x y z w = mixed (unmixed x y z w) (unmixed y z w x) (unmixed z w x y) (unmixed w x y z)

mix_columns_twice : (s : List ℕ) → inv_mix_columns (mix_columns s)
    ≡ state_of (λ r c. both_mixed (byte_at s r c) (byte_at s ((r + 1) % 4) c) (byte_at s ((r + 2) % 4) c) (byte_at s ((r + 3) % 4) c))
unfolding mix_columns inv_mix_columns state_of
mix_columns_twice s = refl

pub mix_columns_undone : (s : List ℕ) → IsBlock s → inv_mix_columns (mix_columns s) ≡ s
mix_columns_undone s h =
    mix_columns_twice s
    ∙ same_states (λ r c. both_mixed (byte_at s r c) (byte_at s ((r + 1) % 4) c) (byte_at s ((r + 2) % 4) c) (byte_at s ((r + 3) % 4) c)) (byte_at s)
    (λ r c. mixed_undone (byte_at s r c) (byte_at s ((r + 1) % 4) c) (byte_at s ((r + 2) % 4) c) (byte_at s ((r + 3) % 4) c)
    (h.bytes (r + 4 * c)) (h.bytes ((r + 1) % 4 + 4 * c)) (h.bytes ((r + 2) % 4 + 4 * c)) (h.bytes ((r + 3) % 4 + 4 * c)))
    ∙ sym (block_is s h.whole)

inv_mix_columns_twice : (s : List ℕ) → mix_columns (inv_mix_columns s)
    ≡ state_of (λ r c. both_unmixed (byte_at s r c) (byte_at s ((r + 1) % 4) c) (byte_at s ((r + 2) % 4) c) (byte_at s ((r + 3) % 4) c))
unfolding mix_columns inv_mix_columns state_of
inv_mix_columns_twice s = refl

pub inv_mix_columns_undone : (s : List ℕ) → IsBlock s → mix_columns (inv_mix_columns s) ≡ s
inv_mix_columns_undone s h =
    inv_mix_columns_twice s
    ∙ same_states (λ r c. both_unmixed (byte_at s r c) (byte_at s ((r + 1) % 4) c) (byte_at s ((r + 2) % 4) c) (byte_at s ((r + 3) % 4) c)) (byte_at s)
    (λ r c. unmixed_undone (byte_at s r c) (byte_at s ((r + 1) % 4) c) (byte_at s ((r + 2) % 4) c) (byte_at s ((r + 3) % 4) c)
    (h.bytes (r + 4 * c)) (h.bytes ((r + 1) % 4 + 4 * c)) (h.bytes ((r + 2) % 4 + 4 * c)) (h.bytes ((r + 3) % 4 + 4 * c)))
    ∙ sym (block_is s h.whole)

-- ---- AddRoundKey

pub add_round_key_block : (s k : List ℕ) → IsBytes s → IsBytes k → IsBlock (add_round_key s k)
unfolding add_round_key
add_round_key_block s k h hk = state_block (λ r c. add (byte_at s r c) (byte_at k r c)) (λ r c. sum_byte (byte_at s r c) (byte_at k r c) (h (r + 4 * c)) (hk (r + 4 * c)))

add_round_key_twice : (s k : List ℕ) → add_round_key (add_round_key s k) k ≡ state_of (λ r c. add (add (byte_at s r c) (byte_at k r c)) (byte_at k r c))
unfolding add_round_key state_of
add_round_key_twice s k = refl

pub add_round_key_undone : (s k : List ℕ) → IsBlock s → add_round_key (add_round_key s k) k ≡ s
add_round_key_undone s k h =
    add_round_key_twice s k
    ∙ same_states (λ r c. add (add (byte_at s r c) (byte_at k r c)) (byte_at k r c)) (byte_at s) (λ r c. add_undone (byte_at s r c) (byte_at k r c))
    ∙ sym (block_is s h.whole)
