-- W and its inverse undo each other, step by step, round by round and as wholes, over two functions on blocks that do.
use Rattle.std.proofs.Common.{◌≡◌, ◌<◌, ◌≤◌, ◌+◌, ◌*◌, ◌^◌, ℕ, zero, suc, List, refl, ap, ◌∙◌, arith}
use Rattle.aes_core.specs.Block.{IsBlock}
use Rattle.key_wrap.specs.Wrapping.{State, parts_in, block_of, with_block, with_number, number_of, step, unstep, round, unround, rounds, unrounds, wrapping, unwrapping}
use Rattle.key_wrap.proofs.StateLemmas.{IsState, is_block, block_put, number_put, put_read, put_put, put_same, number_twice}

-- the first sends blocks to blocks, and the second undoes it there
pub record Undoes (f g : List ℕ → List ℕ) : Type 0 where
  pub keeps : (block : List ℕ) → IsBlock block → IsBlock (f block)
  pub undoes : (block : List ℕ) → IsBlock block → g (f block) ≡ block

step_state : (f g : List ℕ → List ℕ) (n t i : ℕ) (s : State) → i < n → Undoes f g → IsState n s → IsState n (step f t i s)
unfolding step
step_state f g n t i s h u is =
    number_put n t (with_block i (f (block_of i s)) s) (block_put n i (f (block_of i s)) s h (u.keeps (block_of i s) (is_block n i s h is)) is)

unstep_state : (f g : List ℕ → List ℕ) (n t i : ℕ) (s : State) → i < n → Undoes g f → IsState n s → IsState n (unstep g t i s)
unfolding unstep
unstep_state f g n t i s h u is =
    block_put n i (g (block_of i (with_number t s))) s h (u.keeps (block_of i (with_number t s)) (is_block n i (with_number t s) h (number_put n t s is))) is

-- a step is undone
unstep_step : (f g : List ℕ → List ℕ) (n t i : ℕ) (s : State) → i < n → t < 2 ^ 64 → Undoes f g → IsState n s → unstep g t i (step f t i s) ≡ s
unfolding step unstep
unstep_step f g n t i s h few u is =
    let block = is_block n i s h is in
    let made = u.keeps (block_of i s) block in
    let put = block_put n i (f (block_of i s)) s h made is in
    ap (λ x. with_block i (g (block_of i x)) (with_number t (with_block i (f (block_of i s)) s))) (number_twice n t (with_block i (f (block_of i s)) s) few put)
    ∙ ap (λ b. with_block i (g b) (with_block i (f (block_of i s)) s)) (put_read n i (f (block_of i s)) s h made is)
    ∙ ap (λ b. with_block i b (with_block i (f (block_of i s)) s)) (u.undoes (block_of i s) block)
    ∙ put_put n i (f (block_of i s)) (block_of i s) s h made is
    ∙ put_same n i s h is

-- a step that was undone is made again
step_unstep : (f g : List ℕ → List ℕ) (n t i : ℕ) (s : State) → i < n → t < 2 ^ 64 → Undoes g f → IsState n s → step f t i (unstep g t i s) ≡ s
unfolding step unstep
step_unstep f g n t i s h few u is =
    let numbered = with_number t s in
    let is_numbered = number_put n t s is in
    let block = is_block n i numbered h is_numbered in
    let made = u.keeps (block_of i numbered) block in
    ap (λ b. with_number t (with_block i (f b) (with_block i (g (block_of i numbered)) s))) (put_read n i (g (block_of i numbered)) s h made is)
    ∙ ap (λ b. with_number t (with_block i b (with_block i (g (block_of i numbered)) s))) (u.undoes (block_of i numbered) block)
    ∙ ap (with_number t) (put_put n i (g (block_of i numbered)) (block_of i numbered) s h made is)
    ∙ ap (with_number t) (put_same n i numbered h is_numbered)
    ∙ number_twice n t s few is

-- the same of a round, as far as part i
round_state : (f g : List ℕ → List ℕ) (n j i : ℕ) (s : State) → i ≤ n → Undoes f g → IsState n s → IsState n (round f n j i s)
unfolding round
round_state f g n j zero s h u is = is
round_state f g n j (suc i) s h u is = step_state f g n (number_of n j i) i (round f n j i s) (omega (arith, h)) u (round_state f g n j i s (omega (arith, h)) u is)

unround_state : (f g : List ℕ → List ℕ) (n j i : ℕ) (s : State) → i ≤ n → Undoes g f → IsState n s → IsState n (unround g n j i s)
unfolding unround
unround_state f g n j zero s h u is = is
unround_state f g n j (suc i) s h u is = unround_state f g n j i (unstep g (number_of n j i) i s) (omega (arith, h)) u (unstep_state f g n (number_of n j i) i s (omega (arith, h)) u is)

unround_round : (f g : List ℕ → List ℕ) (n j i : ℕ) (s : State) → i ≤ n → n * j + n < 2 ^ 64 → Undoes f g → IsState n s → unround g n j i (round f n j i s) ≡ s
unfolding round unround
unround_round f g n j zero s h few u is = refl
unround_round f g n j (suc i) s h few u is =
    ap (unround g n j i) (unstep_step f g n (number_of n j i) i (round f n j i s) (omega (arith, h)) (omega (arith, h, few)) u (round_state f g n j i s (omega (arith, h)) u is))
    ∙ unround_round f g n j i s (omega (arith, h)) few u is

round_unround : (f g : List ℕ → List ℕ) (n j i : ℕ) (s : State) → i ≤ n → n * j + n < 2 ^ 64 → Undoes g f → IsState n s → round f n j i (unround g n j i s) ≡ s
unfolding round unround
round_unround f g n j zero s h few u is = refl
round_unround f g n j (suc i) s h few u is =
    ap (step f (number_of n j i) i) (round_unround f g n j i (unstep g (number_of n j i) i s) (omega (arith, h)) few u (unstep_state f g n (number_of n j i) i s (omega (arith, h)) u is))
    ∙ step_unstep f g n (number_of n j i) i s (omega (arith, h)) (omega (arith, h, few)) u is

-- the same of the first j rounds
rounds_state : (f g : List ℕ → List ℕ) (n j : ℕ) (s : State) → Undoes f g → IsState n s → IsState n (rounds f n j s)
unfolding rounds
rounds_state f g n zero s u is = is
rounds_state f g n (suc j) s u is = round_state f g n j n (rounds f n j s) (omega arith) u (rounds_state f g n j s u is)

unrounds_state : (f g : List ℕ → List ℕ) (n j : ℕ) (s : State) → Undoes g f → IsState n s → IsState n (unrounds g n j s)
unfolding unrounds
unrounds_state f g n zero s u is = is
unrounds_state f g n (suc j) s u is = unrounds_state f g n j (unround g n j n s) u (unround_state f g n j n s (omega arith) u is)

unrounds_rounds : (f g : List ℕ → List ℕ) (n j : ℕ) (s : State) → n * j < 2 ^ 64 → Undoes f g → IsState n s → unrounds g n j (rounds f n j s) ≡ s
unfolding rounds unrounds
unrounds_rounds f g n zero s few u is = refl
unrounds_rounds f g n (suc j) s few u is =
    ap (unrounds g n j) (unround_round f g n j n (rounds f n j s) (omega arith) (omega (arith, few)) u (rounds_state f g n j s u is))
    ∙ unrounds_rounds f g n j s (omega (arith, few)) u is

rounds_unrounds : (f g : List ℕ → List ℕ) (n j : ℕ) (s : State) → n * j < 2 ^ 64 → Undoes g f → IsState n s → rounds f n j (unrounds g n j s) ≡ s
unfolding rounds unrounds
rounds_unrounds f g n zero s few u is = refl
rounds_unrounds f g n (suc j) s few u is =
    ap (round f n j n) (rounds_unrounds f g n j (unround g n j n s) (omega (arith, few)) u (unround_state f g n j n s (omega arith) u is))
    ∙ round_unround f g n j n s (omega arith) (omega (arith, few)) u is

-- the same of W
count_is : (n : ℕ) (s : State) → IsState n s → parts_in s.parts ≡ n
count_is n s is = omega (arith, is.parts)

pub wrapping_state : (f g : List ℕ → List ℕ) (n : ℕ) (s : State) → Undoes f g → IsState n s → IsState n (wrapping f s)
unfolding wrapping
wrapping_state f g n s u is = rw (count_is n s is) (rounds_state f g n 6 s u is)

pub unwrapping_state : (f g : List ℕ → List ℕ) (n : ℕ) (s : State) → Undoes g f → IsState n s → IsState n (unwrapping g s)
unfolding unwrapping
unwrapping_state f g n s u is = rw (count_is n s is) (unrounds_state f g n 6 s u is)

pub unwrapping_wrapping : (f g : List ℕ → List ℕ) (n : ℕ) (s : State) → n ≤ 8 → Undoes f g → IsState n s → unwrapping g (wrapping f s) ≡ s
unfolding wrapping unwrapping
unwrapping_wrapping f g n s few u is =
    rw (count_is n s is, count_is n (rounds f n 6 s) (rounds_state f g n 6 s u is)) (unrounds_rounds f g n 6 s (omega (arith, few)) u is)

pub wrapping_unwrapping : (f g : List ℕ → List ℕ) (n : ℕ) (s : State) → n ≤ 8 → Undoes g f → IsState n s → wrapping f (unwrapping g s) ≡ s
unfolding wrapping unwrapping
wrapping_unwrapping f g n s few u is =
    rw (count_is n s is, count_is n (unrounds g n 6 s) (unrounds_state f g n 6 s u is)) (rounds_unrounds f g n 6 s (omega (arith, few)) u is)
