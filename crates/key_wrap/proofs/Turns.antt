-- The turns of the loops: what a turn leaves, where the parts lie in one slice, and the end of the loops that go down.
use Rattle.std.proofs.Common.{◌≡◌, ◌<◌, ◌≤◌, ◌+◌, ◌-◌, ◌*◌, ℕ, suc, List, ◌++◌, take, drop, ap, ◌∙◌, arith}
use borrow.Rule.Slice.PartMut.{put_mid}
use Rattle.key_wrap.specs.Wrapping.{State, state_of, first_half, second_half, numbered, number_of, step, unstep, round, unround, rounds, unrounds}
use Rattle.key_wrap.proofs.InPlace.{stepped, unstepped}

-- one part more of a round
pub round_turn : (f : List ℕ → List ℕ) (n j i t : ℕ) (value parts new part : List ℕ) (start : State) → t ≡ number_of n j i
    → new ≡ numbered t (first_half (f (value ++ take (8 * i + 8 - 8 * i) (drop (8 * i) parts))))
    → part ≡ second_half (f (value ++ take (8 * i + 8 - 8 * i) (drop (8 * i) parts)))
    → state_of value parts ≡ round f n j i start
    → state_of new (put_mid (8 * i) (8 * i + 8 - 8 * i) parts part) ≡ round f n j (i + 1) start
unfolding round
round_turn f n j i t value parts new part start is_number is_new is_part so_far =
    let more : suc i ≡ i + 1 = omega arith in
    stepped f t i value parts new part is_new is_part ∙ ap (step f t i) so_far ∙ ap (λ k. step f k i (round f n j i start)) is_number ∙ ap (λ k. round f n j k start) more

-- one part less of a round that is undone
pub unround_turn : (g : List ℕ → List ℕ) (n j i t : ℕ) (value parts new part : List ℕ) (end : State) → 0 < i → t ≡ number_of n j (i - 1)
    → new ≡ first_half (g (numbered t value ++ take (8 * (i - 1) + 8 - 8 * (i - 1)) (drop (8 * (i - 1)) parts)))
    → part ≡ second_half (g (numbered t value ++ take (8 * (i - 1) + 8 - 8 * (i - 1)) (drop (8 * (i - 1)) parts)))
    → unround g n j i (state_of value parts) ≡ end
    → unround g n j (i - 1) (state_of new (put_mid (8 * (i - 1)) (8 * (i - 1) + 8 - 8 * (i - 1)) parts part)) ≡ end
unfolding unround
unround_turn g n j i t value parts new part end some is_number is_new is_part so_far =
    let less : suc (i - 1) ≡ i = omega (arith, some) in
    ap (unround g n j (i - 1)) (unstepped g t (i - 1) value parts new part is_new is_part ∙ ap (λ k. unstep g k (i - 1) (state_of value parts)) is_number)
    ∙ ap (λ k. unround g n j k (state_of value parts)) less
    ∙ so_far

pub unround_end : (g : List ℕ → List ℕ) (n j i : ℕ) (s end : State) → i ≤ 0 → unround g n j i s ≡ end → s ≡ end
unfolding unround
unround_end g n j i s end none so_far = let last : 0 ≡ i = omega (arith, none) in ap (λ k. unround g n j k s) last ∙ so_far

-- one round more, over m parts, which are n
pub rounds_turn : (f : List ℕ → List ℕ) (n m j : ℕ) (s next start : State) → m ≡ n → next ≡ round f m j m s → s ≡ rounds f n j start → next ≡ rounds f n (j + 1) start
unfolding rounds
rounds_turn f n m j s next start same is_next so_far =
    let more : suc j ≡ j + 1 = omega arith in
    is_next ∙ ap (λ k. round f k j k s) same ∙ ap (round f n j n) so_far ∙ ap (λ k. rounds f n k start) more

pub rounds_end : (f : List ℕ → List ℕ) (n j : ℕ) (s start : State) → j ≡ 6 → s ≡ rounds f n j start → s ≡ rounds f n 6 start
rounds_end f n j s start last so_far = so_far ∙ ap (λ k. rounds f n k start) last

-- one round less
pub unrounds_turn : (g : List ℕ → List ℕ) (n m j : ℕ) (s next end : State) → 0 < j → m ≡ n → next ≡ unround g m (j - 1) m s → unrounds g n j s ≡ end → unrounds g n (j - 1) next ≡ end
unfolding unrounds
unrounds_turn g n m j s next end some same is_next so_far =
    let less : suc (j - 1) ≡ j = omega (arith, some) in
    ap (unrounds g n (j - 1)) (is_next ∙ ap (λ k. unround g k (j - 1) k s) same) ∙ ap (λ k. unrounds g n k s) less ∙ so_far

pub unrounds_end : (g : List ℕ → List ℕ) (n j : ℕ) (s end : State) → j ≤ 0 → unrounds g n j s ≡ end → s ≡ end
unfolding unrounds
unrounds_end g n j s end none so_far = let last : 0 ≡ j = omega (arith, none) in ap (λ k. unrounds g n k s) last ∙ so_far
