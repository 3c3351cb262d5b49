-- The modes as steps of one block: what comes out, and what is chained to the next block.
use Rattle.std.specs.Prelude.{ℕ, zero, suc, Bool, true, false, not, ◌&&◌, List, [], ◌∷◌, ◌++◌}
use Rattle.tags.specs.declared.plan.Plan.{Plan}
use Rattle.tags.specs.declared.plan.Plan.TheVariants.{Ecb, Cbc, Ctr}
use Rattle.block_modes.specs.Texts.{xor_bytes}
use Rattle.block_modes.specs.Modes.{next_counter}

-- what comes out for a block; of a short last piece of CTR as much as it has
abbrev pub step_out : (cipher inverse : List ℕ → List ℕ) → Plan → List ℕ → List ℕ → List ℕ
step_out cipher inverse (Ecb true padded) chain block = cipher block
step_out cipher inverse (Ecb false padded) chain block = inverse block
step_out cipher inverse (Cbc true padded) chain block = cipher (xor_bytes block chain)
step_out cipher inverse (Cbc false padded) chain block = xor_bytes (inverse block) chain
step_out cipher inverse _ chain block = xor_bytes block (cipher chain)

-- what the next block is chained to
abbrev pub step_chain : (cipher inverse : List ℕ → List ℕ) → Plan → List ℕ → List ℕ → List ℕ
step_chain cipher inverse (Ecb seal padded) chain block = chain
step_chain cipher inverse (Cbc true padded) chain block = cipher (xor_bytes block chain)
step_chain cipher inverse (Cbc false padded) chain block = block
step_chain cipher inverse _ chain block = next_counter chain

-- what comes out for some blocks, one after another
abbrev pub through : (cipher inverse : List ℕ → List ℕ) → Plan → List ℕ → List (List ℕ) → List ℕ
through cipher inverse plan chain [] = []
through cipher inverse plan chain (block ∷ blocks) = step_out cipher inverse plan chain block ++ through cipher inverse plan (step_chain cipher inverse plan chain block) blocks

-- the same, each by itself
abbrev pub outs : (cipher inverse : List ℕ → List ℕ) → Plan → List ℕ → List (List ℕ) → List (List ℕ)
outs cipher inverse plan chain [] = []
outs cipher inverse plan chain (block ∷ blocks) = step_out cipher inverse plan chain block ∷ outs cipher inverse plan (step_chain cipher inverse plan chain block) blocks

-- what is chained after them
abbrev pub chain_after : (cipher inverse : List ℕ → List ℕ) → Plan → List ℕ → List (List ℕ) → List ℕ
chain_after cipher inverse plan chain [] = chain
chain_after cipher inverse plan chain (block ∷ blocks) = chain_after cipher inverse plan (step_chain cipher inverse plan chain block) blocks

-- the mode gives the bytes of a block before the block is whole
abbrev pub is_counter : Plan → Bool
is_counter Ctr = true
is_counter _ = false

-- the last whole block waits for what follows it, since it may end in the padding
abbrev pub holds_back : Plan → Bool
holds_back (Ecb seal padded) = padded && not seal
holds_back (Cbc seal padded) = padded && not seal
holds_back _ = false

-- so many counter blocks from a first one on, and the one behind them
abbrev pub counter_blocks : ℕ → List ℕ → List (List ℕ)
counter_blocks zero counter = []
counter_blocks (suc n) counter = counter ∷ counter_blocks n (next_counter counter)

abbrev pub counter_after : ℕ → List ℕ → List ℕ
counter_after zero counter = counter
counter_after (suc n) counter = counter_after n (next_counter counter)

-- what stands before each of some blocks of cipher text, and before the block that follows them
abbrev pub before_each : List ℕ → List (List ℕ) → List (List ℕ)
before_each before [] = []
before_each before (block ∷ blocks) = before ∷ before_each block blocks

abbrev pub before_next : List ℕ → List (List ℕ) → List ℕ
before_next before [] = before
before_next before (block ∷ blocks) = before_next block blocks
