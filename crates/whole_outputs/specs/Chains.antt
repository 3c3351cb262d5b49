-- Whole blocks in ECB and CBC, from some block of a text on.
use Rattle.std.specs.Prelude.{◌≡◌, ℕ, List, length}
use Rattle.std.specs.List.{concat}
use Rattle.tags.specs.declared.plan.Plan.{Plan}
use Rattle.aes_core.specs.Cipher.{cipher, inverse_cipher}
use Rattle.aes_wide.specs.WideKey.{wide_key_of}
use Rattle.block_modes.specs.Texts.{AreBlocks, blocks_of}
use Rattle.block_modes.specs.Steps.{through, chain_after}
use Rattle.cipher_ops.specs.Output.{first_block}
use Rattle.cipher_ops.specs.Standing.{aes, aes_inverse}
use Rattle.whole_outputs.specs.Links.{plan_of}
use Rattle.whole_outputs.specs.declared.chained.Chained.{Chained}

-- the plan of a text that is under way
abbrev pub plan_in : Chained → Plan
plan_in state = plan_of state.links state.seal state.padded

-- what comes out for the whole blocks of some bytes
abbrev pub made_from : Chained → List ℕ → List ℕ
made_from state bytes = through (aes state.cipher) (aes_inverse state.cipher) (plan_in state) state.chain (blocks_of bytes)

-- the text behind them
abbrev pub after : Chained → List ℕ → Chained
after state bytes = record state { chain = chain_after (aes state.cipher) (aes_inverse state.cipher) (plan_in state) state.chain (blocks_of bytes) }

-- A text in ECB or CBC, under a plan, a key and a nonce, of which these whole blocks are done.
pub record Chains (state : Chained) (plan : Plan) (key nonce done : List ℕ) : Type 0 where
  pub plan_is : plan ≡ plan_in state
  pub key_is : wide_key_of state.cipher ≡ key
  pub first_len : length (first_block plan nonce) ≡ 16
  pub blocks : List (List ℕ)
  pub each : AreBlocks blocks
  pub done_is : done ≡ concat blocks
  pub chain_is : state.chain ≡ chain_after (cipher key) (inverse_cipher key) plan (first_block plan nonce) blocks
