-- What the engine holds after some text, and what its calls give.
use Rattle.std.specs.Prelude.{ℕ, ◌≡◌, ◌+◌, ◌*◌, ◌<◌, ◌≤◌, Bool, true, false, if◌then◌else◌, ◌==◌, List, [], ◌++◌, length, take, drop, Result, MatchResult, Ok, Err}
use Rattle.std.specs.List.{concat}
use Rattle.std.specs.Option.{ok_or}
use Rattle.tags.specs.declared.plan.Plan.{Plan}
use Rattle.block_modes.specs.declared.engine.Blocks.{Blocks}
use Rattle.block_modes.specs.declared.fault.ModeFault.{ModeFault}
use Rattle.block_modes.specs.declared.fault.ModeFault.TheVariants.{Length, Padding}
use Rattle.block_modes.specs.Padding.{pad, unpad}
use Rattle.block_modes.specs.Texts.{AreBlocks, xor_bytes}
use Rattle.block_modes.specs.Output.{is_served, raw, front}
use Rattle.block_modes.specs.Steps.{step_out, step_chain, through, chain_after, is_counter, holds_back}

-- Some blocks of the text have gone through, and the rest is held; what was given is what came out for the blocks,
-- and of the block that is held as many bytes as `skip` says.
pub record Going {C : Type 0} (cipher_of inverse_of : C → List ℕ → List ℕ) (state : Blocks C)
    (cipher inverse : List ℕ → List ℕ) (plan : Plan) (nonce text : List ℕ) (skip : ℕ) (given : List ℕ) : Type 0 where
  pub blocks : List (List ℕ)
  pub served : is_served plan ≡ true
  pub plan_is : state.plan ≡ plan
  pub cipher_is : cipher_of state.cipher ≡ cipher
  pub inverse_is : inverse_of state.cipher ≡ inverse
  pub each : AreBlocks blocks
  pub text_is : text ≡ concat blocks ++ state.held
  pub chain_is : state.chain ≡ chain_after cipher inverse plan nonce blocks
  pub no_skip : is_counter plan ≡ false → skip ≡ 0
  pub given_is : given ≡ through cipher inverse plan nonce blocks ++ xor_bytes (take skip state.held) (cipher state.chain)
  pub count : length given ≡ 16 * length blocks + skip

-- where the last whole block waits, it is held as long as nothing follows it
abbrev pub IsLazy : Plan → List ℕ → List ℕ → Type 0
IsLazy plan text held = holds_back plan ≡ true → length held ≡ 0 → length text ≡ 0

-- how many bytes of the block that is held are out
abbrev pub shown : Plan → ℕ → ℕ
shown plan held = if is_counter plan then held else 0

-- The engine holds this text under these functions, this plan and this nonce, and has given the front that is out.
pub record Holds {C : Type 0} (cipher_of inverse_of : C → List ℕ → List ℕ) (state : Blocks C)
    (cipher inverse : List ℕ → List ℕ) (plan : Plan) (nonce text : List ℕ) : Type 0 where
  pub going : Going cipher_of inverse_of state cipher inverse plan nonce text (shown plan (length state.held)) (take (front plan text) (raw cipher inverse plan nonce text))
  pub within : front plan text ≡ length (take (front plan text) (raw cipher inverse plan nonce text))
  pub few : length state.held ≤ 16
  pub waits : holds_back plan ≡ false → length state.held < 16
  pub lazy : IsLazy plan text state.held

-- At the end of a piece the engine holds the text, and what was given is the front that is out.
pub record Settled {C : Type 0} (cipher_of inverse_of : C → List ℕ → List ℕ) (state : Blocks C)
    (cipher inverse : List ℕ → List ℕ) (plan : Plan) (nonce text given : List ℕ) : Type 0 where
  pub holds : Holds cipher_of inverse_of state cipher inverse plan nonce text
  pub given_is : take (front plan text) (raw cipher inverse plan nonce text) ≡ given

-- what comes out of the engine for a block
abbrev pub out_of : {C : Type 0} (cipher_of inverse_of : C → List ℕ → List ℕ) → Blocks C → List ℕ → List ℕ
out_of cipher_of inverse_of state block = step_out (cipher_of state.cipher) (inverse_of state.cipher) state.plan state.chain block

-- the engine after the block that it held
abbrev pub after_block : {C : Type 0} (cipher_of inverse_of : C → List ℕ → List ℕ) → Blocks C → Blocks C
after_block cipher_of inverse_of state =
    record state { chain = step_chain (cipher_of state.cipher) (inverse_of state.cipher) state.plan state.chain state.held; held = [] }

-- the engine after some blocks that went through while none was held
abbrev pub after_blocks : {C : Type 0} (cipher_of inverse_of : C → List ℕ → List ℕ) → Blocks C → List (List ℕ) → Blocks C
after_blocks cipher_of inverse_of state blocks =
    record state { chain = chain_after (cipher_of state.cipher) (inverse_of state.cipher) state.plan state.chain blocks }

-- what comes out of the engine for them
abbrev pub outs_of : {C : Type 0} (cipher_of inverse_of : C → List ℕ → List ℕ) → Blocks C → List (List ℕ) → List ℕ
outs_of cipher_of inverse_of state blocks = through (cipher_of state.cipher) (inverse_of state.cipher) state.plan state.chain blocks

-- From text a to text b these bytes were given: those of what the mode makes of b, from the front after a to the front after b.
pub record Gives (made : List ℕ → List ℕ) (front_of : List ℕ → ℕ) (a b given : List ℕ) : Type 0 where
  pub joined : take (front_of a) (made a) ++ given ≡ take (front_of b) (made b)
  pub piece : given ≡ drop (front_of a) (take (front_of b) (made b))
  pub count : front_of a + length given ≡ front_of b

-- Bytes that complete what was given to all output, or why there is no output
abbrev pub Finishes : Result (List ℕ) ModeFault → List ℕ → Result ℕ ModeFault → List ℕ → Type 0
Finishes all given result out = MatchResult result (λ n. all ≡ Ok (given ++ take n out)) (λ fault. all ≡ Err fault)

-- what the end of the text adds to what was given, by what is held
abbrev pub last : {C : Type 0} (cipher_of inverse_of : C → List ℕ → List ℕ) → Blocks C → Bool → Bool → Result (List ℕ) ModeFault
last cipher_of inverse_of state true true = Ok (out_of cipher_of inverse_of state (pad state.held))
last cipher_of inverse_of state false true =
    if length state.held == 16 then ok_or (unpad (out_of cipher_of inverse_of state state.held)) Padding else Err Length
last cipher_of inverse_of state true false = if length state.held == 0 then Ok [] else Err Length
last cipher_of inverse_of state false false = if length state.held == 0 then Ok [] else Err Length
