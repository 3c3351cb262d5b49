-- What ECB and CBC make of a text from a block on.
use Rattle.std.proofs.Common.{◌≡◌, ℕ, suc, ◌+◌, ◌*◌, ◌/◌, Bool, true, false, List, [], ◌∷◌, ◌++◌, length, take, drop, replicate, refl, sym, ap, ◌∙◌, arith, append_assoc, length-append, zero-add}
use Rattle.std.specs.List.{concat}
use Rattle.std.proofs.lemmas.List.{take_at, drop_at}
use Rattle.tags.specs.declared.plan.Plan.TheVariants.{Ecb, Cbc}
use Rattle.aes_core.specs.Cipher.{cipher, cipher_by, inverse_by, inverse_cipher}
use Rattle.aes_core.specs.State.{add_round_key, state_of}
use Rattle.block_modes.specs.Texts.{AreBlocks, pieces_of, blocks_of, xor_bytes}
use Rattle.block_modes.specs.Steps.{step_out, step_chain, through, chain_after}
use Rattle.block_modes.proofs.PieceLemmas.{length-text}
use Rattle.block_modes.proofs.RunLemmas.{through-append}
use Rattle.block_modes.proofs.StepLemmas.{raw_through}
use Rattle.cipher_ops.specs.Output.{first_block, raw}
use Rattle.cipher_ops.proofs.GivenLemmas.{served_raw}
use Rattle.whole_outputs.specs.Links.{plan_of}
use Rattle.whole_outputs.specs.declared.chained.Links.{Links}
use Rattle.whole_outputs.specs.declared.chained.Links.TheVariants.{Apart, Linked}

-- ---- blocks

pieces_joined : (bs : List (List ℕ)) (n : ℕ) (rest : List ℕ) → AreBlocks bs → pieces_of (length bs + n) (concat bs ++ rest) ≡ bs ++ pieces_of n rest
pieces_joined [] n rest h = ap (λ k. pieces_of k rest) (zero-add n)
pieces_joined (b ∷ bs) n rest h =
    let e : length (b ∷ bs) + n ≡ suc (length bs + n) = omega arith in
    ap (λ k. pieces_of k ((b ++ concat bs) ++ rest)) e
    ∙ ap (λ t. take 16 t ∷ pieces_of (length bs + n) (drop 16 t)) (append_assoc b (concat bs) rest)
    ∙ ap (λ t. t ∷ pieces_of (length bs + n) (drop 16 (b ++ (concat bs ++ rest)))) (take_at b (concat bs ++ rest) 16 h.0)
    ∙ ap (λ t. b ∷ pieces_of (length bs + n) t) (drop_at b (concat bs ++ rest) 16 h.0)
    ∙ ap (λ t. b ∷ t) (pieces_joined bs n rest h.1)

-- the whole blocks of a text behind some blocks
pub blocks_joined : (bs : List (List ℕ)) (rest : List ℕ) → AreBlocks bs → blocks_of (concat bs ++ rest) ≡ bs ++ blocks_of rest
blocks_joined bs rest h =
    let e : length (concat bs ++ rest) / 16 ≡ length bs + length rest / 16 = omega (arith, length-text bs rest h) in
    ap (λ n. pieces_of n (concat bs ++ rest)) e ∙ pieces_joined bs (length rest / 16) rest h

-- ---- how much comes out

-- a block of AES has 16 bytes
pub sealed_block : (key block : List ℕ) → length (cipher key block) ≡ 16
unfolding cipher cipher_by add_round_key state_of
sealed_block key block = refl

pub opened_block : (key block : List ℕ) → length (inverse_cipher key block) ≡ 16
unfolding inverse_cipher inverse_by add_round_key state_of
opened_block key block = refl

zip_few : (xs ys : List ℕ) → length xs ≡ length ys → length (xor_bytes xs ys) ≡ length xs
zip_few [] ys e = refl
zip_few (x ∷ xs) [] e = absurd (omega arith)
zip_few (x ∷ xs) (y ∷ ys) e = ap suc (zip_few xs ys (omega arith))

-- what comes out for a block that is chained to a block is a block, and the next one is chained to a block
out_block : (key : List ℕ) (links : Links) (seal padded : Bool) (chain block : List ℕ) → length chain ≡ 16 →
    length (step_out (cipher key) (inverse_cipher key) (plan_of links seal padded) chain block) ≡ 16
out_block key Apart true padded chain block h = sealed_block key block
out_block key Apart false padded chain block h = opened_block key block
out_block key Linked true padded chain block h = sealed_block key (xor_bytes block chain)
out_block key Linked false padded chain block h =
    zip_few (inverse_cipher key block) chain (opened_block key block ∙ sym h) ∙ opened_block key block

chain_block : (key : List ℕ) (links : Links) (seal padded : Bool) (chain block : List ℕ) → length chain ≡ 16 → length block ≡ 16 →
    length (step_chain (cipher key) (inverse_cipher key) (plan_of links seal padded) chain block) ≡ 16
chain_block key Apart true padded chain block h k = h
chain_block key Apart false padded chain block h k = h
chain_block key Linked true padded chain block h k = sealed_block key (xor_bytes block chain)
chain_block key Linked false padded chain block h k = k

pub length-through : (key : List ℕ) (links : Links) (seal padded : Bool) (chain : List ℕ) (bs : List (List ℕ)) → length chain ≡ 16 → AreBlocks bs →
    length (through (cipher key) (inverse_cipher key) (plan_of links seal padded) chain bs) ≡ 16 * length bs
length-through key links seal padded chain [] h each = refl
length-through key links seal padded chain (b ∷ bs) h each =
    let c = cipher key in
    let i = inverse_cipher key in
    let plan = plan_of links seal padded in
    let next : List ℕ = step_chain c i plan chain b in
    let rest = length-through key links seal padded next bs (chain_block key links seal padded chain b h each.0) each.1 in
    omega (arith, length-append (step_out c i plan chain b) (through c i plan next bs), out_block key links seal padded chain b h, rest)

pub length-chain_after : (key : List ℕ) (links : Links) (seal padded : Bool) (chain : List ℕ) (bs : List (List ℕ)) → length chain ≡ 16 → AreBlocks bs →
    length (chain_after (cipher key) (inverse_cipher key) (plan_of links seal padded) chain bs) ≡ 16
length-chain_after key links seal padded chain [] h each = h
length-chain_after key links seal padded chain (b ∷ bs) h each =
    length-chain_after key links seal padded (step_chain (cipher key) (inverse_cipher key) (plan_of links seal padded) chain b) bs (chain_block key links seal padded chain b h each.0) each.1

-- ---- the whole text

raw_is : (key nonce : List ℕ) (links : Links) (seal padded : Bool) (text : List ℕ) →
    raw (plan_of links seal padded) key nonce text ≡ through (cipher key) (inverse_cipher key) (plan_of links seal padded) (first_block (plan_of links seal padded) nonce) (blocks_of text)
raw_is key nonce Apart seal padded text = served_raw (Ecb seal padded) key nonce text refl ∙ raw_through (cipher key) (inverse_cipher key) (Ecb seal padded) (replicate 16 0) text refl
raw_is key nonce Linked seal padded text = served_raw (Cbc seal padded) key nonce text refl ∙ raw_through (cipher key) (inverse_cipher key) (Cbc seal padded) nonce text refl

-- what the mode makes of some blocks and what is behind them
pub raw_from : (key nonce : List ℕ) (links : Links) (seal padded : Bool) (bs : List (List ℕ)) (more : List ℕ) → AreBlocks bs →
    raw (plan_of links seal padded) key nonce (concat bs ++ more)
    ≡ through (cipher key) (inverse_cipher key) (plan_of links seal padded) (first_block (plan_of links seal padded) nonce) bs
    ++ through (cipher key) (inverse_cipher key) (plan_of links seal padded) (chain_after (cipher key) (inverse_cipher key) (plan_of links seal padded) (first_block (plan_of links seal padded) nonce) bs) (blocks_of more)
raw_from key nonce links seal padded bs more each =
    let c = cipher key in
    let i = inverse_cipher key in
    let plan = plan_of links seal padded in
    raw_is key nonce links seal padded (concat bs ++ more)
    ∙ ap (λ t. through c i plan (first_block plan nonce) t) (blocks_joined bs more each)
    ∙ through-append c i plan (first_block plan nonce) bs (blocks_of more)
