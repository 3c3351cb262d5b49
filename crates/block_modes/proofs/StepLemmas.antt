-- The modes of whole texts are their steps, one block after another.
use Rattle.std.proofs.Common.{◌≡◌, ℕ, Bool, true, false, cond, List, [], ◌∷◌, ◌++◌, refl, sym, ◌∙◌, ap, append_assoc, append-nil}
use Rattle.tags.specs.declared.plan.Plan.{Plan}
use Rattle.tags.specs.declared.plan.Plan.TheVariants.{Ecb, Cbc, Ctr, Gcm, HmacSign, HmacVerify}
use Rattle.block_modes.specs.Texts.{xor_bytes, blocks_of, all_pieces}
use Rattle.block_modes.specs.Modes.{ecb_blocks, cbc_blocks, cbc_open_blocks, ctr_pieces, next_counter, ecb, cbc, cbc_open, ctr}
use Rattle.block_modes.specs.Output.{is_served, raw}
use Rattle.block_modes.specs.Steps.{step_out, step_chain, through, chain_after, is_counter}

-- one block more
pub through-snoc : (c i : List ℕ → List ℕ) (plan : Plan) (chain : List ℕ) (bs : List (List ℕ)) (b : List ℕ) →
    through c i plan chain (bs ++ b ∷ []) ≡ through c i plan chain bs ++ step_out c i plan (chain_after c i plan chain bs) b
through-snoc c i plan chain [] b = append-nil (step_out c i plan chain b)
through-snoc c i plan chain (x ∷ bs) b =
    ap (λ t. step_out c i plan chain x ++ t) (through-snoc c i plan (step_chain c i plan chain x) bs b)
    ∙ sym (append_assoc (step_out c i plan chain x) (through c i plan (step_chain c i plan chain x) bs) (step_out c i plan (chain_after c i plan (step_chain c i plan chain x) bs) b))

pub chain_after-snoc : (c i : List ℕ → List ℕ) (plan : Plan) (chain : List ℕ) (bs : List (List ℕ)) (b : List ℕ) →
    chain_after c i plan chain (bs ++ b ∷ []) ≡ step_chain c i plan (chain_after c i plan chain bs) b
chain_after-snoc c i plan chain [] b = refl
chain_after-snoc c i plan chain (x ∷ bs) b = chain_after-snoc c i plan (step_chain c i plan chain x) bs b

ecb_through : (c i : List ℕ → List ℕ) (padded : Bool) (chain : List ℕ) (bs : List (List ℕ)) → ecb_blocks c bs ≡ through c i (Ecb true padded) chain bs
ecb_through c i padded chain [] = refl
ecb_through c i padded chain (b ∷ bs) = ap (λ t. c b ++ t) (ecb_through c i padded chain bs)

ecb_open_through : (c i : List ℕ → List ℕ) (padded : Bool) (chain : List ℕ) (bs : List (List ℕ)) → ecb_blocks i bs ≡ through c i (Ecb false padded) chain bs
ecb_open_through c i padded chain [] = refl
ecb_open_through c i padded chain (b ∷ bs) = ap (λ t. i b ++ t) (ecb_open_through c i padded chain bs)

cbc_through : (c i : List ℕ → List ℕ) (padded : Bool) (chain : List ℕ) (bs : List (List ℕ)) → cbc_blocks c chain bs ≡ through c i (Cbc true padded) chain bs
cbc_through c i padded chain [] = refl
cbc_through c i padded chain (b ∷ bs) = ap (λ t. c (xor_bytes b chain) ++ t) (cbc_through c i padded (c (xor_bytes b chain)) bs)

cbc_open_through : (c i : List ℕ → List ℕ) (padded : Bool) (chain : List ℕ) (bs : List (List ℕ)) → cbc_open_blocks i chain bs ≡ through c i (Cbc false padded) chain bs
cbc_open_through c i padded chain [] = refl
cbc_open_through c i padded chain (b ∷ bs) = ap (λ t. xor_bytes (i b) chain ++ t) (cbc_open_through c i padded b bs)

ctr_through : (c i : List ℕ → List ℕ) (chain : List ℕ) (bs : List (List ℕ)) → ctr_pieces c chain bs ≡ through c i Ctr chain bs
ctr_through c i chain [] = refl
ctr_through c i chain (b ∷ bs) = ap (λ t. xor_bytes b (c chain) ++ t) (ctr_through c i (next_counter chain) bs)

-- the pieces that a mode goes over
abbrev pub parts : Plan → List ℕ → List (List ℕ)
parts plan text = cond (is_counter plan) (all_pieces text) (blocks_of text)

pub raw_through : (c i : List ℕ → List ℕ) (plan : Plan) (nonce text : List ℕ) → is_served plan ≡ true → raw c i plan nonce text ≡ through c i plan nonce (parts plan text)
unfolding raw ecb cbc cbc_open ctr
raw_through c i (Ecb true padded) nonce text h = ecb_through c i padded nonce (blocks_of text)
raw_through c i (Ecb false padded) nonce text h = ecb_open_through c i padded nonce (blocks_of text)
raw_through c i (Cbc true padded) nonce text h = cbc_through c i padded nonce (blocks_of text)
raw_through c i (Cbc false padded) nonce text h = cbc_open_through c i padded nonce (blocks_of text)
raw_through c i Ctr nonce text h = ctr_through c i nonce (all_pieces text)
raw_through c i (Gcm seal tag) nonce text h = cc
raw_through c i (HmacSign digest size) nonce text h = cc
raw_through c i (HmacVerify digest least) nonce text h = cc
