-- What is made of the bytes that are done, mode by mode, and of those behind them.
use Rattle.std.proofs.Common.{◌≡◌, ℕ, ◌+◌, ◌-◌, ◌*◌, ◌/◌, ◌%◌, ◌≤◌, Bool, true, false, List, [], ◌∷◌, ◌++◌, length, take, drop, Option, Result, Ok, Err, IfOk, MatchResult, refl, sym, ap, ◌∙◌, subst, arith, append-nil, length-append}
use Rattle.std.specs.List.{concat}
use Rattle.std.proofs.lemmas.List.{take_at, drop_at, take_all}
use Rattle.std.proofs.lemmas.List.Folds.{concat-append}
use Rattle.std.specs.Option.{ok_or}
use Rattle.tags.specs.declared.code.Code.{Code}
use Rattle.tags.specs.declared.code.Code.TheVariants.{VerificationFailed}
use Rattle.tags.specs.declared.plan.Plan.{Plan}
use Rattle.tags.specs.declared.plan.Plan.TheVariants.{Ctr, Gcm, HmacSign, HmacVerify}
use Rattle.aes_core.specs.Cipher.{cipher, inverse_cipher}
use Rattle.block_modes.specs.Texts.{AreBlocks, blocks_of}
use Rattle.block_modes.specs.Output as modes
use Rattle.block_modes.specs.Output.{whole_blocks}
use Rattle.block_modes.specs.Steps.{through, chain_after}
use Rattle.block_modes.proofs.PieceLemmas.{length-concat}
use Rattle.block_modes.proofs.RunLemmas.{chain_after-append, are_pieces, concat-pieces}
use Rattle.gcm_mode.specs.Bytewise.{xor_by}
use Rattle.gcm_mode.specs.Counter.{inc32}
use Rattle.gcm_mode.specs.Gcm as gcm
use Rattle.gcm_mode.proofs.KeyStream.{length-raw, length-xor_by}
use Rattle.hmac_core.specs.Hmac.{hmac}
use Rattle.cipher_ops.specs.Output.{first_block, raw, whole, behind, coded, verified}
use Rattle.whole_outputs.specs.Links.{plan_of}
use Rattle.whole_outputs.specs.Chains.{Chains, plan_in, made_from, after}
use Rattle.whole_outputs.specs.Sizes.{done_size, out_size}
use Rattle.whole_outputs.specs.Streams.{key_byte}
use Rattle.whole_outputs.specs.declared.chained.Chained.{Chained}
use Rattle.whole_outputs.specs.declared.chained.Links.{Links}
use Rattle.whole_outputs.specs.declared.chained.Links.TheVariants.{Apart, Linked}
use Rattle.whole_outputs.specs.declared.key_stream.Counting.TheVariants.{Whole, Last}
use Rattle.whole_outputs.specs.declared.mode.Mode.{Mode}
use Rattle.whole_outputs.specs.declared.mode.Mode.TheVariants.{Blocks, Counter, Seal, Open, Sign, Verify}
use Rattle.whole_outputs.specs.Modes.{ModeIs, MayEnd}
use Rattle.whole_outputs.proofs.FromABlock.{raw_from, length-through}
use Rattle.whole_outputs.proofs.EndOfBlocks.{GoesOn, blocks_end}
use Rattle.whole_outputs.proofs.KeyBytes.{ctr_is, xor_by_on}
use Rattle.whole_outputs.proofs.GcmLemmas.{raw_on}

-- ---- what a call answers

-- where it answers Ok
pub in_ok : {T E : Type 0} (result : Result T E) (P Q : T → Type 0) → ((x : T) → P x → Q x) → IfOk result P → IfOk result Q
in_ok (Ok x) P Q more h = more x h
in_ok (Err e) P Q more h = tt

-- what a text is after it, whichever it is
pub in_both : {T E : Type 0} (result : Result T E) (A B C D : Type 0) → (A → C) → (B → D) → MatchResult result (λ _. A) (λ _. B) → MatchResult result (λ _. C) (λ _. D)
in_both (Ok x) A B C D more same h = more h
in_both (Err e) A B C D more same h = same h

-- ---- ECB and CBC

AreBlocks-append : (a b : List (List ℕ)) → AreBlocks a → AreBlocks b → AreBlocks (a ++ b)
AreBlocks-append [] b p q = q
AreBlocks-append (x ∷ a) b p q = (p.0, AreBlocks-append a b p.1 q)

-- the bytes of whole blocks
blocks_whole : (part : List ℕ) → length part % 16 ≡ 0 → concat (blocks_of part) ≡ part
blocks_whole part whole = concat-pieces (length part / 16) part ∙ take_all (16 * (length part / 16)) part (omega (arith, whole))

-- what was made of the blocks that are done
abbrev given : (state : Chained) (plan : Plan) (key nonce done : List ℕ) → Chains state plan key nonce done → List ℕ
given state plan key nonce done chains = through (cipher key) (inverse_cipher key) plan (first_block plan nonce) chains.blocks

-- the words of a state are those of its key and plan
made_is : (state : Chained) (plan : Plan) (key nonce done : List ℕ) (chains : Chains state plan key nonce done) (more : List ℕ) →
    made_from state more ≡ through (cipher key) (inverse_cipher key) plan (chain_after (cipher key) (inverse_cipher key) plan (first_block plan nonce) chains.blocks) (blocks_of more)
made_is state plan key nonce done chains more =
    ap (λ (k : List ℕ). through (cipher k) (inverse_cipher k) (plan_in state) state.chain (blocks_of more)) chains.key_is
    ∙ ap (λ (p : Plan). through (cipher key) (inverse_cipher key) p state.chain (blocks_of more)) (sym chains.plan_is)
    ∙ ap (λ (b : List ℕ). through (cipher key) (inverse_cipher key) plan b (blocks_of more)) chains.chain_is

raw_more : (state : Chained) (plan : Plan) (key nonce done : List ℕ) (chains : Chains state plan key nonce done) (more : List ℕ) →
    raw plan key nonce (done ++ more) ≡ given state plan key nonce done chains ++ made_from state more
raw_more state plan key nonce done chains more =
    let P : Plan → Type 0 = λ p. raw p key nonce (concat chains.blocks ++ more) ≡ through (cipher key) (inverse_cipher key) p (first_block p nonce) chains.blocks
    ++ through (cipher key) (inverse_cipher key) p (chain_after (cipher key) (inverse_cipher key) p (first_block p nonce) chains.blocks) (blocks_of more) in
    ap (λ (l : List ℕ). raw plan key nonce (l ++ more)) chains.done_is
    ∙ subst P (sym chains.plan_is) (raw_from key nonce state.links state.seal state.padded chains.blocks more chains.each)
    ∙ ap (λ (l : List ℕ). given state plan key nonce done chains ++ l) (sym (made_is state plan key nonce done chains more))

size_of_given : (state : Chained) (plan : Plan) (key nonce done : List ℕ) (chains : Chains state plan key nonce done) → length (given state plan key nonce done chains) ≡ length done
size_of_given state plan key nonce done chains =
    let P : Plan → Type 0 = λ p. length (first_block p nonce) ≡ 16 → length (through (cipher key) (inverse_cipher key) p (first_block p nonce) chains.blocks) ≡ 16 * length chains.blocks in
    subst P (sym chains.plan_is) (λ h. length-through key state.links state.seal state.padded (first_block (plan_in state) nonce) chains.blocks h chains.each) chains.first_len
    ∙ sym (ap length chains.done_is ∙ length-concat chains.blocks chains.each)

raw_done : (state : Chained) (plan : Plan) (key nonce done : List ℕ) (chains : Chains state plan key nonce done) → raw plan key nonce done ≡ given state plan key nonce done chains
raw_done state plan key nonce done chains =
    ap (raw plan key nonce) (sym (append-nil done)) ∙ raw_more state plan key nonce done chains [] ∙ append-nil (given state plan key nonce done chains)

-- what comes out for some blocks more
pub blocks_made : (state : Chained) (plan : Plan) (key nonce done more out : List ℕ) → Chains state plan key nonce done → out ≡ made_from state more →
    raw plan key nonce done ++ out ≡ raw plan key nonce (done ++ more)
blocks_made state plan key nonce done more out chains is =
    ap (λ (l : List ℕ). l ++ out) (raw_done state plan key nonce done chains)
    ∙ ap (λ (l : List ℕ). given state plan key nonce done chains ++ l) is
    ∙ sym (raw_more state plan key nonce done chains more)

-- and the text behind them
pub blocks_passed : (state new : Chained) (plan : Plan) (key nonce done part : List ℕ) → Chains state plan key nonce done → length part % 16 ≡ 0 → new ≡ after state part →
    Chains new plan key nonce (done ++ part)
blocks_passed state new plan key nonce done part chains whole is =
    let c = cipher key in
    let i = inverse_cipher key in
    let first : List ℕ = first_block plan nonce in
    let chain : (after state part).chain ≡ chain_after c i plan first (chains.blocks ++ blocks_of part) =
    ap (λ (k : List ℕ). chain_after (cipher k) (inverse_cipher k) (plan_in state) state.chain (blocks_of part)) chains.key_is
    ∙ ap (λ (p : Plan). chain_after c i p state.chain (blocks_of part)) (sym chains.plan_is)
    ∙ ap (λ (b : List ℕ). chain_after c i plan b (blocks_of part)) chains.chain_is
    ∙ sym (chain_after-append c i plan first chains.blocks (blocks_of part)) in
    let P : Chained → Type 0 = λ s. Chains s plan key nonce (done ++ part) in
    subst P (sym is)
    (record {
      plan_is = chains.plan_is;
      key_is = chains.key_is;
      first_len = chains.first_len;
      blocks = chains.blocks ++ blocks_of part;
      each = AreBlocks-append chains.blocks (blocks_of part) chains.each (are_pieces (length part / 16) part (omega arith));
      done_is = ap (λ (l : List ℕ). l ++ part) chains.done_is ∙ ap (λ (l : List ℕ). concat chains.blocks ++ l) (sym (blocks_whole part whole)) ∙ sym (concat-append chains.blocks (blocks_of part));
      chain_is = chain;
    })

whole_is : (links : Links) (seal padded : Bool) (key nonce aad text : List ℕ) (signature : Option (List ℕ)) →
    whole (plan_of links seal padded) key nonce aad text signature ≡ coded (whole_blocks seal padded (raw (plan_of links seal padded) key nonce) text)
unfolding whole modes.whole raw
whole_is Apart seal padded key nonce aad text signature = refl
whole_is Linked seal padded key nonce aad text signature = refl

done_of : (links : Links) (seal padded : Bool) (count : ℕ) → done_size (plan_of links seal padded) count ≡ modes.blocks_out seal padded count
done_of Apart seal padded count = refl
done_of Linked seal padded count = refl

out_of : (links : Links) (seal padded : Bool) (count : ℕ) → out_size (plan_of links seal padded) count ≡ count
out_of Apart seal padded count = refl
out_of Linked seal padded count = refl

-- the bytes of whole blocks that are made
made_full : (state : Chained) (plan : Plan) (key nonce done : List ℕ) (chains : Chains state plan key nonce done) (more : List ℕ) → length more % 16 ≡ 0 → length (made_from state more) ≡ length more
made_full state plan key nonce done chains more whole =
    let all = blocks_passed state (after state more) plan key nonce done more chains whole refl in
    let size = size_of_given (after state more) plan key nonce (done ++ more) all in
    let joined : given state plan key nonce done chains ++ made_from state more ≡ given (after state more) plan key nonce (done ++ more) all =
    sym (raw_more state plan key nonce done chains more) ∙ raw_done (after state more) plan key nonce (done ++ more) all in
    omega (arith, size, ap length joined, length-append (given state plan key nonce done chains) (made_from state more), size_of_given state plan key nonce done chains, length-append done more)

done_whole : (state : Chained) (plan : Plan) (key nonce done : List ℕ) → Chains state plan key nonce done → length done % 16 ≡ 0
done_whole state plan key nonce done chains = omega (arith, ap length chains.done_is, length-concat chains.blocks chains.each)

-- the end of a text of blocks
pub blocks_ended : (state : Chained) (plan : Plan) (key nonce aad done rest : List ℕ) (signature : Option (List ℕ)) (output : Result (List ℕ) Code) → Chains state plan key nonce done →
    MayEnd plan (length done) (length rest) → output ≡ coded (whole_blocks state.seal state.padded (made_from state) rest) →
    output ≡ behind (out_size plan (length done)) (whole plan key nonce aad (done ++ rest) signature)
blocks_ended state plan key nonce aad done rest signature output chains may is =
    let made : List ℕ → List ℕ = raw plan key nonce in
    let goes : GoesOn made (made_from state) done (given state plan key nonce done chains) = record {
      joined = raw_more state plan key nonce done chains;
      size = size_of_given state plan key nonce done chains;
      whole = done_whole state plan key nonce done chains;
      full = made_full state plan key nonce done chains;
    } in
    let M : Plan → Type 0 = λ p. MayEnd p (length done) (length rest) in
    let may' : length done ≤ modes.blocks_out state.seal state.padded (length done + length rest) = omega (arith, subst M chains.plan_is may, done_of state.links state.seal state.padded (length done + length rest)) in
    let P : Plan → Type 0 = λ p. behind (length done) (coded (whole_blocks state.seal state.padded (raw p key nonce) (done ++ rest))) ≡ behind (out_size p (length done)) (whole p key nonce aad (done ++ rest) signature) in
    is ∙ sym (blocks_end state.seal state.padded made (made_from state) done (given state plan key nonce done chains) rest goes may')
    ∙ subst P (sym chains.plan_is)
    (ap (λ (n : ℕ). behind n (coded (whole_blocks state.seal state.padded (raw (plan_in state) key nonce) (done ++ rest)))) (sym (out_of state.links state.seal state.padded (length done)))
    ∙ ap (λ (r : Result (List ℕ) Code). behind (out_size (plan_in state) (length done)) r) (sym (whole_is state.links state.seal state.padded key nonce aad (done ++ rest) signature)))

-- ---- CTR

pub counted_made : (plan : Plan) (key nonce done more out : List ℕ) → plan ≡ Ctr → out ≡ xor_by (key_byte key Whole nonce) (length done) more →
    raw plan key nonce done ++ out ≡ raw plan key nonce (done ++ more)
counted_made plan key nonce done more out plan_is is =
    let P : Plan → Type 0 = λ p. raw p key nonce done ++ out ≡ raw p key nonce (done ++ more) in
    subst P (sym plan_is)
    (ap (λ (l : List ℕ). l ++ out) (ctr_is key nonce done) ∙ xor_by_on (key_byte key Whole nonce) done more out is ∙ sym (ctr_is key nonce (done ++ more)))

ctr_whole : (key nonce aad text : List ℕ) (signature : Option (List ℕ)) → whole Ctr key nonce aad text signature ≡ Ok (raw Ctr key nonce text)
unfolding whole modes.whole raw
ctr_whole key nonce aad text signature = refl

-- what stands behind the bytes that were made
behind_made : (front out whole_out : List ℕ) (n : ℕ) → front ++ out ≡ whole_out → length front ≡ n → Ok out ≡ behind n (Ok whole_out)
behind_made front out whole_out n joined size = ap (λ (l : List ℕ). Ok l) (sym (drop_at front out n size) ∙ ap (λ (l : List ℕ). drop n l) joined)

pub counted_ended : (plan : Plan) (key nonce aad done rest out : List ℕ) (signature : Option (List ℕ)) → plan ≡ Ctr → out ≡ xor_by (key_byte key Whole nonce) (length done) rest →
    Ok out ≡ behind (out_size plan (length done)) (whole plan key nonce aad (done ++ rest) signature)
counted_ended plan key nonce aad done rest out signature plan_is is =
    let P : Plan → Type 0 = λ p. Ok out ≡ behind (out_size p (length done)) (whole p key nonce aad (done ++ rest) signature) in
    let size : length (raw Ctr key nonce done) ≡ length done = ap length (ctr_is key nonce done) ∙ length-xor_by (key_byte key Whole nonce) 0 done in
    subst P (sym plan_is)
    (behind_made (raw Ctr key nonce done) out (raw Ctr key nonce (done ++ rest)) (length done) (counted_made Ctr key nonce done rest out refl is) size
    ∙ ap (λ (r : Result (List ℕ) Code). behind (length done) r) (sym (ctr_whole key nonce aad (done ++ rest) signature)))

-- ---- GCM

gcm_raw : (seal : Bool) (tag : ℕ) (key nonce text : List ℕ) → raw (Gcm seal tag) key nonce text ≡ gcm.raw (cipher key) nonce text
unfolding raw
gcm_raw seal tag key nonce text = refl

gcm_done : (seal : Bool) (tag count : ℕ) → out_size (Gcm seal tag) count ≡ count
gcm_done true tag count = refl
gcm_done false tag count = refl

-- the ciphertext, or the text, of the next bytes
pub gcm_made : (plan : Plan) (seal : Bool) (tag : ℕ) (key nonce done more out : List ℕ) → plan ≡ Gcm seal tag → gcm.raw (cipher key) nonce done ++ out ≡ gcm.raw (cipher key) nonce (done ++ more) →
    raw plan key nonce done ++ out ≡ raw plan key nonce (done ++ more)
gcm_made plan seal tag key nonce done more out plan_is joined =
    let P : Plan → Type 0 = λ p. raw p key nonce done ++ out ≡ raw p key nonce (done ++ more) in
    subst P (sym plan_is) (ap (λ (l : List ℕ). l ++ out) (gcm_raw seal tag key nonce done) ∙ joined ∙ sym (gcm_raw seal tag key nonce (done ++ more)))

sealed_whole : (tag : ℕ) (key nonce aad text : List ℕ) (signature : Option (List ℕ)) → whole (Gcm true tag) key nonce aad text signature ≡ Ok (gcm.gcm_seal (cipher key) nonce tag aad text)
unfolding whole
sealed_whole tag key nonce aad text signature = refl

opened_whole : (tag : ℕ) (key nonce aad text : List ℕ) (signature : Option (List ℕ)) → whole (Gcm false tag) key nonce aad text signature ≡ ok_or (gcm.gcm_open (cipher key) nonce tag aad text) VerificationFailed
unfolding whole
opened_whole tag key nonce aad text signature = refl

pub sealed_ended : (plan : Plan) (tag : ℕ) (key nonce aad done rest out : List ℕ) (signature : Option (List ℕ)) → plan ≡ Gcm true tag →
    out ≡ drop (length done) (gcm.gcm_seal (cipher key) nonce tag aad (done ++ rest)) → Ok out ≡ behind (out_size plan (length done)) (whole plan key nonce aad (done ++ rest) signature)
sealed_ended plan tag key nonce aad done rest out signature plan_is is =
    let P : Plan → Type 0 = λ p. Ok out ≡ behind (out_size p (length done)) (whole p key nonce aad (done ++ rest) signature) in
    subst P (sym plan_is)
    (ap (λ (l : List ℕ). Ok l) is ∙ ap (λ (r : Result (List ℕ) Code). behind (length done) r) (sym (sealed_whole tag key nonce aad (done ++ rest) signature)))

pub opened_ended : (plan : Plan) (tag : ℕ) (key nonce aad done rest : List ℕ) (signature : Option (List ℕ)) (output : Result (List ℕ) Code) → plan ≡ Gcm false tag →
    output ≡ behind (length done) (ok_or (gcm.gcm_open (cipher key) nonce tag aad (done ++ rest)) VerificationFailed) →
    output ≡ behind (out_size plan (length done)) (whole plan key nonce aad (done ++ rest) signature)
opened_ended plan tag key nonce aad done rest signature output plan_is is =
    let P : Plan → Type 0 = λ p. output ≡ behind (out_size p (length done)) (whole p key nonce aad (done ++ rest) signature) in
    subst P (sym plan_is) (is ∙ ap (λ (r : Result (List ℕ) Code). behind (length done) r) (sym (opened_whole tag key nonce aad (done ++ rest) signature)))

pub opened_may : (plan : Plan) (tag done rest : ℕ) → plan ≡ Gcm false tag → MayEnd plan done rest → done ≤ done + rest - tag
opened_may plan tag done rest plan_is may =
    let P : Plan → Type 0 = λ p. MayEnd p done rest in
    subst P plan_is may

-- ---- macs

-- a mac puts nothing out before its end
pub sign_made : (plan : Plan) (digest size : ℕ) (key nonce done more : List ℕ) → plan ≡ HmacSign digest size → raw plan key nonce done ++ [] ≡ raw plan key nonce (done ++ more)
unfolding raw
sign_made plan digest size key nonce done more plan_is =
    let P : Plan → Type 0 = λ p. raw p key nonce done ++ [] ≡ raw p key nonce (done ++ more) in
    subst P (sym plan_is) refl

pub verify_made : (plan : Plan) (digest least : ℕ) (key nonce done more : List ℕ) → plan ≡ HmacVerify digest least → raw plan key nonce done ++ [] ≡ raw plan key nonce (done ++ more)
unfolding raw
verify_made plan digest least key nonce done more plan_is =
    let P : Plan → Type 0 = λ p. raw p key nonce done ++ [] ≡ raw p key nonce (done ++ more) in
    subst P (sym plan_is) refl

pub sign_ended : (plan : Plan) (digest size : ℕ) (key nonce aad done rest out : List ℕ) (signature : Option (List ℕ)) → plan ≡ HmacSign digest size → out ≡ take size (hmac digest key (done ++ rest)) →
    Ok out ≡ behind (out_size plan (length done)) (whole plan key nonce aad (done ++ rest) signature)
unfolding whole
sign_ended plan digest size key nonce aad done rest out signature plan_is is =
    let P : Plan → Type 0 = λ p. Ok out ≡ behind (out_size p (length done)) (whole p key nonce aad (done ++ rest) signature) in
    subst P (sym plan_is) (ap (λ (l : List ℕ). Ok l) is)

behind_none : (output : Result (List ℕ) Code) → output ≡ behind 0 output
behind_none (Ok bytes) = refl
behind_none (Err code) = refl

pub verify_ended : (plan : Plan) (digest least : ℕ) (key nonce aad done rest : List ℕ) (signature : Option (List ℕ)) (output : Result (List ℕ) Code) → plan ≡ HmacVerify digest least →
    output ≡ verified digest least (hmac digest key (done ++ rest)) signature → output ≡ behind (out_size plan (length done)) (whole plan key nonce aad (done ++ rest) signature)
unfolding whole
verify_ended plan digest least key nonce aad done rest signature output plan_is is =
    let P : Plan → Type 0 = λ p. output ≡ behind (out_size p (length done)) (whole p key nonce aad (done ++ rest) signature) in
    subst P (sym plan_is) (is ∙ behind_none (verified digest least (hmac digest key (done ++ rest)) signature))

-- ---- the front of what is made

-- What is made of the bytes that are done, whatever comes behind them.
pub record Front (plan : Plan) (key nonce done : List ℕ) : Type 0 where
  pub size : length (raw plan key nonce done) ≡ out_size plan (length done)
  pub front : (more : List ℕ) → take (out_size plan (length done)) (raw plan key nonce (done ++ more)) ≡ raw plan key nonce done

front_by : (plan : Plan) (key nonce done : List ℕ) (made : List ℕ → List ℕ) → length (raw plan key nonce done) ≡ out_size plan (length done) →
    ((more : List ℕ) → raw plan key nonce done ++ made more ≡ raw plan key nonce (done ++ more)) → Front plan key nonce done
front_by plan key nonce done made size joined = record {
  size = size;
  front = λ more. ap (take (out_size plan (length done))) (sym (joined more)) ∙ take_at (raw plan key nonce done) (made more) (out_size plan (length done)) size;
}

blocks_front : (state : Chained) (plan : Plan) (key nonce done : List ℕ) → Chains state plan key nonce done → Front plan key nonce done
blocks_front state plan key nonce done chains =
    let P : Plan → Type 0 = λ p. length done ≡ out_size p (length done) in
    let size : length done ≡ out_size plan (length done) = subst P (sym chains.plan_is) (sym (out_of state.links state.seal state.padded (length done))) in
    front_by plan key nonce done (made_from state) (ap length (raw_done state plan key nonce done chains) ∙ size_of_given state plan key nonce done chains ∙ size)
    (λ more. blocks_made state plan key nonce done more (made_from state more) chains refl)

counted_front : (plan : Plan) (key nonce done : List ℕ) → plan ≡ Ctr → Front plan key nonce done
counted_front plan key nonce done plan_is =
    let P : Plan → Type 0 = λ p. Front p key nonce done in
    subst P (sym plan_is)
    (front_by Ctr key nonce done (xor_by (key_byte key Whole nonce) (length done)) (ap length (ctr_is key nonce done) ∙ length-xor_by (key_byte key Whole nonce) 0 done)
    (λ more. counted_made Ctr key nonce done more (xor_by (key_byte key Whole nonce) (length done) more) refl refl))

gcm_front : (plan : Plan) (seal : Bool) (tag : ℕ) (key nonce done : List ℕ) → length nonce ≡ 12 → plan ≡ Gcm seal tag → Front plan key nonce done
gcm_front plan seal tag key nonce done len plan_is =
    let P : Plan → Type 0 = λ p. Front p key nonce done in
    let f : List ℕ → List ℕ = xor_by (key_byte key Last (inc32 (gcm.pre_counter nonce))) (length done) in
    subst P (sym plan_is)
    (front_by (Gcm seal tag) key nonce done f (ap length (gcm_raw seal tag key nonce done) ∙ length-raw (cipher key) nonce done len ∙ sym (gcm_done seal tag (length done)))
    (λ more. gcm_made (Gcm seal tag) seal tag key nonce done more (f more) refl (raw_on key nonce done more (f more) len refl)))

sign_front : (plan : Plan) (digest size : ℕ) (key nonce done : List ℕ) → plan ≡ HmacSign digest size → Front plan key nonce done
unfolding raw
sign_front plan digest size key nonce done plan_is =
    let P : Plan → Type 0 = λ p. Front p key nonce done in
    subst P (sym plan_is) (record { size = refl; front = λ more. refl })

verify_front : (plan : Plan) (digest least : ℕ) (key nonce done : List ℕ) → plan ≡ HmacVerify digest least → Front plan key nonce done
unfolding raw
verify_front plan digest least key nonce done plan_is =
    let P : Plan → Type 0 = λ p. Front p key nonce done in
    subst P (sym plan_is) (record { size = refl; front = λ more. refl })

pub front_of : (mode : Mode) (plan : Plan) (key nonce aad done : List ℕ) → ModeIs mode plan key nonce aad done → Front plan key nonce done
front_of (Blocks chained) plan key nonce aad done is = blocks_front chained plan key nonce done is
front_of (Counter stream) plan key nonce aad done is = counted_front plan key nonce done is.0
front_of (Seal text) plan key nonce aad done is = gcm_front plan true text.tag key nonce done is.1.nonce_len is.0
front_of (Open text) plan key nonce aad done is = gcm_front plan false text.tag key nonce done is.1.nonce_len is.0
front_of (Sign mac size) plan key nonce aad done is = sign_front plan is.digest size key nonce done is.plan_is
front_of (Verify mac least) plan key nonce aad done is = verify_front plan is.digest least key nonce done is.plan_is
