-- Many blocks that go through while none is held.
use Rattle.std.proofs.Common.{◌≡◌, ℕ, zero, suc, ◌+◌, ◌*◌, ◌≤◌, List, [], ◌∷◌, ◌++◌, length, take, drop, refl, sym, ◌∙◌, ap, subst, arith, append_assoc, append-nil, length-append, length-drop}
use Rattle.std.specs.List.{concat}
use Rattle.std.specs.Simd.{first_chunks}
use Rattle.std.proofs.lemmas.List.{length-take-le}
use Rattle.std.proofs.lemmas.List.Folds.{concat-append}
use Rattle.std.proofs.Math.Seq.{take-add}
use Rattle.tags.specs.declared.plan.Plan.{Plan}
use Rattle.block_modes.specs.declared.engine.Blocks.{Blocks}
use Rattle.block_modes.specs.Texts.{AreBlocks, pieces_of}
use Rattle.block_modes.specs.Steps.{step_out, step_chain, through, chain_after}
use Rattle.block_modes.specs.Holds.{Going, after_blocks, outs_of}

pub through-append : (c i : List ℕ → List ℕ) (plan : Plan) (chain : List ℕ) (a b : List (List ℕ)) →
    through c i plan chain (a ++ b) ≡ through c i plan chain a ++ through c i plan (chain_after c i plan chain a) b
through-append c i plan chain [] b = refl
through-append c i plan chain (x ∷ a) b =
    ap (λ t. step_out c i plan chain x ++ t) (through-append c i plan (step_chain c i plan chain x) a b)
    ∙ sym (append_assoc (step_out c i plan chain x) (through c i plan (step_chain c i plan chain x) a) (through c i plan (chain_after c i plan (step_chain c i plan chain x) a) b))

pub chain_after-append : (c i : List ℕ → List ℕ) (plan : Plan) (chain : List ℕ) (a b : List (List ℕ)) →
    chain_after c i plan chain (a ++ b) ≡ chain_after c i plan (chain_after c i plan chain a) b
chain_after-append c i plan chain [] b = refl
chain_after-append c i plan chain (x ∷ a) b = chain_after-append c i plan (step_chain c i plan chain x) a b

AreBlocks-append : (a b : List (List ℕ)) → AreBlocks a → AreBlocks b → AreBlocks (a ++ b)
AreBlocks-append [] b p q = q
AreBlocks-append (x ∷ a) b p q = (p.0, AreBlocks-append a b p.1 q)

-- ---- the pieces of an input

pub are_pieces : (n : ℕ) (xs : List ℕ) → 16 * n ≤ length xs → AreBlocks (pieces_of n xs)
are_pieces zero xs h = tt
are_pieces (suc n) xs h = (length-take-le 16 xs (omega arith), are_pieces n (drop 16 xs) (omega (arith, length-drop 16 xs)))

pub concat-pieces : (n : ℕ) (xs : List ℕ) → concat (pieces_of n xs) ≡ take (16 * n) xs
concat-pieces zero xs = refl
concat-pieces (suc n) xs =
    let e : 16 * suc n ≡ 16 + 16 * n = omega arith in
    ap (λ t. take 16 xs ++ t) (concat-pieces n (drop 16 xs)) ∙ sym (take-add 16 (16 * n) xs) ∙ ap (λ k. take k xs) (sym e)

pub chunks_front : (n m : ℕ) (xs : List ℕ) → n ≤ m → take n (first_chunks 16 m xs) ≡ pieces_of n xs
chunks_front zero m xs h = refl
chunks_front (suc n) zero xs h = absurd (omega arith)
chunks_front (suc n) (suc m) xs h = ap (λ t. take 16 xs ∷ t) (chunks_front n m (drop 16 xs) (omega arith))

-- ---- one group, and one group more

-- how much was put
pub put_size : (r a n : ℕ) (new old more : List ℕ) → take r new ≡ take a old ++ more → a ≤ length old → r ≤ length new → r ≡ a + n → length more ≡ n
put_size r a n new old more e h k s = omega (arith, ap length e, length-append (take a old) more, length-take-le a old h, length-take-le r new k)

pub after_more : {C : Type 0} (cipher_of inverse_of : C → List ℕ → List ℕ) (s t n : Blocks C) (a b : List (List ℕ)) →
    t ≡ after_blocks cipher_of inverse_of s a → n ≡ after_blocks cipher_of inverse_of t b → n ≡ after_blocks cipher_of inverse_of s (a ++ b)
after_more cipher_of inverse_of s t n a b is_t is_n =
    is_n
    ∙ ap (λ u. after_blocks cipher_of inverse_of u b) is_t
    ∙ ap (λ chain. record s { chain = chain }) (sym (chain_after-append (cipher_of s.cipher) (inverse_of s.cipher) s.plan s.chain a b))

pub outs_more : {C : Type 0} (cipher_of inverse_of : C → List ℕ → List ℕ) (s t : Blocks C) (a b : List (List ℕ)) (front first made : List ℕ) →
    t ≡ after_blocks cipher_of inverse_of s a → first ≡ front ++ outs_of cipher_of inverse_of s a → made ≡ first ++ outs_of cipher_of inverse_of t b →
    made ≡ front ++ outs_of cipher_of inverse_of s (a ++ b)
outs_more cipher_of inverse_of s t a b front first made is_t is_first is_made =
    is_made
    ∙ ap (λ u. first ++ outs_of cipher_of inverse_of u b) is_t
    ∙ ap (λ u. u ++ outs_of cipher_of inverse_of (after_blocks cipher_of inverse_of s a) b) is_first
    ∙ append_assoc front (outs_of cipher_of inverse_of s a) (outs_of cipher_of inverse_of (after_blocks cipher_of inverse_of s a) b)
    ∙ ap (λ u. front ++ u) (sym (through-append (cipher_of s.cipher) (inverse_of s.cipher) s.plan s.chain a b))

-- ---- the engine

all_are : {C : Type 0} (cipher_of inverse_of : C → List ℕ → List ℕ) (s : Blocks C) (c i : List ℕ → List ℕ) (plan : Plan) (bs : List (List ℕ)) →
    s.plan ≡ plan → cipher_of s.cipher ≡ c → inverse_of s.cipher ≡ i → outs_of cipher_of inverse_of s bs ≡ through c i plan s.chain bs
all_are cipher_of inverse_of s c i plan bs p q r =
    ap (λ f. through f (inverse_of s.cipher) s.plan s.chain bs) q
    ∙ ap (λ f. through c f s.plan s.chain bs) r
    ∙ ap (λ f. through c i f s.chain bs) p

chain_is : {C : Type 0} (cipher_of inverse_of : C → List ℕ → List ℕ) (s : Blocks C) (c i : List ℕ → List ℕ) (plan : Plan) (bs : List (List ℕ)) →
    s.plan ≡ plan → cipher_of s.cipher ≡ c → inverse_of s.cipher ≡ i → (after_blocks cipher_of inverse_of s bs).chain ≡ chain_after c i plan s.chain bs
chain_is cipher_of inverse_of s c i plan bs p q r =
    ap (λ f. chain_after f (inverse_of s.cipher) s.plan s.chain bs) q
    ∙ ap (λ f. chain_after c f s.plan s.chain bs) r
    ∙ ap (λ f. chain_after c i f s.chain bs) p

-- blocks went through while none was held
pub going_run : {C : Type 0} (cipher_of inverse_of : C → List ℕ → List ℕ) (s : Blocks C) (c i : List ℕ → List ℕ) (plan : Plan) (nonce text given piece : List ℕ) (bs : List (List ℕ)) →
    Going cipher_of inverse_of s c i plan nonce text 0 given → s.held ≡ [] → AreBlocks bs → concat bs ≡ piece → length (outs_of cipher_of inverse_of s bs) ≡ 16 * length bs →
    Going cipher_of inverse_of (after_blocks cipher_of inverse_of s bs) c i plan nonce (text ++ piece) 0 (given ++ outs_of cipher_of inverse_of s bs)
going_run cipher_of inverse_of s c i plan nonce text given piece bs g none each joined size = record {
  blocks = g.blocks ++ bs;
  served = g.served;
  plan_is = g.plan_is;
  cipher_is = g.cipher_is;
  inverse_is = g.inverse_is;
  each = AreBlocks-append g.blocks bs g.each each;
  text_is =
      ap (λ t. t ++ piece) (g.text_is ∙ ap (λ t. concat g.blocks ++ t) none ∙ append-nil (concat g.blocks))
      ∙ ap (λ t. concat g.blocks ++ t) (sym joined)
      ∙ sym (concat-append g.blocks bs)
      ∙ sym (append-nil (concat (g.blocks ++ bs)))
      ∙ ap (λ t. concat (g.blocks ++ bs) ++ t) (sym none);
  chain_is =
      chain_is cipher_of inverse_of s c i plan bs g.plan_is g.cipher_is g.inverse_is
      ∙ ap (λ t. chain_after c i plan t bs) g.chain_is
      ∙ sym (chain_after-append c i plan nonce g.blocks bs);
  no_skip = λ _. refl;
  given_is =
      ap (λ t. t ++ outs_of cipher_of inverse_of s bs) (g.given_is ∙ append-nil (through c i plan nonce g.blocks))
      ∙ ap (λ t. through c i plan nonce g.blocks ++ t) (all_are cipher_of inverse_of s c i plan bs g.plan_is g.cipher_is g.inverse_is)
      ∙ ap (λ t. through c i plan nonce g.blocks ++ through c i plan t bs) g.chain_is
      ∙ sym (through-append c i plan nonce g.blocks bs)
      ∙ sym (append-nil (through c i plan nonce (g.blocks ++ bs)));
  count = omega (arith, length-append given (outs_of cipher_of inverse_of s bs), g.count, length-append g.blocks bs, size);
}

-- the blocks of an input went through
pub going_on : {C : Type 0} (cipher_of inverse_of : C → List ℕ → List ℕ) (s n : Blocks C) (c i : List ℕ → List ℕ) (plan : Plan) (nonce text before input old new : List ℕ) (bs : List (List ℕ)) (count part at end : ℕ) →
    Going cipher_of inverse_of s c i plan nonce text part (before ++ take at old) → part ≤ length s.held → length s.held ≡ 0 → s.held ≡ [] →
    bs ≡ pieces_of count input → length bs ≡ count → 16 * count ≤ length input →
    n ≡ after_blocks cipher_of inverse_of s bs → take end new ≡ take at old ++ outs_of cipher_of inverse_of s bs →
    at ≤ length old → end ≤ length new → end ≡ at + 16 * length bs →
    Going cipher_of inverse_of n c i plan nonce (text ++ take (16 * count) input) 0 (before ++ take end new)
going_on {C = C} cipher_of inverse_of s n c i plan nonce text before input old new bs count part at end g few none empty is size fits is_n front room within is_end =
    let no_part : part ≡ 0 = omega arith in
    let each : AreBlocks bs = rw is (are_pieces count input fits) in
    let joined : concat bs ≡ take (16 * count) input = ap concat is ∙ concat-pieces count input in
    let long : length (outs_of cipher_of inverse_of s bs) ≡ 16 * length bs = put_size end at (16 * length bs) new old (outs_of cipher_of inverse_of s bs) front room within is_end in
    let Q : ℕ → Type 0 = λ k. Going cipher_of inverse_of s c i plan nonce text k (before ++ take at old) in
    let P : Blocks C → Type 0 = λ t. Going cipher_of inverse_of t c i plan nonce (text ++ take (16 * count) input) 0 (before ++ take end new) in
    let R : List ℕ → Type 0 = λ t. Going cipher_of inverse_of (after_blocks cipher_of inverse_of s bs) c i plan nonce (text ++ take (16 * count) input) 0 t in
    subst P (sym is_n)
    (subst R (append_assoc before (take at old) (outs_of cipher_of inverse_of s bs) ∙ ap (λ t. before ++ t) (sym front))
    (going_run cipher_of inverse_of s c i plan nonce text (before ++ take at old) (take (16 * count) input) bs (subst Q no_part g) empty each joined long))

-- no block went through
pub going_stay : {C : Type 0} (cipher_of inverse_of : C → List ℕ → List ℕ) (s : Blocks C) (c i : List ℕ → List ℕ) (plan : Plan) (nonce text given : List ℕ) (part : ℕ) →
    Going cipher_of inverse_of s c i plan nonce text part given → Going cipher_of inverse_of s c i plan nonce (text ++ []) part given
going_stay cipher_of inverse_of s c i plan nonce text given part g =
    let P : List ℕ → Type 0 = λ t. Going cipher_of inverse_of s c i plan nonce t part given in
    subst P (sym (append-nil text)) g
