-- A text of whole blocks and a rest, in pieces.
use Rattle.std.proofs.Common.{◌≡◌, ℕ, suc, ◌+◌, ◌*◌, ◌/◌, ◌<◌, ◌≤◌, List, [], ◌∷◌, ◌++◌, length, take, drop, refl, ◌∙◌, ap, arith, append_assoc, append-nil, length-append, zero-add}
use Rattle.std.specs.List.{concat}
use Rattle.std.proofs.lemmas.List.{take_at, drop_at, take_all}
use Rattle.block_modes.specs.Texts.{AreBlocks, pieces_of, blocks_of, all_pieces}

pub AreBlocks-snoc : (bs : List (List ℕ)) (b : List ℕ) → AreBlocks bs → length b ≡ 16 → AreBlocks (bs ++ b ∷ [])
AreBlocks-snoc [] b h full = (full, tt)
AreBlocks-snoc (x ∷ bs) b h full = (h.0, AreBlocks-snoc bs b h.1 full)

pub length-concat : (bs : List (List ℕ)) → AreBlocks bs → length (concat bs) ≡ 16 * length bs
length-concat [] h = refl
length-concat (b ∷ bs) h = omega (arith, length-append b (concat bs), h.0, length-concat bs h.1)

pieces_joined : (bs : List (List ℕ)) (n : ℕ) (rest : List ℕ) → AreBlocks bs → pieces_of (length bs + n) (concat bs ++ rest) ≡ bs ++ pieces_of n rest
pieces_joined [] n rest h = ap (λ k. pieces_of k rest) (zero-add n)
pieces_joined (b ∷ bs) n rest h =
    let e : length (b ∷ bs) + n ≡ suc (length bs + n) = omega arith in
    ap (λ k. pieces_of k ((b ++ concat bs) ++ rest)) e
    ∙ ap (λ t. take 16 t ∷ pieces_of (length bs + n) (drop 16 t)) (append_assoc b (concat bs) rest)
    ∙ ap (λ t. t ∷ pieces_of (length bs + n) (drop 16 (b ++ (concat bs ++ rest)))) (take_at b (concat bs ++ rest) 16 h.0)
    ∙ ap (λ t. b ∷ pieces_of (length bs + n) t) (drop_at b (concat bs ++ rest) 16 h.0)
    ∙ ap (λ t. b ∷ t) (pieces_joined bs n rest h.1)

pub length-text : (bs : List (List ℕ)) (rest : List ℕ) → AreBlocks bs → length (concat bs ++ rest) ≡ 16 * length bs + length rest
length-text bs rest h = length-append (concat bs) rest ∙ ap (λ n. n + length rest) (length-concat bs h)

-- a rest that is no block
pub blocks_short : (bs : List (List ℕ)) (rest : List ℕ) → AreBlocks bs → length rest < 16 → blocks_of (concat bs ++ rest) ≡ bs
blocks_short bs rest h short =
    let e : length (concat bs ++ rest) / 16 ≡ length bs + 0 = omega (arith, length-text bs rest h) in
    ap (λ n. pieces_of n (concat bs ++ rest)) e ∙ pieces_joined bs 0 rest h ∙ append-nil bs

-- a rest that is one block
pub blocks_full : (bs : List (List ℕ)) (rest : List ℕ) → AreBlocks bs → length rest ≡ 16 → blocks_of (concat bs ++ rest) ≡ bs ++ rest ∷ []
blocks_full bs rest h full =
    let e : length (concat bs ++ rest) / 16 ≡ length bs + 1 = omega (arith, length-text bs rest h) in
    let all : length rest ≤ 16 = omega arith in
    ap (λ n. pieces_of n (concat bs ++ rest)) e ∙ pieces_joined bs 1 rest h ∙ ap (λ t. bs ++ t ∷ []) (take_all 16 rest all)

-- no rest
pub pieces_none : (bs : List (List ℕ)) (rest : List ℕ) → AreBlocks bs → length rest ≡ 0 → all_pieces (concat bs ++ rest) ≡ bs
pieces_none bs rest h none =
    let e : (length (concat bs ++ rest) + 15) / 16 ≡ length bs + 0 = omega (arith, length-text bs rest h) in
    ap (λ n. pieces_of n (concat bs ++ rest)) e ∙ pieces_joined bs 0 rest h ∙ append-nil bs

-- a rest of at most one block
pub pieces_some : (bs : List (List ℕ)) (rest : List ℕ) → AreBlocks bs → 0 < length rest → length rest ≤ 16 → all_pieces (concat bs ++ rest) ≡ bs ++ rest ∷ []
pieces_some bs rest h some few =
    let e : (length (concat bs ++ rest) + 15) / 16 ≡ length bs + 1 = omega (arith, length-text bs rest h) in
    ap (λ n. pieces_of n (concat bs ++ rest)) e ∙ pieces_joined bs 1 rest h ∙ ap (λ t. bs ++ t ∷ []) (take_all 16 rest few)
