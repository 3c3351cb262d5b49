-- How the blocks of a string follow it as it grows.
use Rattle.std.proofs.Common.{◌≡◌, ℕ, zero, suc, ◌+◌, ◌-◌, ◌*◌, ◌/◌, ◌%◌, ◌≤◌, List, [], ◌∷◌, ◌++◌, length, take, drop, replicate, refl, sym, ap, ◌∙◌, arith, add-one, length-append, length-drop}
use Rattle.std.proofs.lemmas.List.{take-append-le, drop-append-le, drop-drop, append_assoc, length-replicate, length-take-le, take-append-drop}
use Rattle.std.specs.Simd.{first_chunks}
use Rattle.gcm_mode.specs.Blocks.{first_blocks, blocks_of, padded}

-- the blocks that are counted do not change with what comes behind them
pub first_blocks-append : (n : ℕ) (xs ys : List ℕ) → n * 16 ≤ length xs → first_blocks n (xs ++ ys) ≡ first_blocks n xs
unfolding first_blocks
first_blocks-append zero xs ys h = refl
first_blocks-append (suc n) xs ys h =
    let rest : n * 16 ≤ length (drop 16 xs) = omega (arith, length-drop 16 xs) in
    rw (take-append-le 16 xs ys (omega arith), drop-append-le 16 xs ys (omega arith), first_blocks-append n (drop 16 xs) ys rest) refl

-- one block more
pub first_blocks_more : (n : ℕ) (xs : List ℕ) → first_blocks (n + 1) xs ≡ first_blocks n xs ++ take 16 (drop (n * 16) xs) ∷ []
unfolding first_blocks
first_blocks_more zero xs = refl
first_blocks_more (suc n) xs =
    let next : first_blocks (n + 1) (drop 16 xs) ≡ first_blocks n (drop 16 xs) ++ take 16 (drop (n * 16) (drop 16 xs)) ∷ [] = first_blocks_more n (drop 16 xs) in
    let moved : drop (n * 16) (drop 16 xs) ≡ drop (suc n * 16) xs = drop-drop (n * 16) 16 xs ∙ ap (λ (k : ℕ). drop k xs) (omega arith) in
    let rest : first_blocks (suc n) (drop 16 xs) ≡ first_blocks n (drop 16 xs) ++ take 16 (drop (suc n * 16) xs) ∷ [] =
    sym (ap (λ (m : ℕ). first_blocks m (drop 16 xs)) (add-one n)) ∙ next ∙ ap (λ (l : List ℕ). first_blocks n (drop 16 xs) ++ take 16 l ∷ []) moved in
    ap (λ (m : ℕ). first_blocks m xs) (add-one (suc n)) ∙ ap (λ (l : List (List ℕ)). take 16 xs ∷ l) rest

pub first_blocks_none : (xs : List ℕ) → first_blocks 0 xs ≡ []
unfolding first_blocks
first_blocks_none xs = refl

-- a string of whole blocks
pub blocks_of_whole : (xs : List ℕ) → length xs % 16 ≡ 0 → blocks_of xs ≡ first_blocks (length xs / 16) xs
blocks_of_whole xs h = ap (λ (n : ℕ). first_blocks n xs) (omega arith)

-- a padded string has whole blocks
pub length-padded : (xs : List ℕ) → length (padded xs) % 16 ≡ 0
length-padded xs =
    let n : ℕ = (16 - length xs % 16) % 16 in
    omega (arith, length-append xs (replicate n 0), length-replicate {A = ℕ} n 0)

-- a string behind whole blocks is padded as it would be alone
pub padded-append : (xs ys : List ℕ) → length xs % 16 ≡ 0 → padded (xs ++ ys) ≡ xs ++ padded ys
padded-append xs ys h =
    let same : length (xs ++ ys) % 16 ≡ length ys % 16 = omega (arith, length-append xs ys) in
    rw (same, append_assoc) refl

-- whole blocks, and the blocks behind them
pub first_blocks-add : (q m : ℕ) (xs ys : List ℕ) → length xs ≡ q * 16 → first_blocks (q + m) (xs ++ ys) ≡ first_blocks q xs ++ first_blocks m ys
unfolding first_blocks
first_blocks-add zero m [] ys h = ap (λ (k : ℕ). first_blocks k ys) (omega arith)
first_blocks-add zero m (x ∷ xs) ys h = absurd (omega arith)
first_blocks-add (suc q) m xs ys h =
    let next : suc q + m ≡ suc (q + m) = omega arith in
    let rest : length (drop 16 xs) ≡ q * 16 = omega (arith, length-drop 16 xs) in
    ap (λ (k : ℕ). first_blocks k (xs ++ ys)) next
    ∙ rw (take-append-le 16 xs ys (omega arith), drop-append-le 16 xs ys (omega arith), first_blocks-add q m (drop 16 xs) ys rest) refl

-- the blocks of the front of a string that they make
pub first_blocks-take : (m : ℕ) (xs : List ℕ) → m * 16 ≤ length xs → first_blocks m (take (m * 16) xs) ≡ first_blocks m xs
first_blocks-take m xs h =
    sym (first_blocks-append m (take (m * 16) xs) (drop (m * 16) xs) (omega (arith, length-take-le (m * 16) xs h)))
    ∙ ap (λ (l : List ℕ). first_blocks m l) (take-append-drop (m * 16) xs)

pub first_chunks_are : (m : ℕ) (xs : List ℕ) → first_chunks 16 m xs ≡ first_blocks m xs
unfolding first_blocks
first_chunks_are zero xs = refl
first_chunks_are (suc m) xs = ap (λ (l : List (List ℕ)). take 16 xs ∷ l) (first_chunks_are m (drop 16 xs))
