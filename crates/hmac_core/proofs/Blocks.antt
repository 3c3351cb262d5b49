-- A key at the front of a block of zeros.
use Rattle.std.proofs.Common.{◌≡◌, ℕ, ◌+◌, ◌-◌, ◌≤◌, ◌<◌, List, ◌++◌, length, take, drop, set, get_or, replicate, map, bit_xor, cond, ap, sym, ◌∙◌, arith}
use Rattle.std.proofs.lemmas.Bool.{le-leb, lt-leb}
use Rattle.std.proofs.lemmas.List.{take-map, drop-replicate, take-replicate, length-take, length-map, length-append, length-drop, get_or_default}
use Rattle.std.proofs.lemmas.List.Edits.{map_over_more}
use Rattle.std.proofs.Math.Seq.{take-append-add}
use Rattle.hmac_core.specs.Hmac.{zero_padded, block_key}

-- what is written at the front of 128 zeros, as far as a block
pub take-padded : (block : ℕ) (bytes : List ℕ) → length bytes ≤ block → block ≤ 128 → take block (bytes ++ drop (length bytes) (replicate 128 0)) ≡ zero_padded block bytes
take-padded block bytes le small =
    let zeros : List ℕ = replicate (128 - length bytes) 0 in
    let more : ℕ = block - length bytes in
    let sum : block ≡ length bytes + more = omega (arith, le) in
    let behind : drop (length bytes) (replicate 128 0) ≡ zeros = drop-replicate (length bytes) 128 0 in
    ap (λ z. take block (bytes ++ z)) behind
    ∙ ap (λ n. take n (bytes ++ zeros)) sum
    ∙ take-append-add bytes zeros more
    ∙ ap (λ z. bytes ++ z) (take-replicate more (128 - length bytes) 0 (omega (arith, le, small)))

-- a key that fits a block
pub short_key : (hash : List ℕ → List ℕ) (block : ℕ) (key out : List ℕ) → length key ≤ block → block ≤ 128 → out ≡ key ++ drop (length key) (replicate 128 0) → take block out ≡ block_key hash block key
short_key hash block key out le small is =
    ap (λ z. take block z) is
    ∙ take-padded block key le small
    ∙ sym (ap (λ b. cond b (zero_padded block key) (zero_padded block (hash key))) (le-leb (length key) block le))

-- a longer key, by its digest
pub long_key : (hash : List ℕ → List ℕ) (block size : ℕ) (key digest out : List ℕ) → block < length key → 64 ≤ block → block ≤ 128 → size ≤ 64 → take size digest ≡ hash key → out ≡ take size digest ++ drop (length (take size digest)) (replicate 128 0) → take block out ≡ block_key hash block key
long_key hash block size key digest out lt wide small short is_hash is =
    let bytes : List ℕ = take size digest in
    ap (λ z. take block z) is
    ∙ take-padded block bytes (omega (arith, length-take size digest, wide, short)) small
    ∙ ap (λ z. zero_padded block z) is_hash
    ∙ sym (ap (λ b. cond b (zero_padded block key) (zero_padded block (hash key))) (lt-leb (length key) block lt))

-- a masked key, as far as a block
pub take-masked : (hash : List ℕ → List ℕ) (block mask : ℕ) (key bytes masked : List ℕ) → take block bytes ≡ block_key hash block key → masked ≡ map (λ b. bit_xor b mask) bytes → take block masked ≡ map (λ b. bit_xor b mask) (block_key hash block key)
take-masked hash block mask key bytes masked is_key is_masked =
    ap (λ m. take block m) is_masked
    ∙ take-map (λ b. bit_xor b mask) block bytes
    ∙ ap (λ m. map (λ b. bit_xor b mask) m) is_key

-- the step of a loop that masks each byte in place
pub masked_more : (mask i : ℕ) (block bytes : List ℕ) → i < 128 → length block ≡ 128 → bytes ≡ map (λ b. bit_xor b mask) (take i block) ++ drop i block → set bytes i (bit_xor (get_or bytes i 0) mask) ≡ map (λ b. bit_xor b mask) (take (i + 1) block) ++ drop (i + 1) block
masked_more mask i block bytes within whole so_far =
    let front : List ℕ = map (λ b. bit_xor b mask) (take i block) in
    let long : length bytes ≡ length front + length (drop i block) = ap (λ z. length z) so_far ∙ length-append front (drop i block) in
    let front_long : length front ≡ length (take i block) = length-map (take i block) (λ b. bit_xor b mask) in
    let inside : i < length bytes = omega (arith, within, whole, long, front_long, length-take i block, length-drop i block) in
    map_over_more (λ b. bit_xor b mask) block bytes i (get_or bytes i 0) (omega (arith, within, whole)) so_far (get_or_default bytes i 0 (get_or bytes i 0) inside)
