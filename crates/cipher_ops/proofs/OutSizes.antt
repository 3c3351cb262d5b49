-- How many bytes an update and a finish give at most, plan by plan.
use Rattle.std.proofs.Common.{◌≡◌, ℕ, zero, suc, ◌+◌, ◌-◌, ◌*◌, ◌/◌, ◌%◌, ◌≤◌, ◌==◌, Bool, true, false, not, ◌&&◌, if◌then◌else◌, List, [], ◌∷◌, length, take, drop, replicate, Option, Some, None, Result, Ok, Err, refl, arith, length-append, length-take, length-drop}
use Rattle.std.proofs.lemmas.List.{length-replicate}
use Rattle.std.specs.Prelude.{IfOk, IfSome, nat_lt, slice_index}
use Rattle.std.specs.Option.{ok_or}
use Rattle.std.specs.Str.{bytes_eq}
use Rattle.tags.specs.declared.code.Code.{Code}
use Rattle.tags.specs.declared.code.Code.TheVariants.{VerificationFailed}
use Rattle.tags.specs.declared.plan.Plan.{Plan}
use Rattle.tags.specs.declared.plan.Plan.TheVariants.{Ecb, Cbc, Ctr, Gcm, HmacSign, HmacVerify}
use Rattle.tags.specs.Plan.{is_whole}
use Rattle.aes_core.specs.Cipher.{cipher, cipher_by, inverse_by, inverse_cipher}
use Rattle.aes_core.specs.State.{add_round_key, state_of}
use Rattle.block_modes.specs.declared.fault.ModeFault.TheVariants.{Length, Padding}
use Rattle.block_modes.specs.Modes.{cbc, cbc_blocks, cbc_open, cbc_open_blocks, ctr, ctr_pieces, ecb, ecb_blocks, next_counter}
use Rattle.block_modes.specs.Output as modes
use Rattle.block_modes.specs.Padding.{is_padding, pad, padding_size, unpad, unpad_by}
use Rattle.block_modes.specs.Texts.{pieces_of, xor_bytes}
use Rattle.ghash.specs.Field.{block_of}
use Rattle.ghash.specs.Hash.{ghash}
use Rattle.gcm_mode.specs.Blocks as gcm_blocks
use Rattle.gcm_mode.specs.Counter as counter
use Rattle.gcm_mode.specs.Gcm as gcm
use Rattle.hmac_core.specs.Hmac.{hmac}
use Rattle.cipher_ops.specs.Output.{behind, coded, finish_output, front, full_front, is_signature, raw, update_output, verified, whole}
use Rattle.cipher_ops.specs.Sizes.{finish_room, piece_room, taken}
use Rattle.cipher_ops.proofs.GivenLemmas.{front_within}

-- ---- what the modes make of a text has no more bytes than it

-- a block of AES has 16 bytes
sealed_block : (key block : List ℕ) → length (cipher key block) ≡ 16
unfolding cipher cipher_by add_round_key state_of
sealed_block key block = refl

opened_block : (key block : List ℕ) → length (inverse_cipher key block) ≡ 16
unfolding inverse_cipher inverse_by add_round_key state_of
opened_block key block = refl

ecb_few : (f : List ℕ → List ℕ) → ((block : List ℕ) → length (f block) ≡ 16) → (n : ℕ) (text : List ℕ) → length (ecb_blocks f (pieces_of n text)) ≤ 16 * n
ecb_few f sixteen zero text = omega arith
ecb_few f sixteen (suc n) text =
    omega (arith, length-append (f (take 16 text)) (ecb_blocks f (pieces_of n (drop 16 text))), sixteen (take 16 text), ecb_few f sixteen n (drop 16 text))

cbc_few : (f : List ℕ → List ℕ) → ((block : List ℕ) → length (f block) ≡ 16) → (n : ℕ) (before text : List ℕ) → length (cbc_blocks f before (pieces_of n text)) ≤ 16 * n
cbc_few f sixteen zero before text = omega arith
cbc_few f sixteen (suc n) before text =
    let block : List ℕ = f (xor_bytes (take 16 text) before) in
    omega (arith, length-append block (cbc_blocks f block (pieces_of n (drop 16 text))), sixteen (xor_bytes (take 16 text) before), cbc_few f sixteen n block (drop 16 text))

xor_few : (xs ys : List ℕ) → length (xor_bytes xs ys) ≤ length xs
xor_few [] ys = omega arith
xor_few (x ∷ xs) [] = omega arith
xor_few (x ∷ xs) (y ∷ ys) = omega (arith, xor_few xs ys)

open_few : (f : List ℕ → List ℕ) → ((block : List ℕ) → length (f block) ≡ 16) → (n : ℕ) (before text : List ℕ) → length (cbc_open_blocks f before (pieces_of n text)) ≤ 16 * n
open_few f sixteen zero before text = omega arith
open_few f sixteen (suc n) before text =
    omega (
      arith,
      length-append (xor_bytes (f (take 16 text)) before) (cbc_open_blocks f (take 16 text) (pieces_of n (drop 16 text))),
      xor_few (f (take 16 text)) before,
      sixteen (take 16 text),
      open_few f sixteen n (take 16 text) (drop 16 text),
    )

ctr_few : (f : List ℕ → List ℕ) (n : ℕ) (count text : List ℕ) → length (ctr_pieces f count (pieces_of n text)) ≤ length text
ctr_few f zero count text = omega arith
ctr_few f (suc n) count text =
    omega (
      arith,
      length-append (xor_bytes (take 16 text) (f count)) (ctr_pieces f (next_counter count) (pieces_of n (drop 16 text))),
      xor_few (take 16 text) (f count),
      ctr_few f n (next_counter count) (drop 16 text),
      length-take 16 text,
      length-drop 16 text,
    )

added_few : (bytes key : List ℕ) → length (counter.xor_bytes bytes key) ≤ length bytes
added_few [] key = omega arith
added_few (b ∷ bytes) key = omega (arith, added_few bytes (drop 1 key))

gctr_few : (f : List ℕ → List ℕ) (n : ℕ) (count text : List ℕ) → length (counter.gctr_blocks f count (gcm_blocks.first_blocks n text)) ≤ length text
unfolding gcm_blocks.first_blocks
gctr_few f zero count text = omega arith
gctr_few f (suc n) count text =
    omega (
      arith,
      length-append (counter.xor_bytes (take 16 text) (f count)) (counter.gctr_blocks f (counter.inc32 count) (gcm_blocks.first_blocks n (drop 16 text))),
      added_few (take 16 text) (f count),
      gctr_few f n (counter.inc32 count) (drop 16 text),
      length-take 16 text,
      length-drop 16 text,
    )

made_few : (plan : Plan) (key nonce text : List ℕ) → length (modes.raw (cipher key) (inverse_cipher key) plan nonce text) ≤ length text
unfolding modes.raw ecb cbc cbc_open ctr
made_few (Ecb true padded) key nonce text = omega (arith, ecb_few (cipher key) (sealed_block key) (length text / 16) text)
made_few (Ecb false padded) key nonce text = omega (arith, ecb_few (inverse_cipher key) (opened_block key) (length text / 16) text)
made_few (Cbc true padded) key nonce text = omega (arith, cbc_few (cipher key) (sealed_block key) (length text / 16) nonce text)
made_few (Cbc false padded) key nonce text = omega (arith, open_few (inverse_cipher key) (opened_block key) (length text / 16) nonce text)
made_few Ctr key nonce text = ctr_few (cipher key) ((length text + 15) / 16) nonce text
made_few (Gcm seal tag) key nonce text = omega arith
made_few (HmacSign digest size) key nonce text = omega arith
made_few (HmacVerify digest least) key nonce text = omega arith

gcm_few : (key nonce text : List ℕ) → length (gcm.raw (cipher key) nonce text) ≤ length text
unfolding gcm.raw counter.gctr
gcm_few key nonce text = gctr_few (cipher key) ((length text + 15) / 16) (counter.inc32 (gcm.pre_counter nonce)) text

-- ---- all output

-- the tag is cut from a block
hash_long : (h : List ℕ) (blocks : List (List ℕ)) → length (ghash h blocks) ≡ 16
unfolding block_of
hash_long h blocks = omega arith

block_few : (f : List ℕ → List ℕ) (count block : List ℕ) → length (counter.gctr f count block) ≤ length block
unfolding counter.gctr
block_few f count block = gctr_few f ((length block + 15) / 16) count block

tag_few : (f : List ℕ → List ℕ) (nonce : List ℕ) (tag : ℕ) (aad ciphertext : List ℕ) → length (gcm.tag_of f nonce tag aad ciphertext) ≤ 16
unfolding gcm.tag_of
tag_few f nonce tag aad ciphertext =
    let hash : List ℕ = ghash (gcm.hash_subkey f) (gcm_blocks.blocks_of (gcm.hash_input aad ciphertext)) in
    let long : length hash ≡ 16 = hash_long (gcm.hash_subkey f) (gcm_blocks.blocks_of (gcm.hash_input aad ciphertext)) in
    omega (arith, length-take tag (counter.gctr f (gcm.pre_counter nonce) hash), block_few f (gcm.pre_counter nonce) hash, long)

pad_few : (text : List ℕ) → length (pad text) ≤ length text + 16
pad_few text = omega (arith, length-append text (replicate (padding_size (length text)) (padding_size (length text))), length-replicate (padding_size (length text)) (padding_size (length text)))

unpad_few : (n : ℕ) (text : List ℕ) → IfSome (unpad_by n text) (λ t. length t ≤ length text)
unpad_few n text = by_padding (is_padding n text) where
  by_padding : (b : Bool) → IfSome (if b then Some (take (length text - n) text) else None) (λ t. length t ≤ length text)
  by_padding true = omega (arith, length-take (length text - n) text)
  by_padding false = tt

-- the most bytes of all output of a text
abbrev whole_most : Plan → ℕ → ℕ
whole_most (Ecb seal padded) n = n + 16
whole_most (Cbc seal padded) n = n + 16
whole_most Ctr n = n
whole_most (Gcm true tag) n = n + 16
whole_most (Gcm false tag) n = n - tag
whole_most (HmacSign digest size) n = size
whole_most (HmacVerify digest least) n = 0

abbrev Few : ℕ → Result (List ℕ) Code → Type 0
Few most result = IfOk result (λ out. length out ≤ most)

opened_few : (m most : ℕ) (found : Option (List ℕ)) → IfSome found (λ t. length t ≤ m) → m ≤ most → Few most (coded (ok_or found Padding))
opened_few m most (Some text) few fits = omega (arith, few, fits)
opened_few m most None few fits = tt

blocks_few : (seal padded : Bool) (made : List ℕ → List ℕ) (text : List ℕ) → ((t : List ℕ) → length (made t) ≤ length t) → Few (length text + 16) (coded (modes.completed seal padded made text))
blocks_few true true made text within = omega (arith, within (pad text), pad_few text)
blocks_few false true made text within = opened_few (length (made text)) (length text + 16) (unpad (made text)) (unpad_few (slice_index (made text) (length (made text) - 1)) (made text)) (omega (arith, within text))
blocks_few true false made text within = omega (arith, within text)
blocks_few false false made text within = omega (arith, within text)

modes_few : (seal padded : Bool) (made : List ℕ → List ℕ) (text : List ℕ) → ((t : List ℕ) → length (made t) ≤ length t) → Few (length text + 16) (coded (modes.whole_blocks seal padded made text))
modes_few seal padded made text within = by_length (is_whole seal padded (length text)) where
  by_length : (b : Bool) → Few (length text + 16) (coded (if b then modes.completed seal padded made text else Err Length))
  by_length true = blocks_few seal padded made text within
  by_length false = tt

gcm_opened_few : (key nonce : List ℕ) (tag : ℕ) (aad text : List ℕ) → Few (length text - tag) (ok_or (gcm.gcm_open (cipher key) nonce tag aad text) VerificationFailed)
unfolding gcm.gcm_open
gcm_opened_few key nonce tag aad text = by_tests (nat_lt (length text) tag) (bytes_eq (gcm.tag_of (cipher key) nonce tag aad front_text) (drop (gcm.open_front tag text) text)) where
  front_text : List ℕ
  front_text = take (gcm.open_front tag text) text

  by_tests : (short same : Bool) → Few (length text - tag) (ok_or (if short then None else if same then Some (gcm.raw (cipher key) nonce front_text) else None) VerificationFailed)
  by_tests true same = tt
  by_tests false true = omega (arith, gcm_few key nonce front_text, length-take (length text - tag) text)
  by_tests false false = tt

verified_few : (digest least : ℕ) (mac : List ℕ) (signature : Option (List ℕ)) → Few 0 (verified digest least mac signature)
verified_few digest least mac None = tt
verified_few digest least mac (Some signature) = by_mac (is_signature digest least mac signature) where
  by_mac : (b : Bool) → Few 0 (if b then Ok [] else Err VerificationFailed)
  by_mac true = omega arith
  by_mac false = tt

whole_few : (plan : Plan) (key nonce aad text : List ℕ) (signature : Option (List ℕ)) → Few (whole_most plan (length text)) (whole plan key nonce aad text signature)
unfolding whole modes.whole gcm.gcm_seal
whole_few (Ecb seal padded) key nonce aad text signature = modes_few seal padded (modes.raw (cipher key) (inverse_cipher key) (Ecb seal padded) (replicate 16 0)) text (made_few (Ecb seal padded) key (replicate 16 0))
whole_few (Cbc seal padded) key nonce aad text signature = modes_few seal padded (modes.raw (cipher key) (inverse_cipher key) (Cbc seal padded) nonce) text (made_few (Cbc seal padded) key nonce)
whole_few Ctr key nonce aad text signature = made_few Ctr key nonce text
whole_few (Gcm true tag) key nonce aad text signature =
    let made : List ℕ = gcm.raw (cipher key) nonce text in
    omega (arith, length-append made (gcm.tag_of (cipher key) nonce tag aad made), gcm_few key nonce text, tag_few (cipher key) nonce tag aad made)
whole_few (Gcm false tag) key nonce aad text signature = gcm_opened_few key nonce tag aad text
whole_few (HmacSign digest size) key nonce aad text signature = omega (arith, length-take size (hmac digest key text))
whole_few (HmacVerify digest least) key nonce aad text signature = verified_few digest least (hmac digest key text) signature

-- ---- what is out before

blocks_left : (back : Bool) (size : ℕ) → size ≤ (if back then size - 16 else 16 * (size / 16)) + 16
blocks_left true size = omega arith
blocks_left false size = omega arith

-- the finish's room holds what was not given of all output
left_few : (plan : Plan) (limited : Bool) (text : List ℕ) (input : ℕ) → whole_most plan (length text + input) ≤ finish_room plan (taken limited (length text) input) + front plan limited text
unfolding full_front modes.front
left_few (Ecb seal padded) false text input = omega (arith, blocks_left ((padded && not seal) && length text % 16 == 0) (length text))
left_few (Cbc seal padded) false text input = omega (arith, blocks_left ((padded && not seal) && length text % 16 == 0) (length text))
left_few Ctr false text input = omega arith
left_few (Gcm true tag) false text input = omega arith
left_few (Gcm false tag) false text input = omega arith
left_few (HmacSign digest size) false text input = omega arith
left_few (HmacVerify digest least) false text input = omega arith
left_few (Ecb seal padded) true text input = omega arith
left_few (Cbc seal padded) true text input = omega arith
left_few Ctr true text input = omega arith
left_few (Gcm true tag) true text input = omega arith
left_few (Gcm false tag) true text input = omega arith
left_few (HmacSign digest size) true text input = omega arith
left_few (HmacVerify digest least) true text input = omega arith

behind_few : (n all most : ℕ) (result : Result (List ℕ) Code) → Few all result → all ≤ most + n → IfOk (behind n result) (λ out. length out ≤ most)
behind_few n all most (Ok bytes) few fits = omega (arith, length-drop n bytes, few, fits)
behind_few n all most (Err code) few fits = tt

pub finish_few : (plan : Plan) (limited : Bool) (text input : ℕ) (key nonce aad before after : List ℕ) (signature : Option (List ℕ)) → length before ≡ text → length after ≡ text + input
    → IfOk (finish_output plan limited key nonce aad before after signature) (λ out. length out ≤ finish_room plan (taken limited text input))
finish_few plan limited text input key nonce aad before after signature old new =
    rw (← old)
    (behind_few (front plan limited before) (whole_most plan (length before + input)) (finish_room plan (taken limited (length before) input)) (whole plan key nonce aad after signature)
    (rw (← grown) (whole_few plan key nonce aad after signature))
    (left_few plan limited before input)) where
      grown : length after ≡ length before + input
      grown = omega (arith, old, new)

-- what an update gives lies between the fronts
fronts_few : (plan : Plan) (before after : List ℕ) (input : ℕ) → length after ≡ length before + input → full_front plan after ≤ piece_room plan input + full_front plan before
unfolding full_front modes.front
fronts_few (Ecb seal padded) before after input e =
    omega (arith, e, front_within (Ecb seal padded) after, blocks_left ((padded && not seal) && length before % 16 == 0) (length before))
fronts_few (Cbc seal padded) before after input e =
    omega (arith, e, front_within (Cbc seal padded) after, blocks_left ((padded && not seal) && length before % 16 == 0) (length before))
fronts_few Ctr before after input e = omega (arith, e)
fronts_few (Gcm true tag) before after input e = omega (arith, e)
fronts_few (Gcm false tag) before after input e = omega (arith, e)
fronts_few (HmacSign digest size) before after input e = omega arith
fronts_few (HmacVerify digest least) before after input e = omega arith

pub update_few : (plan : Plan) (key nonce before after : List ℕ) (input : ℕ) → length after ≡ length before + input → length (update_output plan false key nonce before after) ≤ piece_room plan input
update_few plan key nonce before after input e =
    let made : List ℕ = raw plan key nonce after in
    omega (
      arith,
      length-drop (full_front plan before) (take (full_front plan after) made),
      length-take (full_front plan after) made,
      fronts_few plan before after input e,
    )
