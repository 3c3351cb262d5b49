-- What was given after some text, plan by plan.
use Rattle.std.proofs.Common.{◌≡◌, ℕ, ◌+◌, ◌-◌, ◌*◌, ◌/◌, ◌%◌, ◌≤◌, ◌==◌, Bool, true, false, not, ◌&&◌, if◌then◌else◌, List, [], ◌++◌, length, take, drop, refl, sym, ap, ◌∙◌, arith, length-append}
use Rattle.std.proofs.lemmas.List.{drop_at}
use Rattle.std.specs.Prelude.{Option}
use Rattle.tags.specs.declared.plan.Plan.{Plan}
use Rattle.tags.specs.declared.plan.Plan.TheVariants.{Ecb, Cbc, Ctr, Gcm, HmacSign, HmacVerify}
use Rattle.aes_core.specs.Cipher.{cipher, inverse_cipher}
use Rattle.block_modes.specs.Output as modes
use Rattle.block_modes.specs.Output.{is_served}
use Rattle.gcm_mode.specs.Gcm.{seal_given, open_given, open_front}
use Rattle.cipher_ops.specs.Output.{first_block, raw, full_front, whole, coded}
use Rattle.cipher_ops.specs.Standing.{given}

pub served_raw : (plan : Plan) (key nonce text : List ℕ) → is_served plan ≡ true
    → raw plan key nonce text ≡ modes.raw (cipher key) (inverse_cipher key) plan (first_block plan nonce) text
unfolding raw
served_raw (Ecb seal padded) key nonce text served = refl
served_raw (Cbc seal padded) key nonce text served = refl
served_raw Ctr key nonce text served = refl
served_raw (Gcm seal tag) key nonce text served = cc
served_raw (HmacSign digest size) key nonce text served = cc
served_raw (HmacVerify digest least) key nonce text served = cc

pub served_front : (plan : Plan) (text : List ℕ) → is_served plan ≡ true → full_front plan text ≡ modes.front plan text
unfolding full_front
served_front (Ecb seal padded) text served = refl
served_front (Cbc seal padded) text served = refl
served_front Ctr text served = refl
served_front (Gcm seal tag) text served = cc
served_front (HmacSign digest size) text served = cc
served_front (HmacVerify digest least) text served = cc

pub served_whole : (plan : Plan) (key nonce aad text : List ℕ) (signature : Option (List ℕ)) → is_served plan ≡ true
    → whole plan key nonce aad text signature ≡ coded (modes.whole (cipher key) (inverse_cipher key) plan (first_block plan nonce) text)
unfolding whole
served_whole (Ecb seal padded) key nonce aad text signature served = refl
served_whole (Cbc seal padded) key nonce aad text signature served = refl
served_whole Ctr key nonce aad text signature served = refl
served_whole (Gcm seal tag) key nonce aad text signature served = cc
served_whole (HmacSign digest size) key nonce aad text signature served = cc
served_whole (HmacVerify digest least) key nonce aad text signature served = cc

pub served_given : (plan : Plan) (key nonce text : List ℕ) → is_served plan ≡ true
    → given plan key nonce text ≡ take (modes.front plan text) (modes.raw (cipher key) (inverse_cipher key) plan (first_block plan nonce) text)
served_given plan key nonce text served =
    ap (λ (n : ℕ). take n (raw plan key nonce text)) (served_front plan text served) ∙ ap (λ (l : List ℕ). take (modes.front plan text) l) (served_raw plan key nonce text served)

pub seal_given_is : (plan : Plan) (tag : ℕ) (key nonce text : List ℕ) → plan ≡ Gcm true tag → given plan key nonce text ≡ seal_given (cipher key) nonce text
unfolding raw full_front
seal_given_is plan tag key nonce text plan_is = rw plan_is refl

pub seal_front_is : (plan : Plan) (tag : ℕ) (text : List ℕ) → plan ≡ Gcm true tag → full_front plan text ≡ length text
unfolding full_front
seal_front_is plan tag text plan_is = rw plan_is refl

pub open_given_is : (plan : Plan) (tag : ℕ) (key nonce text : List ℕ) → plan ≡ Gcm false tag → given plan key nonce text ≡ open_given (cipher key) nonce tag text
unfolding raw full_front
open_given_is plan tag key nonce text plan_is = rw plan_is refl

pub open_front_is : (plan : Plan) (tag : ℕ) (text : List ℕ) → plan ≡ Gcm false tag → full_front plan text ≡ open_front tag text
unfolding full_front
open_front_is plan tag text plan_is = rw plan_is refl

pub sign_given_is : (plan : Plan) (digest size : ℕ) (key nonce text : List ℕ) → plan ≡ HmacSign digest size → given plan key nonce text ≡ []
unfolding raw full_front
sign_given_is plan digest size key nonce text plan_is = rw plan_is refl

pub sign_front_is : (plan : Plan) (digest size : ℕ) (text : List ℕ) → plan ≡ HmacSign digest size → full_front plan text ≡ 0
unfolding full_front
sign_front_is plan digest size text plan_is = rw plan_is refl

pub verify_given_is : (plan : Plan) (digest least : ℕ) (key nonce text : List ℕ) → plan ≡ HmacVerify digest least → given plan key nonce text ≡ []
unfolding raw full_front
verify_given_is plan digest least key nonce text plan_is = rw plan_is refl

pub verify_front_is : (plan : Plan) (digest least : ℕ) (text : List ℕ) → plan ≡ HmacVerify digest least → full_front plan text ≡ 0
unfolding full_front
verify_front_is plan digest least text plan_is = rw plan_is refl

blocks_out_within : (back : Bool) (size : ℕ) → (if back then size - 16 else 16 * (size / 16)) ≤ size
blocks_out_within true size = omega arith
blocks_out_within false size = omega arith

-- no more bytes are out than came in
pub front_within : (plan : Plan) (text : List ℕ) → full_front plan text ≤ length text
unfolding full_front modes.front
front_within (Ecb seal padded) text = blocks_out_within ((padded && not seal) && length text % 16 == 0) (length text)
front_within (Cbc seal padded) text = blocks_out_within ((padded && not seal) && length text % 16 == 0) (length text)
front_within Ctr text = omega arith
front_within (Gcm true tag) text = omega arith
front_within (Gcm false tag) text = omega arith
front_within (HmacSign digest size) text = omega arith
front_within (HmacVerify digest least) text = omega arith

-- nothing is given for no text
pub given_none : (plan : Plan) (key nonce : List ℕ) → given plan key nonce [] ≡ []
given_none plan key nonce =
    let none : full_front plan [] ≡ 0 = omega (arith, front_within plan []) in
    rw none refl

pub front_none : (plan : Plan) → full_front plan [] ≡ 0
front_none plan = omega (arith, front_within plan [])

-- what was given grows by a piece
pub within_more : (plan : Plan) (key nonce text more piece : List ℕ) → length (given plan key nonce text) ≡ full_front plan text
    → given plan key nonce text ++ piece ≡ given plan key nonce more → full_front plan text + length piece ≡ full_front plan more
    → length (given plan key nonce more) ≡ full_front plan more
within_more plan key nonce text more piece within joined count =
    sym (ap length joined) ∙ length-append (given plan key nonce text) piece ∙ ap (λ (n : ℕ). n + length piece) within ∙ count

-- the piece that was given for some text more
pub piece_is : (plan : Plan) (key nonce text piece all : List ℕ) → length (given plan key nonce text) ≡ full_front plan text
    → given plan key nonce text ++ piece ≡ all → piece ≡ drop (full_front plan text) all
piece_is plan key nonce text piece all within joined =
    sym (drop_at (given plan key nonce text) piece (full_front plan text) within) ∙ ap (λ (l : List ℕ). drop (full_front plan text) l) joined
