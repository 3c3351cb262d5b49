-- A text in GCM goes on, and ends.
use Rattle.std.proofs.Common.{◌≡◌, ℕ, ◌+◌, ◌-◌, ◌<◌, ◌≤◌, min, true, false, List, [], ◌++◌, length, take, drop, nat_lt, Some, Ok, Err, refl, sym, ap, ◌∙◌, subst, arith, append_assoc, length-append, inl, inr}
use Rattle.std.specs.Option.{ok_or}
use Rattle.std.specs.Str.{bytes_eq}
use Rattle.std.proofs.Math.Seq.{drop-append-add, take-append-add}
use Rattle.std.proofs.lemmas.List.{take_all, drop_at}
use Rattle.std.proofs.lemmas.Bool.{cases_lt}
use Rattle.std.proofs.lemmas.Bool.Decides.{nat_tests}
use Rattle.tags.specs.declared.code.Code.TheVariants.{VerificationFailed}
use Rattle.aes_core.specs.Cipher.{cipher}
use Rattle.gcm_mode.specs.Bytewise.{xor_by}
use Rattle.gcm_mode.specs.Counter.{inc32}
use Rattle.gcm_mode.specs.Gcm.{hash_subkey, raw, pre_counter, tag_of, gcm_seal, gcm_open, open_front, open_given}
use Rattle.gcm_mode.proofs.KeyStream.{length-raw, raw_none, take-raw}
use Rattle.gcm_mode.proofs.Tagging.{opened_is, refused_is}
use Rattle.cipher_ops.specs.Output.{behind}
use Rattle.whole_outputs.specs.Hashes.{HashesBoth}
use Rattle.whole_outputs.specs.Modes.{IsGcm}
use Rattle.whole_outputs.specs.Streams.{Streams, key_byte}
use Rattle.whole_outputs.specs.declared.gcm.GcmText.{GcmText}
use Rattle.whole_outputs.specs.declared.key_stream.Counting.TheVariants.{Last}
use Rattle.whole_outputs.proofs.KeyBytes.{gcm_is, xor_by_on}

-- no bytes yet
pub begun : (state : GcmText) (key nonce first subkey : List ℕ) → length nonce ≡ 12 → Streams state.stream key Last first 0 → first ≡ inc32 (pre_counter nonce) →
    HashesBoth state.hash subkey [] [] → subkey ≡ hash_subkey (cipher key) → state.tag_key ≡ cipher key (pre_counter nonce) → IsGcm state key nonce [] 0 []
begun state key nonce first subkey len stream first_is hash subkey_is tag_key = record {
  nonce_len = len;
  stream = subst (λ (b : List ℕ). Streams state.stream key Last b 0) first_is stream;
  hash = subst (λ (h : List ℕ). HashesBoth state.hash h [] []) subkey_is hash;
  tag_key_is = tag_key;
}

-- no text has no ciphertext
pub at_raw : (state : GcmText) (key nonce aad : List ℕ) → IsGcm state key nonce aad 0 [] → IsGcm state key nonce aad 0 (raw (cipher key) nonce [])
at_raw state key nonce aad held = subst (λ (l : List ℕ). IsGcm state key nonce aad 0 l) (sym (raw_none (cipher key) nonce held.nonce_len)) held

pub at_none : (state : GcmText) (key nonce aad : List ℕ) → IsGcm state key nonce aad 0 (raw (cipher key) nonce []) → IsGcm state key nonce aad 0 []
at_none state key nonce aad held = subst (λ (l : List ℕ). IsGcm state key nonce aad 0 l) (raw_none (cipher key) nonce held.nonce_len) held

pub under : (state : GcmText) (key other nonce : List ℕ) → other ≡ key → IsGcm state other nonce [] 0 [] → IsGcm state key nonce [] 0 []
under state key other nonce same held = subst (λ (k : List ℕ). IsGcm state k nonce [] 0 []) same held

-- some bytes more
pub passed : (state new : GcmText) (key nonce aad done more sealed all : List ℕ) → IsGcm state key nonce aad (length done) sealed → new.tag_key ≡ state.tag_key →
    Streams new.stream key Last (inc32 (pre_counter nonce)) (length done + length more) → HashesBoth new.hash (hash_subkey (cipher key)) aad all →
    IsGcm new key nonce aad (length (done ++ more)) all
passed state new key nonce aad done more sealed all held tag_key stream hash = record {
  nonce_len = held.nonce_len;
  stream = subst (λ (n : ℕ). Streams new.stream key Last (inc32 (pre_counter nonce)) n) (sym (length-append done more)) stream;
  hash = hash;
  tag_key_is = tag_key ∙ held.tag_key_is;
}

-- what the next bytes become
pub raw_on : (key nonce done more out : List ℕ) → length nonce ≡ 12 → out ≡ xor_by (key_byte key Last (inc32 (pre_counter nonce))) (length done) more →
    raw (cipher key) nonce done ++ out ≡ raw (cipher key) nonce (done ++ more)
raw_on key nonce done more out len is =
    let f : ℕ → ℕ = key_byte key Last (inc32 (pre_counter nonce)) in
    ap (λ (l : List ℕ). l ++ out) (gcm_is key nonce done len) ∙ xor_by_on f done more out is ∙ sym (gcm_is key nonce (done ++ more) len)

-- as much of a block as there is
pub take_few : (n : ℕ) (block : List ℕ) → length block ≡ 16 → take (min n 16) block ≡ take n block
take_few n block len =
    elim (cases_lt 16 n) [
      | inl large ↦
          let most : min n 16 ≡ 16 = omega arith in
          ap (λ (k : ℕ). take k block) most ∙ take_all 16 block (omega (arith, len)) ∙ sym (take_all n block (omega (arith, len)))
      | inr small ↦ (let same : min n 16 ≡ n = omega arith in ap (λ (k : ℕ). take k block) same)
    ]

-- the ciphertext of the rest, and the tag behind it
pub sealed_end : (key nonce : List ℕ) (tag : ℕ) (aad done rest sealed end : List ℕ) → length nonce ≡ 12 → raw (cipher key) nonce done ++ sealed ≡ raw (cipher key) nonce (done ++ rest) →
    end ≡ tag_of (cipher key) nonce tag aad (raw (cipher key) nonce (done ++ rest)) → sealed ++ end ≡ drop (length done) (gcm_seal (cipher key) nonce tag aad (done ++ rest))
unfolding gcm_seal
sealed_end key nonce tag aad done rest sealed end len joined end_is =
    let front : List ℕ = raw (cipher key) nonce done in
    sym (drop_at front (sealed ++ end) (length done) (length-raw (cipher key) nonce done len))
    ∙ ap (λ (l : List ℕ). drop (length done) l) (sym (append_assoc front sealed end))
    ∙ ap (λ (l : List ℕ). drop (length done) (l ++ end)) joined
    ∙ ap (λ (l : List ℕ). drop (length done) (raw (cipher key) nonce (done ++ rest) ++ l)) end_is

-- ---- opening

-- where the tag begins
record Cut (tag : ℕ) (done rest sealed given : List ℕ) : Type 0 where
  within : tag ≤ length (done ++ rest)
  before : take (open_front tag (done ++ rest)) (done ++ rest) ≡ done ++ sealed
  behind_it : drop (open_front tag (done ++ rest)) (done ++ rest) ≡ given

cut_is : (tag : ℕ) (done rest sealed given : List ℕ) → tag ≤ length rest → sealed ≡ take (length rest - tag) rest → given ≡ drop (length rest - tag) rest → Cut tag done rest sealed given
cut_is tag done rest sealed given fits sealed_is given_is =
    let place : length (done ++ rest) - tag ≡ length done + (length rest - tag) = omega (arith, length-append done rest, fits) in
    record {
      within = omega (arith, length-append done rest, fits);
      before = ap (λ (n : ℕ). take n (done ++ rest)) place ∙ take-append-add done rest (length rest - tag) ∙ ap (λ (l : List ℕ). done ++ l) (sym sealed_is);
      behind_it = ap (λ (n : ℕ). drop n (done ++ rest)) place ∙ drop-append-add done rest (length rest - tag) ∙ sym given_is;
    }

-- the tag is right
pub opened_end : (key nonce : List ℕ) (tag : ℕ) (aad done rest sealed given text whole_tag : List ℕ) → length nonce ≡ 12 → tag ≤ length rest →
    sealed ≡ take (length rest - tag) rest → given ≡ drop (length rest - tag) rest → raw (cipher key) nonce done ++ text ≡ raw (cipher key) nonce (done ++ sealed) →
    whole_tag ≡ tag_of (cipher key) nonce tag aad (done ++ sealed) → bytes_eq whole_tag given ≡ true →
    Ok text ≡ behind (length done) (ok_or (gcm_open (cipher key) nonce tag aad (done ++ rest)) VerificationFailed)
opened_end key nonce tag aad done rest sealed given text whole_tag len fits sealed_is given_is joined tag_is right =
    let c = cipher key in
    let cut = cut_is tag done rest sealed given fits sealed_is given_is in
    let test : bytes_eq (tag_of c nonce tag aad (take (open_front tag (done ++ rest)) (done ++ rest))) (drop (open_front tag (done ++ rest)) (done ++ rest)) ≡ true =
    ap (λ (l : List ℕ). bytes_eq (tag_of c nonce tag aad l) (drop (open_front tag (done ++ rest)) (done ++ rest))) cut.before
    ∙ ap (λ (l : List ℕ). bytes_eq (tag_of c nonce tag aad (done ++ sealed)) l) cut.behind_it
    ∙ ap (λ (l : List ℕ). bytes_eq l given) (sym tag_is)
    ∙ right in
    let opened : gcm_open c nonce tag aad (done ++ rest) ≡ Some (open_given c nonce tag (done ++ rest)) = opened_is c nonce tag aad (done ++ rest) len cut.within test in
    let given_out : open_given c nonce tag (done ++ rest) ≡ raw c nonce done ++ text =
    take-raw c nonce (done ++ rest) (open_front tag (done ++ rest)) len (omega arith) ∙ ap (λ (l : List ℕ). raw c nonce l) cut.before ∙ sym joined in
    ap (λ (l : List ℕ). Ok l) (sym (drop_at (raw c nonce done) text (length done) (length-raw c nonce done len)) ∙ ap (λ (l : List ℕ). drop (length done) l) (sym given_out))
    ∙ ap (λ o. behind (length done) (ok_or o VerificationFailed)) (sym opened)

-- another tag
pub refused_end : (key nonce : List ℕ) (tag : ℕ) (aad done rest sealed given whole_tag : List ℕ) → tag ≤ length rest →
    sealed ≡ take (length rest - tag) rest → given ≡ drop (length rest - tag) rest → whole_tag ≡ tag_of (cipher key) nonce tag aad (done ++ sealed) → bytes_eq whole_tag given ≡ false →
    Err VerificationFailed ≡ behind (length done) (ok_or (gcm_open (cipher key) nonce tag aad (done ++ rest)) VerificationFailed)
refused_end key nonce tag aad done rest sealed given whole_tag fits sealed_is given_is tag_is wrong =
    let c = cipher key in
    let cut = cut_is tag done rest sealed given fits sealed_is given_is in
    let test : bytes_eq (tag_of c nonce tag aad (take (open_front tag (done ++ rest)) (done ++ rest))) (drop (open_front tag (done ++ rest)) (done ++ rest)) ≡ false =
    ap (λ (l : List ℕ). bytes_eq (tag_of c nonce tag aad l) (drop (open_front tag (done ++ rest)) (done ++ rest))) cut.before
    ∙ ap (λ (l : List ℕ). bytes_eq (tag_of c nonce tag aad (done ++ sealed)) l) cut.behind_it
    ∙ ap (λ (l : List ℕ). bytes_eq l given) (sym tag_is)
    ∙ wrong in
    ap (λ o. behind (length done) (ok_or o VerificationFailed)) (sym (refused_is c nonce tag aad (done ++ rest) cut.within test))

below : (a b : ℕ) → a < b → nat_lt a b ≡ true
below a b h = grind (arith, nat_tests)

-- too few bytes for a tag
pub short_end : (key nonce : List ℕ) (tag : ℕ) (aad done rest : List ℕ) → length rest < tag → length done ≤ length done + length rest - tag →
    Err VerificationFailed ≡ behind (length done) (ok_or (gcm_open (cipher key) nonce tag aad (done ++ rest)) VerificationFailed)
unfolding gcm_open
short_end key nonce tag aad done rest few may =
    let short : length (done ++ rest) < tag = omega (arith, length-append done rest, few, may) in
    rw (below (length (done ++ rest)) tag short) refl
