-- A sealing and an opening from their parts.
use Rattle.std.proofs.Common.{◌≡◌, ℕ, ◌+◌, ◌-◌, ◌≤◌, false, List, [], ◌++◌, length, take, drop, nat_lt, slice_range, sym, ap, ◌∙◌, arith, length-drop, length-append}
use Rattle.std.proofs.lemmas.List.{take_all, drop_all, drop_at, drop-take, length-take-le}
use Rattle.gcm_mode.specs.Gcm.{hash_subkey, raw, seal_front, seal_given, open_front, open_given}
use Rattle.gcm_mode.specs.Parts.{Streams, Authenticates}
use Rattle.gcm_mode.specs.Holds.{Seals, Opens, tag_size}
use Rattle.gcm_mode.specs.declared.authenticator.Authenticator.{Authenticator}
use Rattle.gcm_mode.specs.declared.seal.GcmSeal.{GcmSeal}
use Rattle.gcm_mode.specs.declared.open.GcmOpen.{GcmOpen}
use Rattle.gcm_mode.proofs.KeyStream.{raw_none, length-raw, seal_given_is, take-raw}
use Rattle.gcm_mode.proofs.Opening.{Passes}

no_text : (s : Authenticator) (h aad text : List ℕ) → Authenticates s h aad text → text ≡ [] → s.has_text ≡ false
no_text s h aad text held none = held.begun ∙ ap (λ (l : List ℕ). nat_lt 0 (length l)) none

pub seals : {C : Type 0} (cipher_of : C → List ℕ → List ℕ) (state : GcmSeal C) (cipher : List ℕ → List ℕ) (nonce : List ℕ) (tag : ℕ) (aad text : List ℕ)
    → Streams cipher_of state.stream cipher nonce (length text) → Authenticates state.hash (hash_subkey cipher) aad (raw cipher nonce text) → tag_size state ≡ tag
    → Seals cipher_of state cipher nonce tag aad text
seals cipher_of state cipher nonce tag aad text stream hash tag_is = record {
  stream = stream;
  hash = hash;
  tag_is = tag_is;
  untouched = λ none.
      no_text state.hash (hash_subkey cipher) aad (raw cipher nonce text) hash (ap (λ (l : List ℕ). raw cipher nonce l) none ∙ raw_none cipher nonce stream.nonce_len);
}

pub opens : {C : Type 0} (cipher_of : C → List ℕ → List ℕ) (state : GcmOpen C) (cipher : List ℕ → List ℕ) (nonce : List ℕ) (tag : ℕ) (aad text : List ℕ)
    → Streams cipher_of state.stream cipher nonce (open_front tag text) → Authenticates state.hash (hash_subkey cipher) aad (take (open_front tag text) text)
    → state.held.bytes ≡ drop (open_front tag text) text → state.held.most ≡ tag → Opens cipher_of state cipher nonce tag aad text
opens cipher_of state cipher nonce tag aad text stream hash held tag_is =
    let front : ℕ = open_front tag text in
    record {
      stream = stream;
      hash = hash;
      held = held;
      tag_is = tag_is;
      untouched = λ none. (
        no_text state.hash (hash_subkey cipher) aad (take front text) hash (ap (λ (l : List ℕ). take front l) none ∙ take_all front [] (omega arith)),
        held ∙ ap (λ (l : List ℕ). drop front l) none ∙ drop_all front [] (omega arith),
      );
      whole = λ enough. ap length held ∙ length-drop front text ∙ omega arith;
    }

-- what a sealing has given out, with its next bytes
pub sealed_more : (cipher : List ℕ → List ℕ) (nonce text input bytes part out : List ℕ) → length nonce ≡ 12 → part ≡ input → out ≡ bytes
    → raw cipher nonce text ++ bytes ≡ raw cipher nonce (text ++ part) → seal_given cipher nonce text ++ out ≡ seal_given cipher nonce (text ++ input)
sealed_more cipher nonce text input bytes part out len part_is out_is more =
    rw (out_is, seal_given_is cipher nonce text len, seal_given_is cipher nonce (text ++ input) len, ← part_is) more

-- what an opening has given out, with its next bytes
pub opened_more : (cipher : List ℕ → List ℕ) (nonce : List ℕ) (tag : ℕ) (text input given kept bytes out : List ℕ) → length nonce ≡ 12 → out ≡ bytes
    → Passes tag text input given kept → raw cipher nonce (take (open_front tag text) text) ++ bytes ≡ raw cipher nonce (take (open_front tag text) text ++ given)
    → open_given cipher nonce tag text ++ out ≡ open_given cipher nonce tag (text ++ input)
opened_more cipher nonce tag text input given kept bytes out len out_is step more =
    let before : open_given cipher nonce tag text ≡ raw cipher nonce (take (open_front tag text) text) = take-raw cipher nonce text (open_front tag text) len (omega arith) in
    let after : open_given cipher nonce tag (text ++ input) ≡ raw cipher nonce (take (open_front tag text) text ++ given) =
    take-raw cipher nonce (text ++ input) (open_front tag (text ++ input)) len (omega arith) ∙ ap (λ (l : List ℕ). raw cipher nonce l) step.before in
    rw (out_is, before, after) more

-- what comes behind the front that was given
piece_from : (given out whole : List ℕ) (from to : ℕ) → given ++ out ≡ take to whole → length given ≡ from → from ≤ to → out ≡ slice_range whole from to
piece_from given out whole from to joined size order =
    let sum : from + (to - from) ≡ to = omega arith in
    sym (drop_at given out from size) ∙ ap (λ (l : List ℕ). drop from l) joined ∙ ap (λ (k : ℕ). drop from (take k whole)) (sym sum) ∙ drop-take from (to - from) whole

pub seal_piece : (cipher : List ℕ → List ℕ) (nonce text input out : List ℕ) → length nonce ≡ 12
    → seal_given cipher nonce text ++ out ≡ seal_given cipher nonce (text ++ input)
    → out ≡ slice_range (raw cipher nonce (text ++ input)) (seal_front text) (seal_front (text ++ input))
seal_piece cipher nonce text input out len joined =
    let size : length (raw cipher nonce text) ≡ length text = length-raw cipher nonce text len in
    let given : length (seal_given cipher nonce text) ≡ length text = length-take-le (length text) (raw cipher nonce text) (omega arith) in
    piece_from (seal_given cipher nonce text) out (raw cipher nonce (text ++ input)) (seal_front text) (seal_front (text ++ input)) joined given
    (omega (arith, length-append text input))

pub open_piece : (cipher : List ℕ → List ℕ) (nonce : List ℕ) (tag : ℕ) (text input out : List ℕ) → length nonce ≡ 12
    → open_given cipher nonce tag text ++ out ≡ open_given cipher nonce tag (text ++ input)
    → out ≡ slice_range (raw cipher nonce (text ++ input)) (open_front tag text) (open_front tag (text ++ input))
open_piece cipher nonce tag text input out len joined =
    let size : length (raw cipher nonce text) ≡ length text = length-raw cipher nonce text len in
    let given : length (open_given cipher nonce tag text) ≡ open_front tag text = length-take-le (open_front tag text) (raw cipher nonce text) (omega arith) in
    piece_from (open_given cipher nonce tag text) out (raw cipher nonce (text ++ input)) (open_front tag text) (open_front tag (text ++ input)) joined given
    (omega (arith, length-append text input))
