-- What a sealing and an opening stand for.
use Rattle.std.specs.Prelude.{◌≡◌, ℕ, ◌≤◌, List, [], length, take, drop, false, Option, Some, None, Result, Ok, Err}
use Rattle.gcm_mode.specs.Gcm.{hash_subkey, raw, open_front}
use Rattle.gcm_mode.specs.Parts.{Streams, Authenticates}
use Rattle.gcm_mode.specs.declared.seal.GcmSeal.{GcmSeal}
use Rattle.gcm_mode.specs.declared.open.GcmOpen.{GcmOpen}
use Rattle.gcm_mode.specs.declared.open.TagWrong.{TagWrong}

-- the size of a sealing's tag
abbrev pub tag_size : {C : Type 0} → GcmSeal C → ℕ
tag_size state = state.tag

-- a sealing that has taken no byte of text
abbrev pub SealsNoText : {C : Type 0} → GcmSeal C → Type 0
SealsNoText state = state.hash.has_text ≡ false

-- an opening that has taken no byte of text
abbrev pub OpensNoText : {C : Type 0} → GcmOpen C → Type 0
OpensNoText state = (state.hash.has_text ≡ false) × (state.held.bytes ≡ [])

-- an opening that has taken as many bytes as a tag has
abbrev pub HasTag : {C : Type 0} → GcmOpen C → Type 0
HasTag state = length state.held.bytes ≡ state.held.most

-- the sealing has taken this additional data and this text
pub record Seals {C : Type 0} (cipher_of : C → List ℕ → List ℕ) (state : GcmSeal C) (cipher : List ℕ → List ℕ) (nonce : List ℕ) (tag : ℕ) (aad text : List ℕ) : Type 0 where
  pub stream : Streams cipher_of state.stream cipher nonce (length text)
  pub hash : Authenticates state.hash (hash_subkey cipher) aad (raw cipher nonce text)
  pub tag_is : tag_size state ≡ tag
  pub untouched : text ≡ [] → SealsNoText state

-- the opening has taken this additional data and this text, the last bytes of which may be the tag
pub record Opens {C : Type 0} (cipher_of : C → List ℕ → List ℕ) (state : GcmOpen C) (cipher : List ℕ → List ℕ) (nonce : List ℕ) (tag : ℕ) (aad text : List ℕ) : Type 0 where
  pub stream : Streams cipher_of state.stream cipher nonce (open_front tag text)
  pub hash : Authenticates state.hash (hash_subkey cipher) aad (take (open_front tag text) text)
  pub held : state.held.bytes ≡ drop (open_front tag text) text
  pub tag_is : state.held.most ≡ tag
  pub untouched : text ≡ [] → OpensNoText state
  pub whole : tag ≤ length text → HasTag state

-- the answer of an opening: what was given out is the whole text, or the tag is wrong
abbrev pub IsOpened : Result ℕ TagWrong → Option (List ℕ) → List ℕ → Type 0
IsOpened (Ok n) whole given = (n ≡ 0) × (whole ≡ Some given)
IsOpened (Err e) whole given = whole ≡ None
