-- The text of a wrapped key has at most eight bytes fewer than what it is wrapped into, whatever the wrapping key.
use Rattle.std.proofs.Common.{◌≡◌, ◌<◌, ◌≤◌, ◌+◌, ◌-◌, ◌*◌, ◌%◌, ℕ, zero, suc, Bool, true, false, ◌==◌, ◌&&◌, List, [], ◌++◌, Option, Some, None, Result, Ok, Err, length, length-drop, length-take, take, drop, if◌then◌else◌, refl, arith}
use Rattle.std.specs.Prelude.{IfSome, nat_le, unwrap_or}
use Rattle.std.specs.Str.{bytes_eq}
use Rattle.std.proofs.lemmas.Bool.{and_parts, eqb-true}
use Rattle.std.proofs.lemmas.List.{length-append}
use Rattle.aes_core.specs.Cipher.{inverse_cipher}
use Rattle.key_wrap.specs.Wrapping.{INITIAL, State, block_of, kw_open, number_of, parts_in, second_half, state_in, unround, unrounds, unstep, unwrapping, with_block, with_number}
use Rattle.key_wrap.specs.Lengths.{is_wrapped_length}
use Rattle.tags.specs.declared.descriptor.Descriptor.{Descriptor}
use Rattle.tags.specs.declared.policy.PolicyRow.{PolicyRow}
use Rattle.tags.specs.declared.secrets.DeviceSecrets.{DeviceSecrets}
use Rattle.journal_records.specs.LastingPart.{Lasting}
use Rattle.key_blobs.specs.declared.fault.BlobFault.{BlobFault}
use Rattle.key_blobs.specs.declared.sealed.Opened.{Opened}
use Rattle.tag_lists.specs.Lookups.{is_aes}
use Rattle.key_rules.specs.Asked.{asked as asked_in}
use Rattle.rule_model.specs.declared.facts.Caller.{Caller}
use Rattle.rule_model.specs.Access.{access_by, key_in}
use Rattle.rule_model.specs.BeginFacts.{blob_for}
use Rattle.rule_model.specs.Blobs.{fits_key, material_read, opened_for}
use Rattle.rule_model.specs.WrappedKeys.{opened_text, unwrapped_in}

half_few : (block : List ℕ) → length (second_half block) ≤ 8
half_few block = omega (arith, length-take 8 (drop 8 block))

-- no step makes the parts longer
block_few : (n i : ℕ) (block : List ℕ) (s : State) → i < n → length s.parts ≤ 8 * n → length (with_block i block s).parts ≤ 8 * n
block_few n i block s less few =
    omega (
      arith,
      length-append (take (8 * i) s.parts) (second_half block ++ drop (8 * i + 8) s.parts),
      length-append (second_half block) (drop (8 * i + 8) s.parts),
      length-take (8 * i) s.parts,
      length-drop (8 * i + 8) s.parts,
      half_few block,
      less,
      few,
    )

unstep_few : (g : List ℕ → List ℕ) (n t i : ℕ) (s : State) → i < n → length s.parts ≤ 8 * n → length (unstep g t i s).parts ≤ 8 * n
unfolding unstep
unstep_few g n t i s less few = block_few n i (g (block_of i (with_number t s))) s less few

unround_few : (g : List ℕ → List ℕ) (n j i : ℕ) (s : State) → i ≤ n → length s.parts ≤ 8 * n → length (unround g n j i s).parts ≤ 8 * n
unfolding unround
unround_few g n j zero s h few = few
unround_few g n j (suc i) s h few =
    unround_few g n j i (unstep g (number_of n j i) i s) (omega (arith, h)) (unstep_few g n (number_of n j i) i s (omega (arith, h)) few)

unrounds_few : (g : List ℕ → List ℕ) (n j : ℕ) (s : State) → length s.parts ≤ 8 * n → length (unrounds g n j s).parts ≤ 8 * n
unfolding unrounds
unrounds_few g n zero s few = few
unrounds_few g n (suc j) s few = unrounds_few g n j (unround g n j n s) (unround_few g n j n s (omega arith) few)

text_few : (n : ℕ) (s : State) (same : Bool) → length s.parts ≤ n → length (unwrap_or (if◌then◌else◌ {A = Option (List ℕ)} same (Some s.parts) None) []) ≤ n
text_few n s true few = few
text_few n s false few = omega arith

-- of whole parts
open_few : (g : List ℕ → List ℕ) (wrapped : List ℕ) → (length wrapped % 8 == 0) ≡ true → length (unwrap_or (kw_open g wrapped) []) ≤ length wrapped - 8
unfolding kw_open unwrapping
open_few g wrapped whole =
    let parts : List ℕ = drop 8 wrapped in
    let n : ℕ = parts_in parts in
    let even = eqb-true (length wrapped % 8) 0 whole in
    let start : length parts ≤ 8 * n = omega (arith, length-drop 8 wrapped, even) in
    let end : State = unrounds g n 6 (state_in wrapped) in
    text_few (length wrapped - 8) end (bytes_eq end.value INITIAL) (omega (arith, unrounds_few g n 6 (state_in wrapped) start, length-drop 8 wrapped))

-- the text that is opened for a call
pub text_short : (opened : Result Opened BlobFault) (wrapped : List ℕ) → length (unwrap_or (opened_text opened wrapped) []) ≤ length wrapped - 8
text_short (Err fault) wrapped = omega arith
text_short (Ok key) wrapped = by_rule ((fits_key (Ok key) && is_aes key.list) && is_wrapped_length (length wrapped)) refl where
  by_rule : (may : Bool) → ((fits_key (Ok key) && is_aes key.list) && is_wrapped_length (length wrapped)) ≡ may
      → length (unwrap_or (if◌then◌else◌ {A = Option (List ℕ)} may (kw_open (inverse_cipher (material_read (Ok key))) wrapped) None) []) ≤ length wrapped - 8
  by_rule false e = omega arith
  by_rule true e =
      let sized = (and_parts (fits_key (Ok key) && is_aes key.list) (is_wrapped_length (length wrapped)) e).1 in
      open_few (inverse_cipher (material_read (Ok key))) wrapped
      (and_parts (nat_le 24 (length wrapped) && nat_le (length wrapped) 72) (length wrapped % 8 == 0) sized).1

-- the material of a wrapped key is as short as the rules of an import have it
pub unwrapped_short : (device : DeviceSecrets) (policy : List PolicyRow) (part : Lasting) (caller : Caller) (wrapping : Descriptor) (wrapped unwrapping : List ℕ)
    → IfSome (unwrapped_in device policy part caller wrapping wrapped unwrapping).import (λ import. import.length ≤ 64)
    → IfSome (unwrapped_in device policy part caller wrapping wrapped unwrapping).material (λ material. length material ≤ 64)
unwrapped_short device policy part caller wrapping wrapped unwrapping few =
    omega (
      arith,
      text_short (opened_for device (asked_in unwrapping) (blob_for (access_by policy part caller wrapping) (key_in part (access_by policy part caller wrapping)) wrapping)) wrapped,
      few,
    )
