-- What the rules of a key make of its list and its size.
use Rattle.std.proofs.Common.{◌≡◌, ℕ, ◌*◌, ◌/◌, ◌%◌, ◌≤◌, Bool, true, false, ◌&&◌, ◌||◌, ◌==◌, if◌then◌else◌, List, [], ◌∷◌, length, Option, Some, None, Result, Ok, Err, refl, sym, subst, arith, inl, inr}
use Rattle.std.specs.Prelude.{nat_le, slice_get, is_ok, is_some, unwrap_or, OnOk}
use Rattle.std.specs.List.{list_all}
use Rattle.std.specs.Option.{option_and_then}
use Rattle.std.proofs.lemmas.Bool.{or_cases, and_parts, eqb-true, false≢true}
use Rattle.std.proofs.lemmas.Bool.Decides.{nat_tests}
use Rattle.tags.specs.declared.param.Param.{Param}
use Rattle.tags.specs.declared.tag.Tag.TheVariants.{Digest, KeySize}
use Rattle.tags.specs.Param.{as_number}
use Rattle.tags.specs.Plan.{is_aes_size}
use Rattle.tags.specs.Table.{Ruling}
use Rattle.tags.specs.Values.{DIGESTS, implies, is_whole_bytes, one_in, passes}
use Rattle.tag_lists.specs.Lookups.{IsKey, all_of, each, is_aes, is_hmac, is_of, number_of, stands}
use Rattle.tag_lists.proofs.Lookups.{find-filter}
use Rattle.key_rules.specs.declared.facts.ImportFacts.{ImportFacts}
use Rattle.key_rules.specs.declared.fault.NewFault.{NewFault}
use Rattle.key_rules.specs.declared.plan.KeyPlan.{KeyPlan}
use Rattle.key_rules.specs.Creation.{key_size, material_size}
use Rattle.key_rules.specs.Rules.{has_allowed_size, has_known_digest, has_one_digest, is_allowed_size, list_in}

then_holds : (b x y : Bool) → b ≡ true → (if b then x else y) ≡ true → x ≡ true
then_holds true x y e h = h
then_holds false x y e h = absurd (false≢true e)

implied : (b x : Bool) → b ≡ true → implies b x ≡ true → x ≡ true
implied true x e h = h
implied false x e h = absurd (false≢true e)

by_bits : (n size : ℕ) → 8 * size ≡ 8 * n → is_aes_size n ≡ true → is_aes_size size ≡ true
by_bits n size e h = let same : n ≡ size = omega (arith, e) in subst (λ s. is_aes_size s ≡ true) same h

sized : (size : ℕ) → one_in (128 ∷ 192 ∷ 256 ∷ []) (8 * size) ≡ true → is_aes_size size ≡ true
sized size h =
    elim (or_cases (8 * size == 128) ((8 * size == 192) || ((8 * size == 256) || false)) h) [
      | inl one ↦ by_bits 16 size (eqb-true (8 * size) 128 one) refl
      | inr more ↦ elim (or_cases (8 * size == 192) ((8 * size == 256) || false) more) [
        | inl two ↦ by_bits 24 size (eqb-true (8 * size) 192 two) refl
        | inr last ↦ elim (or_cases (8 * size == 256) false last) [
          | inl three ↦ by_bits 32 size (eqb-true (8 * size) 256 three) refl
          | inr none ↦ absurd (false≢true none)
        ]
      ]
    ]

digest_alone : (ps : List Param) → ((length ps == 1) && list_all (λ p. passes (one_in DIGESTS) (as_number p.value)) ps) ≡ true →
    passes (one_in DIGESTS) (option_and_then (λ p. as_number p.value) (slice_get ps 0)) ≡ true
digest_alone [] h = absurd (false≢true h)
digest_alone (p ∷ ps) h =
    let test : Param → Bool = λ q. passes (one_in DIGESTS) (as_number q.value) in
    (and_parts (test p) (list_all test ps) (and_parts (length (p ∷ ps) == 1) (list_all test (p ∷ ps)) h).1).0

known : (list : List Param) → has_known_digest list ≡ true → passes (one_in DIGESTS) (number_of Digest list) ≡ true
known list h =
    subst (λ o. passes (one_in DIGESTS) (option_and_then (λ p. as_number p.value) o) ≡ true) (find-filter (is_of Digest) list) (digest_alone (all_of Digest list) h)

-- a list whose size and digest the rules let through is a key's
pub is_key : (list : List Param) (size : ℕ) → is_allowed_size list (8 * size) ≡ true → has_one_digest list ≡ true → IsKey list size
is_key list size allowed digest = record {
  aes = λ aes. sized size (then_holds (is_aes list) (one_in (128 ∷ 192 ∷ 256 ∷ []) (8 * size)) (is_hmac list && is_whole_bytes 64 512 (8 * size)) aes allowed);
  hmac = λ hmac. known list (implied (is_hmac list) (has_known_digest list) hmac digest);
}

pub usable_key : (list : List Param) (size : ℕ) (ruling : Ruling) → OnOk ruling (is_allowed_size list (8 * size) ≡ true) → OnOk ruling (has_one_digest list ≡ true) → is_ok ruling ≡ true → IsKey list size
usable_key list size (Ok done) allowed digest e = is_key list size allowed digest
usable_key list size (Err broken) allowed digest e = absurd (false≢true e)

-- the size of a generated key
size_alone : (ps : List Param) (test : ℕ → Bool) → is_some (slice_get ps 0) ≡ true → list_all (λ p. passes test (as_number p.value)) ps ≡ true →
    test (unwrap_or (option_and_then (λ p. as_number p.value) (slice_get ps 0)) 0) ≡ true
size_alone [] test there h = absurd (false≢true there)
size_alone (p ∷ ps) test there h =
    let each : Param → Bool = λ q. passes test (as_number q.value) in
    by_number (as_number p.value) (and_parts (each p) (list_all each ps) h).0 where
      by_number : (n : Option ℕ) → passes test n ≡ true → test (unwrap_or n 0) ≡ true
      by_number None e = absurd (false≢true e)
      by_number (Some n) e = e

named_size : (list : List Param) (test : ℕ → Bool) → (stands KeySize list && each KeySize test list) ≡ true → test (unwrap_or (number_of KeySize list) 0) ≡ true
named_size list test h =
    let both = and_parts (stands KeySize list) (each KeySize test list) h in
    subst (λ o. is_some o ≡ true → test (unwrap_or (option_and_then (λ p. as_number p.value) o) 0) ≡ true) (find-filter (is_of KeySize) list)
    (λ there. size_alone (all_of KeySize list) test there both.1) both.0

-- the sizes that are allowed have few bits
pub bits_few : (list : List Param) (bits : ℕ) → is_allowed_size list bits ≡ true → bits ≤ 512
bits_few list bits h = by_algorithm (is_aes list) (is_hmac list) h where
  by_algorithm : (aes hmac : Bool) → (if aes then one_in (128 ∷ 192 ∷ 256 ∷ []) bits else (hmac && is_whole_bytes 64 512 bits)) ≡ true → bits ≤ 512
  by_algorithm true hmac e =
      elim (or_cases (bits == 128) ((bits == 192) || ((bits == 256) || false)) e) [
        | inl one ↦ let is : bits ≡ 128 = eqb-true bits 128 one in omega (arith, is)
        | inr more ↦ elim (or_cases (bits == 192) ((bits == 256) || false) more) [
          | inl two ↦ let is : bits ≡ 192 = eqb-true bits 192 two in omega (arith, is)
          | inr last ↦ elim (or_cases (bits == 256) false last) [
            | inl three ↦ let is : bits ≡ 256 = eqb-true bits 256 three in omega (arith, is)
            | inr none ↦ absurd (false≢true none)
          ]
        ]
      ]
  by_algorithm false hmac e =
      let whole = (and_parts hmac (is_whole_bytes 64 512 bits) e).1 in
      let rest = (and_parts (nat_le 64 bits) (nat_le bits 512 && (bits % 8 == 0)) whole).1 in
      let most = (and_parts (nat_le bits 512) (bits % 8 == 0) rest).0 in
      grind (arith, nat_tests, most)

-- a generated material is short
pub generated_short : (list : List Param) → has_allowed_size None list ≡ true → material_size list ≤ 64
unfolding material_size
generated_short list allowed =
    let few : unwrap_or (number_of KeySize list) 0 ≤ 512 = bits_few list (unwrap_or (number_of KeySize list) 0) (named_size list (is_allowed_size list) allowed) in
    omega (arith, few)

drawn_size : (bits : ℕ) → one_in (128 ∷ 192 ∷ 256 ∷ []) bits ≡ true → is_aes_size (bits / 8) ≡ true
drawn_size bits h =
    elim (or_cases (bits == 128) ((bits == 192) || ((bits == 256) || false)) h) [
      | inl one ↦ subst (λ n. is_aes_size (n / 8) ≡ true) (sym (eqb-true bits 128 one)) refl
      | inr more ↦ elim (or_cases (bits == 192) ((bits == 256) || false) more) [
        | inl two ↦ subst (λ n. is_aes_size (n / 8) ≡ true) (sym (eqb-true bits 192 two)) refl
        | inr last ↦ elim (or_cases (bits == 256) false last) [
          | inl three ↦ subst (λ n. is_aes_size (n / 8) ≡ true) (sym (eqb-true bits 256 three)) refl
          | inr none ↦ absurd (false≢true none)
        ]
      ]
    ]

-- a list and a material that the rules of a new key let through are a key's
pub new_is_key : (import : Option ImportFacts) (list : List Param) → has_allowed_size import list ≡ true → has_one_digest list ≡ true → IsKey list (key_size import list)
unfolding material_size
new_is_key (Some import) list allowed digest = is_key list import.length allowed digest
new_is_key None list allowed digest = record {
  aes = λ aes. drawn_size (unwrap_or (number_of KeySize list) 0)
      (then_holds (is_aes list) (one_in (128 ∷ 192 ∷ 256 ∷ []) (unwrap_or (number_of KeySize list) 0)) (is_hmac list && is_whole_bytes 64 512 (unwrap_or (number_of KeySize list) 0)) aes
      (named_size list (is_allowed_size list) allowed));
  hmac = λ hmac. known list (implied (is_hmac list) (has_known_digest list) hmac digest);
}

-- and so is the call's own list, whatever becomes of its plan
pub new_key_is : (params : List ℕ) (import : Option ImportFacts) (list : List Param) (plan : Result KeyPlan NewFault) → list ≡ list_in params → has_allowed_size import list ≡ true → has_one_digest list ≡ true
    → OnOk plan (IsKey (list_in params) (key_size import (list_in params)))
new_key_is params import list (Ok plan) is allowed digest = subst (λ l. IsKey l (key_size import l)) is (new_is_key import list allowed digest)
new_key_is params import list (Err fault) is allowed digest = tt
