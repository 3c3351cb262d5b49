-- What holds of the plan and of the nonce where the lists agree.
use Rattle.std.proofs.Common.{◌≡◌, ℕ, ◌*◌, ◌/◌, ◌≤◌, Bool, true, false, ◌&&◌, ◌||◌, not, ◌==◌, if◌then◌else◌, List, [], ◌∷◌, length, Option, Some, None, refl, sym, subst, arith, inl, inr}
use Rattle.std.specs.Prelude.{slice_get, is_some, unwrap_or, MatchOption}
use Rattle.std.specs.Option.{option_and_then, option_or}
use Rattle.std.proofs.lemmas.Bool.Decides.{nat_tests}
use Rattle.std.proofs.lemmas.Bool.{or_cases, eqb-true, false≢true, true≢false}
use Rattle.tags.specs.declared.param.Param.{Param}
use Rattle.tags.specs.declared.plan.Plan.{Plan}
use Rattle.tags.specs.declared.plan.Plan.TheVariants.{Ecb, Cbc, Ctr, Gcm, HmacSign, HmacVerify}
use Rattle.tags.specs.declared.tag.Tag.TheVariants.{Purpose, BlockMode, Digest, Padding, Nonce, MacLength}
use Rattle.tags.specs.Param.{as_number}
use Rattle.tags.specs.Plan.{IsWorkable, is_aes_size, nonce_bytes, takes_key}
use Rattle.tags.specs.Values.{AES_PURPOSES, CBC, CTR, DIGESTS, ECB, ENCRYPT, HMAC_PURPOSES, MODES, PKCS7, digest_bits, implies, is_whole_bytes, one_in, passes}
use Rattle.tag_lists.specs.Lookups.{IsKey, all_of, bytes_of, is_aes, is_hmac, is_of, is_only, number_alone, number_of, only_number, stands}
use Rattle.tag_lists.proofs.Lookups.{find-filter}
use Rattle.use_rules.specs.Rules.{is_sign, names_known_digest, digest_of, least_bits, has_size}
use Rattle.use_rules.specs.Plans.{byte, cipher_plan, mac_plan, plan_of, length_bytes, NonceFits, nonce_given, nonce_wanted}
use Rattle.use_rules.specs.Table.{Agree}

abbrev is_mode : ℕ → Bool
is_mode = one_in MODES

abbrev is_digest : ℕ → Bool
is_digest = one_in DIGESTS

or_none : (b : Bool) → (b || false) ≡ true → b ≡ true
or_none true e = refl
or_none false e = absurd (false≢true e)

-- a mode that the rules let through is one of four
each_mode : (P : ℕ → Type 0) (mode : ℕ) → is_mode mode ≡ true → P 1 → P 2 → P 3 → P 32 → P mode
each_mode P mode e p1 p2 p3 p32 =
    elim (or_cases (mode == 1) ((mode == 2) || ((mode == 3) || ((mode == 32) || false))) e) [
      | inl one ↦ subst P (sym (eqb-true mode 1 one)) p1
      | inr more ↦ elim (or_cases (mode == 2) ((mode == 3) || ((mode == 32) || false)) more) [
        | inl two ↦ subst P (sym (eqb-true mode 2 two)) p2
        | inr last ↦ elim (or_cases (mode == 3) ((mode == 32) || false) last) [
          | inl three ↦ subst P (sym (eqb-true mode 3 three)) p3
          | inr four ↦ subst P (sym (eqb-true mode 32 (or_none (mode == 32) four))) p32
        ]
      ]
    ]

-- and a digest is one of four
each_digest : (P : ℕ → Type 0) (digest : ℕ) → is_digest digest ≡ true → P 3 → P 4 → P 5 → P 6 → P digest
each_digest P digest e p3 p4 p5 p6 =
    elim (or_cases (digest == 3) ((digest == 4) || ((digest == 5) || ((digest == 6) || false))) e) [
      | inl one ↦ subst P (sym (eqb-true digest 3 one)) p3
      | inr more ↦ elim (or_cases (digest == 4) ((digest == 5) || ((digest == 6) || false)) more) [
        | inl two ↦ subst P (sym (eqb-true digest 4 two)) p4
        | inr last ↦ elim (or_cases (digest == 5) ((digest == 6) || false) last) [
          | inl three ↦ subst P (sym (eqb-true digest 5 three)) p5
          | inr four ↦ subst P (sym (eqb-true digest 6 (or_none (digest == 6) four))) p6
        ]
      ]
    ]

digest_value : (asked own : Option ℕ) → passes is_digest asked ≡ true → is_digest (unwrap_or (option_or asked own) 0) ≡ true
digest_value None own h = absurd (false≢true h)
digest_value (Some n) own h = h

digest_in : (ps : List Param) (own : Option ℕ) → (not (is_some (slice_get ps 0)) || passes is_digest (number_alone ps)) ≡ true → passes is_digest own ≡ true → is_digest (unwrap_or (option_or (option_and_then (λ p. as_number p.value) (slice_get ps 0)) own) 0) ≡ true
digest_in [] None h k = absurd (false≢true k)
digest_in [] (Some n) h k = k
digest_in (p ∷ []) own h k = digest_value (as_number p.value) own h
digest_in (p ∷ q ∷ ps) own h k = absurd (false≢true h)

digest_known : (asked key : List Param) → (not (stands Digest asked) || names_known_digest asked) ≡ true → passes is_digest (number_of Digest key) ≡ true → is_digest (digest_of asked key) ≡ true
digest_known asked key h k =
    subst (λ o. (not (is_some o) || passes is_digest (number_alone (all_of Digest asked))) ≡ true → is_digest (unwrap_or (option_or (option_and_then (λ p. as_number p.value) o) (number_of Digest key)) 0) ≡ true)
    (find-filter (is_of Digest) asked) (λ e. digest_in (all_of Digest asked) (number_of Digest key) e k) h

hmac_of : (aes hmac : Bool) (p : Option ℕ) → passes (λ q. if aes then one_in AES_PURPOSES q else hmac && one_in HMAC_PURPOSES q) p ≡ true → aes ≡ false → hmac ≡ true
hmac_of aes hmac None h e = absurd (false≢true h)
hmac_of true hmac (Some q) h e = absurd (true≢false e)
hmac_of false true (Some q) h e = refl
hmac_of false false (Some q) h e = absurd (false≢true h)

then_holds : (b x : Bool) → b ≡ true → (not b || x) ≡ true → x ≡ true
then_holds true x e h = h
then_holds false x e h = absurd (false≢true e)

or_true : (b x : Bool) → (not (b || true) || x) ≡ true → x ≡ true
or_true true x h = h
or_true false x h = h

-- the bytes of so many bits
size_within : (most bits : ℕ) → most ≤ 512 → is_whole_bytes 0 most bits ≡ true → 8 * byte (bits / 8) ≤ most
size_within most bits few h = grind (arith, nat_tests)

gcm_tag : (l : Option ℕ) → passes (is_whole_bytes 96 128) l ≡ true → (12 ≤ byte (unwrap_or l 0 / 8)) × (byte (unwrap_or l 0 / 8) ≤ 16)
gcm_tag None h = absurd (false≢true h)
gcm_tag (Some bits) h = grind (arith, nat_tests)

-- AES by its mode
abbrev cipher_by : Option ℕ → Bool → Bool → ℕ → Plan
cipher_by m seal padded tag =
    if passes (λ own. own == 1) m then Ecb seal padded else
    if passes (λ own. own == 2) m then Cbc seal padded else
    if passes (λ own. own == 3) m then Ctr else
    Gcm seal tag

abbrev fits_length : Bool → ℕ → ℕ → Bool
fits_length gcm most bits = if gcm then is_whole_bytes 96 128 bits else is_whole_bytes 0 most bits

cipher_works : (sign : Bool) (m l : Option ℕ) (seal padded : Bool) (most : ℕ) → passes is_mode m ≡ true →
    (not (sign || passes (λ own. own == 32) m) || passes (fits_length (passes (λ own. own == 32) m) most) l) ≡ true →
    IsWorkable (cipher_by m seal padded (byte (unwrap_or l 0 / 8)))
cipher_works sign None l seal padded most e h = absurd (false≢true e)
cipher_works sign (Some mode) l seal padded most e h =
    each_mode (λ mode. (not (sign || (mode == 32)) || passes (fits_length (mode == 32) most) l) ≡ true → IsWorkable (cipher_by (Some mode) seal padded (byte (unwrap_or l 0 / 8))))
    mode e (λ given. tt) (λ given. tt) (λ given. tt) (λ given. gcm_tag l (or_true sign (passes (fits_length true most) l) given)) h

digest_works : (digest : ℕ) → is_digest digest ≡ true → (3 ≤ byte digest) × (byte digest ≤ 6)
digest_works digest e = each_digest (λ digest. (3 ≤ byte digest) × (byte digest ≤ 6)) digest e (omega arith, omega arith) (omega arith, omega arith) (omega arith, omega arith) (omega arith, omega arith)

size_works : (digest bits : ℕ) → is_digest digest ≡ true → fits_length false (digest_bits digest) bits ≡ true → 8 * byte (bits / 8) ≤ digest_bits (byte digest)
size_works digest bits e h =
    each_digest (λ digest. fits_length false (digest_bits digest) bits ≡ true → 8 * byte (bits / 8) ≤ digest_bits (byte digest)) digest e
    (size_within 224 bits (omega arith)) (size_within 256 bits (omega arith)) (size_within 384 bits (omega arith)) (size_within 512 bits (omega arith)) h

mac_works : (sign : Bool) (l : Option ℕ) (digest least : ℕ) → is_digest digest ≡ true → (not (sign || false) || passes (fits_length false (digest_bits digest)) l) ≡ true →
    IsWorkable (if sign then HmacSign (byte digest) (byte (unwrap_or l 0 / 8)) else HmacVerify (byte digest) (byte (least / 8)))
mac_works false l digest least e h = digest_works digest e
mac_works true None digest least e h = absurd (false≢true h)
mac_works true (Some bits) digest least e h = ((digest_works digest e).0, (digest_works digest e).1, size_works digest bits e h)

works : (aes sign : Bool) (m l : Option ℕ) (seal padded : Bool) (digest least : ℕ) →
    (not aes || passes is_mode m) ≡ true →
    (not (sign || (aes && passes (λ own. own == 32) m)) || passes (fits_length (aes && passes (λ own. own == 32) m) (digest_bits digest)) l) ≡ true →
    (aes ≡ false → is_digest digest ≡ true) →
    IsWorkable (if aes then cipher_by m seal padded (byte (unwrap_or l 0 / 8))
    else (if sign then HmacSign (byte digest) (byte (unwrap_or l 0 / 8)) else HmacVerify (byte digest) (byte (least / 8))))
works true sign m l seal padded digest least mode sized known = cipher_works sign m l seal padded (digest_bits digest) mode sized
works false sign m l seal padded digest least mode sized known = mac_works sign l digest least (known refl) sized

-- the plan's numbers are those of the standards
pub workable : (asked key : List Param) → Agree asked key → (size : ℕ) → IsKey key size → IsWorkable (plan_of asked key)
unfolding plan_of
workable asked key agree size is =
    works (is_aes key) (is_sign asked) (only_number BlockMode asked) (number_of MacLength asked) (is_only Purpose ENCRYPT asked) (is_only Padding PKCS7 asked)
    (digest_of asked key) (least_bits key) agree.mode agree.fit_length
    (λ other. let hmac = hmac_of (is_aes key) (is_hmac key) (only_number Purpose asked) agree.purpose other in
    digest_known asked key (then_holds (is_hmac key) (implies (stands Digest asked) (names_known_digest asked)) hmac agree.digest) (is.hmac hmac))

cipher_takes : (ecb cbc ctr seal padded : Bool) (tag size : ℕ) → is_aes_size size ≡ true →
    takes_key (if ecb then Ecb seal padded else if cbc then Cbc seal padded else if ctr then Ctr else Gcm seal tag) size ≡ true
cipher_takes true cbc ctr seal padded tag size h = h
cipher_takes false true ctr seal padded tag size h = h
cipher_takes false false true seal padded tag size h = h
cipher_takes false false false seal padded tag size h = h

mac_takes : (sign : Bool) (digest n least size : ℕ) → takes_key (if sign then HmacSign digest n else HmacVerify digest least) size ≡ true
mac_takes true digest n least size = refl
mac_takes false digest n least size = refl

by_algorithm : (aes : Bool) (cipher mac : Plan) (size : ℕ) → (aes ≡ true → takes_key cipher size ≡ true) → takes_key mac size ≡ true → takes_key (if aes then cipher else mac) size ≡ true
by_algorithm true cipher mac size h m = h refl
by_algorithm false cipher mac size h m = m

-- the plan takes the key's material
pub takes : (asked key : List Param) (size : ℕ) → IsKey key size → takes_key (plan_of asked key) size ≡ true
unfolding plan_of
takes asked key size is =
    by_algorithm (is_aes key) (cipher_plan asked) (mac_plan asked key) size
    (λ aes. cipher_takes (is_only BlockMode ECB asked) (is_only BlockMode CBC asked) (is_only BlockMode CTR asked) (is_only Purpose ENCRYPT asked) (is_only Padding PKCS7 asked) (length_bytes asked) size (is.aes aes))
    (mac_takes (is_sign asked) (byte (digest_of asked key)) (length_bytes asked) (byte (least_bits key / 8)) size)

drawn_by : (zero_is one_is : Bool) (size : ℕ) → (zero_is || (one_is || false)) ≡ true → (not one_is || false) ≡ true → (if zero_is && true then size else 0) ≡ size
drawn_by true one_is size e h = refl
drawn_by false true size e h = absurd (false≢true h)
drawn_by false false size e h = absurd (false≢true e)

none_drawn : (b : Bool) (size : ℕ) → (if b && false then size else 0) ≡ 0
none_drawn true size = refl
none_drawn false size = refl

abbrev drawn : ℕ → Option ℕ → Option (List ℕ) → ℕ
drawn size p n = if passes (λ own. own == 0) p && not (is_some n) then size else 0

sized : (size : ℕ) (p : Option ℕ) (n : Option (List ℕ)) → passes (one_in AES_PURPOSES) p ≡ true →
    (not (passes (λ own. own == 1) p) || is_some n) ≡ true → has_size size n ≡ true →
    MatchOption n (drawn size p n ≡ size) (λ nonce. (length nonce ≡ size) × (drawn size p n ≡ 0))
sized size None n e has fits = absurd (false≢true e)
sized size (Some q) None e has fits = drawn_by (q == 0) (q == 1) size e has
sized size (Some q) (Some bytes) e has fits = (eqb-true (length bytes) size fits, none_drawn (q == 0) size)

abbrev starts : Bool → Option ℕ → Bool
starts aes m = aes && (passes (λ own. own == 2) m || (passes (λ own. own == 3) m || passes (λ own. own == 32) m))

abbrev size_by : Bool → Option ℕ → ℕ
size_by aes m = if aes && passes (λ own. own == 32) m then 12 else 16

abbrev Fitting : Bool → Option ℕ → Option ℕ → Option (List ℕ) → Plan → Type 0
Fitting aes m p n plan =
    MatchOption (if starts aes m then n else None)
    ((if starts aes m && (passes (λ own. own == 0) p && not (is_some n)) then size_by aes m else 0) ≡ nonce_bytes plan)
    (λ nonce. (length nonce ≡ nonce_bytes plan) × ((if starts aes m && (passes (λ own. own == 0) p && not (is_some n)) then size_by aes m else 0) ≡ 0))

fitting_cipher : (m p : Option ℕ) (n : Option (List ℕ)) (seal padded : Bool) (tag : ℕ) → passes is_mode m ≡ true →
    passes (one_in AES_PURPOSES) p ≡ true →
    (not (starts true m) || (not (passes (λ own. own == 1) p) || is_some n)) ≡ true →
    (not (starts true m) || has_size (size_by true m) n) ≡ true →
    Fitting true m p n (cipher_by m seal padded tag)
fitting_cipher None p n seal padded tag e purpose has fits = absurd (false≢true e)
fitting_cipher (Some mode) p n seal padded tag e purpose has fits =
    each_mode (λ mode. (not (starts true (Some mode)) || (not (passes (λ own. own == 1) p) || is_some n)) ≡ true →
    (not (starts true (Some mode)) || has_size (size_by true (Some mode)) n) ≡ true → Fitting true (Some mode) p n (cipher_by (Some mode) seal padded tag))
    mode e (λ h f. refl) (sized 16 p n purpose) (sized 16 p n purpose) (sized 12 p n purpose) has fits

mac_none : (sign : Bool) (digest size least : ℕ) → 0 ≡ nonce_bytes (if sign then HmacSign digest size else HmacVerify digest least)
mac_none true digest size least = refl
mac_none false digest size least = refl

fitting : (aes hmac sign : Bool) (m p : Option ℕ) (n : Option (List ℕ)) (seal padded : Bool) (tag digest size least : ℕ) →
    passes (λ q. if aes then one_in AES_PURPOSES q else hmac && one_in HMAC_PURPOSES q) p ≡ true →
    (not aes || passes is_mode m) ≡ true →
    (not (starts aes m) || (not (passes (λ own. own == 1) p) || is_some n)) ≡ true →
    (not (starts aes m) || has_size (size_by aes m) n) ≡ true →
    Fitting aes m p n (if aes then cipher_by m seal padded tag else (if sign then HmacSign digest size else HmacVerify digest least))
fitting true hmac sign m p n seal padded tag digest size least purpose mode has fits = fitting_cipher m p n seal padded tag mode purpose has fits
fitting false hmac sign m p n seal padded tag digest size least purpose mode has fits = mac_none sign digest size least

-- the nonce has the plan's bytes
pub nonce_fits : (asked key : List Param) → Agree asked key → NonceFits asked key (plan_of asked key)
unfolding plan_of nonce_given nonce_wanted
nonce_fits asked key agree =
    fitting (is_aes key) (is_hmac key) (is_sign asked) (only_number BlockMode asked) (only_number Purpose asked) (bytes_of Nonce asked)
    (is_only Purpose ENCRYPT asked) (is_only Padding PKCS7 asked) (length_bytes asked) (byte (digest_of asked key)) (length_bytes asked) (byte (least_bits key / 8))
    agree.purpose agree.mode agree.nonce agree.fit_nonce
