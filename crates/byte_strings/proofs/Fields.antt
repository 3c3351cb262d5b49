-- The codec of each field.
use Rattle.std.proofs.Common.{◌≡◌, ◌⊎◌, ⊎_elim, ℕ, suc, ◌+◌, ◌^◌, ◌<◌, ◌≤◌, Bool, true, false, cond, ltb, eqb, List, [], ◌∷◌, ◌++◌, length, take, drop, Option, Some, None, refl, sym, ap, subst, ◌∙◌, append_assoc, arith, inl, inr}
use Rattle.std.specs.Option.{option_and_then}
use Rattle.std.specs.Int.{w16, w32, w64, from_be_bytes}
use Rattle.std.proofs.lemmas.Bool.{cases_lt, ltb-false, le-ltb, eqb-true}
use Rattle.std.proofs.lemmas.List.{take_at, drop_at, take-append-drop, length-append, length-drop, length-take, length-take-le, get_or-drop, get_or-take, get_or_past}
use Rattle.std.proofs.lemmas.Nat.{be_bytes_2, be_bytes_4, be_bytes_8}
use Rattle.byteorder.specs.Endian.{big_number, big_bytes}
use Rattle.byteorder.specs.Numbers.{big_from-take, big_from-lt, big_number-reads_back, length-bytes_high_first}
use Rattle.byte_strings.specs.Readers.{byte_at, number_at, bytes_at, counted_at, given_at, optional_at, flag_at}
use Rattle.byte_strings.specs.Fields.{counted, optional, flag, IsCounted}
use Rattle.byte_strings.specs.Codecs.{IsBytes, Takes, IsCodec}

-- ---- bytes

pub IsBytes-drop : (n : ℕ) (bytes : List ℕ) → IsBytes bytes → IsBytes (drop n bytes)
IsBytes-drop n bytes h i = rw get_or-drop (h (n + i))

pub IsBytes-take : (n : ℕ) (bytes : List ℕ) → IsBytes bytes → IsBytes (take n bytes)
IsBytes-take n bytes h i =
    elim (cases_lt i n) [
      | inl lt ↦ rw (get_or-take n bytes i 0 lt) (h i)
      | inr le ↦ rw (get_or_past (take n bytes) i 0 (omega (arith, le, length-take n bytes))) (omega arith)
    ]

pub Takes-then : (a x b y c : List ℕ) → Takes a x b → Takes b y c → Takes a (x ++ y) c
Takes-then a x b y c p q = record { parts = p.parts ∙ ap (λ (t : List ℕ). x ++ t) q.parts ∙ sym (append_assoc x y c); rest_fits = q.rest_fits }

pub front_taken : (n : ℕ) (bytes : List ℕ) → IsBytes bytes → Takes bytes (take n bytes) (drop n bytes)
front_taken n bytes fits = record { parts = sym (take-append-drop n bytes); rest_fits = IsBytes-drop n bytes fits }

-- ---- steps that did not fail

pub bind_some : {A B : Type 0} (f : A → Option B) (o : Option A) (y : B) → option_and_then f o ≡ Some y → (x : A) × (o ≡ Some x) × (f x ≡ Some y)
bind_some f None y e = absurd cc
bind_some f (Some x) y e = (x, refl, e)

pub guard_some : {A : Type 0} (b : Bool) (x y : A) → cond b None (Some x) ≡ Some y → (b ≡ false) × (x ≡ y)
guard_some true x y e = absurd cc
guard_some false x y e = (refl, cc)

pub some_is : {A : Type 0} (x y : A) → ◌≡◌ {A = Option A} (Some x) (Some y) → x ≡ y
some_is x y e = cc

pub chosen : {A : Type 0} (b : Bool) (x y z : Option A) → cond b x y ≡ z → ((b ≡ true) × (x ≡ z)) ⊎ ((b ≡ false) × (y ≡ z))
chosen true x y z e = inl (refl, e)
chosen false x y z e = inr (refl, e)

-- ---- one byte

byte_takes : (bytes : List ℕ) (x : ℕ) (rest : List ℕ) → IsBytes bytes → byte_at bytes ≡ Some (x, rest) → Takes bytes (x ∷ []) rest × (x < 2 ^ 8)
byte_takes [] x rest fits e = absurd cc
byte_takes (b ∷ bytes) x rest fits e =
    let pair = some_is (b, bytes) (x, rest) e in
    subst (λ (p : ℕ × List ℕ). Takes (b ∷ bytes) (p.0 ∷ []) p.1 × (p.0 < 2 ^ 8)) pair (record { parts = refl; rest_fits = λ i. fits (suc i) }, omega (arith, fits 0))

pub byte_codec : IsCodec byte_at (λ x. x ∷ []) (λ x. x < 2 ^ 8)
byte_codec = record { takes = byte_takes; again = λ x rest fits. refl }

-- ---- numbers of n bytes

pub record IsWide (n : ℕ) : Type 0 where
  pub back : (bytes : List ℕ) → length bytes ≡ n → IsBytes bytes → big_bytes n (big_number n bytes) ≡ bytes

one_back : (bytes : List ℕ) → length bytes ≡ 1 → IsBytes bytes → big_bytes 1 (big_number 1 bytes) ≡ bytes
one_back [] len fits = absurd (omega (arith, len))
one_back (b ∷ []) len fits = ap (λ (n : ℕ). n ∷ []) (omega (arith, fits 0))
one_back (b ∷ (c ∷ bytes)) len fits = absurd (omega (arith, len))

pub wide1 : IsWide 1
wide1 = record { back = one_back }

pub wide2 : IsWide 2
wide2 = record { back = λ bytes len fits. let e : big_number 2 bytes ≡ from_be_bytes w16 bytes = omega arith in be_bytes_2 bytes _ len fits e }

pub wide4 : IsWide 4
wide4 = record { back = λ bytes len fits. let e : big_number 4 bytes ≡ from_be_bytes w32 bytes = omega arith in be_bytes_4 bytes _ len fits e }

pub wide8 : IsWide 8
wide8 = record { back = λ bytes len fits. let e : big_number 8 bytes ≡ from_be_bytes w64 bytes = omega arith in be_bytes_8 bytes _ len fits e }

pub number_front : (n : ℕ) → IsWide n → (bytes : List ℕ) → IsBytes bytes → n ≤ length bytes → Takes bytes (big_bytes n (big_number n bytes)) (drop n bytes) × (big_number n bytes < 256 ^ n)
number_front n wide bytes fits long =
    let front : big_bytes n (big_number n bytes) ≡ take n bytes =
    ap (big_bytes n) (sym (big_from-take 0 n n bytes (omega arith))) ∙ wide.back (take n bytes) (length-take-le n bytes long) (IsBytes-take n bytes fits) in
    (rw front (front_taken n bytes fits), big_from-lt 0 n bytes fits)

number_takes : (n : ℕ) → IsWide n → (bytes : List ℕ) (x : ℕ) (rest : List ℕ) → IsBytes bytes → number_at n bytes ≡ Some (x, rest) → Takes bytes (big_bytes n x) rest × (x < 256 ^ n)
number_takes n wide bytes x rest fits e =
    let g = guard_some (ltb (length bytes) n) (big_number n bytes, drop n bytes) (x, rest) e in
    subst (λ (p : ℕ × List ℕ). Takes bytes (big_bytes n p.0) p.1 × (p.0 < 256 ^ n)) g.1 (number_front n wide bytes fits (ltb-false _ _ g.0))

pub number_again : (n x : ℕ) (rest : List ℕ) → x < 256 ^ n → number_at n (big_bytes n x ++ rest) ≡ Some (x, rest)
number_again n x rest lt =
    let long : ltb (length (big_bytes n x ++ rest)) n ≡ false = le-ltb _ _ (omega (arith, length-append (big_bytes n x) rest, length-bytes_high_first n x)) in
    rw (long, big_number-reads_back n x rest lt, drop_at (big_bytes n x) rest n (length-bytes_high_first n x)) refl

pub number_codec : (n : ℕ) → IsWide n → IsCodec (number_at n) (big_bytes n) (λ x. x < 256 ^ n)
number_codec n wide = record { takes = number_takes n wide; again = number_again n }

pub u32_codec : IsCodec (number_at 4) (big_bytes 4) (λ x. x < 2 ^ 32)
u32_codec = number_codec 4 wide4

pub u64_codec : IsCodec (number_at 8) (big_bytes 8) (λ x. x < 2 ^ 64)
u64_codec = number_codec 8 wide8

pub number_size : (n : ℕ) (bytes : List ℕ) (x : ℕ) (rest : List ℕ) → number_at n bytes ≡ Some (x, rest) → n + length rest ≡ length bytes
number_size n bytes x rest e =
    let g = guard_some (ltb (length bytes) n) (big_number n bytes, drop n bytes) (x, rest) e in
    subst (λ (p : ℕ × List ℕ). n + length p.1 ≡ length bytes) g.1 (omega (arith, length-drop n bytes, ltb-false _ _ g.0))

-- ---- so many bytes

bytes_parts : (n : ℕ) (bytes text rest : List ℕ) → IsBytes bytes → bytes_at n bytes ≡ Some (text, rest) → Takes bytes text rest × (length text ≡ n) × IsBytes text
bytes_parts n bytes text rest fits e =
    let g = guard_some (ltb (length bytes) n) (take n bytes, drop n bytes) (text, rest) e in
    subst (λ (p : List ℕ × List ℕ). Takes bytes p.0 p.1 × (length p.0 ≡ n) × IsBytes p.0) g.1
    (front_taken n bytes fits, length-take-le n bytes (ltb-false _ _ g.0), IsBytes-take n bytes fits)

pub bytes_again : (n : ℕ) (text rest : List ℕ) → length text ≡ n → bytes_at n (text ++ rest) ≡ Some (text, rest)
bytes_again n text rest len =
    let long : ltb (length (text ++ rest)) n ≡ false = le-ltb _ _ (omega (arith, length-append text rest)) in
    rw (long, take_at text rest n len, drop_at text rest n len) refl

pub bytes_codec : (n : ℕ) → IsCodec (bytes_at n) (λ text. text) (λ text. length text ≡ n)
bytes_codec n = record {
  takes = λ bytes text rest fits e. let p = bytes_parts n bytes text rest fits e in (p.0, p.1);
  again = bytes_again n;
}

-- ---- counted bytes

-- the bytes that were counted are bytes too
pub counted_parts : (n : ℕ) → IsWide n → (bytes text rest : List ℕ) → IsBytes bytes → counted_at n bytes ≡ Some (text, rest) → Takes bytes (counted n text) rest × (length text < 256 ^ n) × IsBytes text
unfolding counted_at
counted_parts n wide bytes text rest fits e =
    let b = bind_some (λ (size : ℕ × List ℕ). bytes_at size.0 size.1) (number_at n bytes) (text, rest) e in
    let size = b.0 in
    let t = number_takes n wide bytes size.0 size.1 fits b.1 in
    let p = bytes_parts size.0 size.1 text rest t.0.rest_fits b.2 in
    let len : length text ≡ size.0 = p.1 in
    let sized : Takes bytes (big_bytes n (length text)) size.1 = subst (λ (k : ℕ). Takes bytes (big_bytes n k) size.1) (sym len) t.0 in
    (Takes-then bytes (big_bytes n (length text)) size.1 text rest sized p.0, subst (λ (k : ℕ). k < 256 ^ n) (sym len) t.1, p.2)

pub counted_again : (n : ℕ) (text rest : List ℕ) → length text < 256 ^ n → counted_at n (counted n text ++ rest) ≡ Some (text, rest)
unfolding counted_at
counted_again n text rest lt =
    let number : number_at n (counted n text ++ rest) ≡ Some (length text, text ++ rest) =
    ap (number_at n) (append_assoc (big_bytes n (length text)) text rest) ∙ number_again n (length text) (text ++ rest) lt in
    rw number (bytes_again (length text) text rest refl)

pub counted_codec : (n : ℕ) → IsWide n → IsCodec (counted_at n) (counted n) (λ text. length text < 256 ^ n)
counted_codec n wide = record {
  takes = λ bytes text rest fits e. let p = counted_parts n wide bytes text rest fits e in (p.0, p.1);
  again = counted_again n;
}

pub counted_u32_codec : IsCodec (counted_at 4) (counted 4) (λ text. length text < 2 ^ 32)
counted_u32_codec = counted_codec 4 wide4

-- what is taken is as long as its spelling, whatever numbers stand for the bytes
pub counted_size : (n : ℕ) (bytes text rest : List ℕ) → counted_at n bytes ≡ Some (text, rest) → length (counted n text) + length rest ≡ length bytes
unfolding counted_at
counted_size n bytes text rest e =
    let b = bind_some (λ (size : ℕ × List ℕ). bytes_at size.0 size.1) (number_at n bytes) (text, rest) e in
    let left : List ℕ = b.0.1 in
    let g = guard_some (ltb (length left) b.0.0) (take b.0.0 left, drop b.0.0 left) (text, rest) b.2 in
    let parts : length text + length rest ≡ length left =
    subst (λ (p : List ℕ × List ℕ). length p.0 + length p.1 ≡ length left) g.1 (sym (length-append (take b.0.0 left) (drop b.0.0 left)) ∙ ap (λ (l : List ℕ). length l) (take-append-drop b.0.0 left)) in
    omega (arith, parts, number_size n bytes b.0.0 left b.1, length-append (big_bytes n (length text)) text, length-bytes_high_first n (length text))

-- ---- a byte that chooses

-- what a byte 00 says, and what is read behind a byte 01
module _ {A : Type 0} (none : A) (some : List ℕ → Option (A × List ℕ)) (IsSo : List ℕ → A → Type 0) where
  abbrev choice_at : List ℕ → Option (A × List ℕ)
  choice_at bytes = option_and_then (λ (b : ℕ × List ℕ). cond (eqb b.0 0) (Some (none, b.1)) (cond (eqb b.0 1) (some b.1) None)) (byte_at bytes)

  pub choice_takes : IsSo (0 ∷ []) none → ((bytes : List ℕ) (x : A) (rest : List ℕ) → IsBytes bytes → some bytes ≡ Some (x, rest) → (text : List ℕ) × Takes bytes text rest × IsSo (1 ∷ text) x)
      → (bytes : List ℕ) (x : A) (rest : List ℕ) → IsBytes bytes → choice_at bytes ≡ Some (x, rest) → (text : List ℕ) × Takes bytes text rest × IsSo text x
  choice_takes is_none is_some bytes x rest fits e =
      let b = bind_some (λ (b : ℕ × List ℕ). cond (eqb b.0 0) (Some (none, b.1)) (cond (eqb b.0 1) (some b.1) None)) (byte_at bytes) (x, rest) e in
      let t = byte_codec.takes bytes b.0.0 b.0.1 fits b.1 in
      ⊎_elim
      (λ (p : (eqb b.0.0 0 ≡ true) × (◌≡◌ {A = Option (A × List ℕ)} (Some (none, b.0.1)) (Some (x, rest)))).
      let whole : Takes bytes (0 ∷ []) b.0.1 = subst (λ (n : ℕ). Takes bytes (n ∷ []) b.0.1) (eqb-true b.0.0 0 p.0) t.0 in
      subst (λ (q : A × List ℕ). (text : List ℕ) × Takes bytes text q.1 × IsSo text q.0) (some_is (none, b.0.1) (x, rest) p.1) (0 ∷ [], whole, is_none))
      (λ (p : (eqb b.0.0 0 ≡ false) × (cond (eqb b.0.0 1) (some b.0.1) None ≡ Some (x, rest))). ⊎_elim
      (λ (q : (eqb b.0.0 1 ≡ true) × (some b.0.1 ≡ Some (x, rest))).
      let whole : Takes bytes (1 ∷ []) b.0.1 = subst (λ (n : ℕ). Takes bytes (n ∷ []) b.0.1) (eqb-true b.0.0 1 q.0) t.0 in
      let g = is_some b.0.1 x rest t.0.rest_fits q.1 in
      (1 ∷ g.0, Takes-then bytes (1 ∷ []) b.0.1 g.0 rest whole g.1, g.2))
      (λ (q : (eqb b.0.0 1 ≡ false) × (◌≡◌ {A = Option (A × List ℕ)} None (Some (x, rest)))). absurd (let never = q.1 in cc))
      (chosen (eqb b.0.0 1) (some b.0.1) None (Some (x, rest)) p.1))
      (chosen (eqb b.0.0 0) (Some (none, b.0.1)) (cond (eqb b.0.0 1) (some b.0.1) None) (Some (x, rest)) b.2)

-- ---- a field that may be absent

abbrev IsOptional : ℕ → List ℕ → Option (List ℕ) → Type 0
IsOptional n text x = (text ≡ optional n x) × IsCounted n x

given_takes : (n : ℕ) → IsWide n → (bytes : List ℕ) (x : Option (List ℕ)) (rest : List ℕ) → IsBytes bytes → given_at n bytes ≡ Some (x, rest) → (text : List ℕ) × Takes bytes text rest × IsOptional n (1 ∷ text) x
given_takes n wide bytes x rest fits e =
    let b = bind_some (λ (t : List ℕ × List ℕ). Some (Some t.0, t.1)) (counted_at n bytes) (x, rest) e in
    let t = counted_parts n wide bytes b.0.0 b.0.1 fits b.1 in
    let given : IsOptional n (1 ∷ counted n b.0.0) (Some b.0.0) = (refl, t.1) in
    subst (λ (q : Option (List ℕ) × List ℕ). (text : List ℕ) × Takes bytes text q.1 × IsOptional n (1 ∷ text) q.0) (some_is (Some b.0.0, b.0.1) (x, rest) b.2) (counted n b.0.0, t.0, given)

optional_takes : (n : ℕ) → IsWide n → (bytes : List ℕ) (x : Option (List ℕ)) (rest : List ℕ) → IsBytes bytes → optional_at n bytes ≡ Some (x, rest) → Takes bytes (optional n x) rest × IsCounted n x
unfolding optional_at
optional_takes n wide bytes x rest fits e =
    let c = choice_takes None (given_at n) (IsOptional n) (refl, tt) (given_takes n wide) bytes x rest fits e in
    (subst (λ (text : List ℕ). Takes bytes text rest) c.2.0 c.1, c.2.1)

optional_again : (n : ℕ) (x : Option (List ℕ)) (rest : List ℕ) → IsCounted n x → optional_at n (optional n x ++ rest) ≡ Some (x, rest)
unfolding optional_at
optional_again n None rest fits = refl
optional_again n (Some text) rest fits = rw (counted_again n text rest fits) refl

pub optional_codec : (n : ℕ) → IsWide n → IsCodec (optional_at n) (optional n) (IsCounted n)
optional_codec n wide = record { takes = optional_takes n wide; again = optional_again n }

-- ---- a truth value

flag_takes : (bytes : List ℕ) (x : Bool) (rest : List ℕ) → IsBytes bytes → flag_at bytes ≡ Some (x, rest) → Takes bytes (flag x) rest × Unit {0}
unfolding flag_at
flag_takes bytes x rest fits e =
    let c = choice_takes false (λ (l : List ℕ). Some (true, l)) (λ text x. text ≡ flag x) refl
    (λ l y left small g. subst (λ (q : Bool × List ℕ). (text : List ℕ) × Takes l text q.1 × (1 ∷ text ≡ flag q.0)) (some_is (true, l) (y, left) g) ([], record { parts = refl; rest_fits = small }, refl)) bytes x rest fits e in
    (subst (λ (text : List ℕ). Takes bytes text rest) c.2 c.1, tt)

flag_again : (x : Bool) (rest : List ℕ) → Unit {0} → flag_at (flag x ++ rest) ≡ Some (x, rest)
unfolding flag_at
flag_again true rest fits = refl
flag_again false rest fits = refl

pub flag_codec : IsCodec flag_at flag (λ _. Unit {0})
flag_codec = record { takes = flag_takes; again = flag_again }
