-- What stands at the front of bytes, both ways.
use Rattle.std.proofs.Common.{◌≡◌, ℕ, ◌+◌, ◌-◌, ◌<◌, ◌≤◌, Bool, true, false, cond, ltb, List, [], ◌++◌, length, take, drop, Option, Some, None, refl, sym, ap, subst, ◌∙◌, arith, inl, inr, append_assoc}
use Rattle.std.proofs.lemmas.Bool.{cases_lt, lt-ltb, ltb-false, le-ltb, ltb-true}
use Rattle.std.proofs.lemmas.List.{take_at, drop_at, take-append-drop, take-append-le, drop-append-le, length-append, length-take-le, length-drop, nil_from_length}
use Rattle.byteorder.specs.Endian.{big_number, big_bytes}
use Rattle.byteorder.specs.Numbers.{big_from-append, big_number-reads_back, length-bytes_high_first}
use Rattle.rule_model.specs.declared.event.Act.{Act}
use Rattle.wire_frames.specs.declared.front.Front.TheVariants.{Part, Bad, Whole}
use Rattle.wire_frames.specs.Spelling.{counted, body_of, frame_of, IsRequest, AreFields}
use Rattle.wire_frames.specs.Reading.{act_in}
use Rattle.wire_frames.specs.Streams.{announced, is_length, needed, IsPart, IsBad, whole_in, front_of}
use Rattle.byte_strings.specs.Codecs.{IsBytes}
use Rattle.byte_strings.proofs.Fields.{IsBytes-take, IsBytes-drop, number_front, wide4}
use Rattle.wire_frames.proofs.Bodies.{act_takes, act_again}
use Rattle.tags.specs.declared.limits.TheConstants.{FRAME_BYTES}

-- ---- how many bytes are needed

size_least : (b c : Bool) (n : ℕ) → 4 ≤ cond b 4 (cond c (4 + n) 4)
size_least true c n = omega arith
size_least false true n = omega arith
size_least false false n = omega arith

pub needed_least : (bytes : List ℕ) → 4 ≤ needed bytes
needed_least bytes = size_least (ltb (length bytes) 4) (is_length (announced bytes)) (announced bytes)

size_most : (b c : Bool) (n : ℕ) → (c ≡ true → n ≤ FRAME_BYTES) → cond b 4 (cond c (4 + n) 4) ≤ 4 + FRAME_BYTES
size_most true c n le = omega arith
size_most false true n le = let m = le refl in omega (arith, m)
size_most false false n le = omega arith

pub needed_low : (bytes : List ℕ) → length bytes < 4 → needed bytes ≡ 4
needed_low bytes lt = rw (lt-ltb (length bytes) 4 lt) refl

pub needed_whole : (bytes : List ℕ) → 4 ≤ length bytes → is_length (announced bytes) ≡ true → needed bytes ≡ 4 + announced bytes
needed_whole bytes le fit = rw (le-ltb (length bytes) 4 le, fit) refl

pub needed_odd : (bytes : List ℕ) → 4 ≤ length bytes → is_length (announced bytes) ≡ false → needed bytes ≡ 4
needed_odd bytes le odd = rw (le-ltb (length bytes) 4 le, odd) refl

pub announced_more : (bytes more : List ℕ) → 4 ≤ length bytes → announced (bytes ++ more) ≡ announced bytes
announced_more bytes more le = big_from-append 4 bytes more le

pub needed_more : (bytes more : List ℕ) → 4 ≤ length bytes → needed (bytes ++ more) ≡ needed bytes
needed_more bytes more le =
    let longer : 4 ≤ length (bytes ++ more) = omega (arith, length-append bytes more) in
    rw (le-ltb (length bytes) 4 le, le-ltb (length (bytes ++ more)) 4 longer, announced_more bytes more le) refl

-- a length that a body may have
pub length_fits : (n : ℕ) → is_length n ≡ true → (1 ≤ n) × (n ≤ FRAME_BYTES)
length_fits n e = grind arith

pub needed_most : (bytes : List ℕ) → needed bytes ≤ 4 + FRAME_BYTES
needed_most bytes = size_most (ltb (length bytes) 4) (is_length (announced bytes)) (announced bytes) (λ e. (length_fits (announced bytes) e).1)

pub fits_length : (n : ℕ) → 1 ≤ n → n ≤ FRAME_BYTES → is_length n ≡ true
fits_length n le most = grind arith

-- ---- the front, by its cases

part_only : (b c : Bool) (m : ℕ) (o : Option Act) (s k : ℕ) → cond b (Part m) (cond c (whole_in o s) Bad) ≡ Part k → b ≡ true
part_only true c m o s k e = refl
part_only false true m None s k e = absurd cc
part_only false true m (Some act) s k e = absurd cc
part_only false false m o s k e = absurd cc

bad_only : (b c : Bool) (m : ℕ) (o : Option Act) (s : ℕ) → cond b (Part m) (cond c (whole_in o s) Bad) ≡ Bad → (b ≡ false) × (c ≡ true → o ≡ None)
bad_only true c m o s e = absurd cc
bad_only false true m None s e = (refl, λ _. refl)
bad_only false true m (Some act) s e = absurd cc
bad_only false false m o s e = (refl, λ z. absurd cc)

whole_only : (b c : Bool) (m : ℕ) (o : Option Act) (s : ℕ) (act : Act) (n : ℕ) → cond b (Part m) (cond c (whole_in o s) Bad) ≡ Whole act n → (b ≡ false) × (c ≡ true) × (o ≡ Some act) × (s ≡ n)
whole_only true c m o s act n e = absurd cc
whole_only false true m None s act n e = absurd cc
whole_only false true m (Some a) s act n e = (refl, refl, ap Some cc, cc)
whole_only false false m o s act n e = absurd cc

-- ---- what the front says

pub part_is : (bytes : List ℕ) (k : ℕ) → front_of bytes ≡ Part k → IsPart bytes
unfolding front_of
part_is bytes k e = ltb-true (length bytes) (needed bytes) (part_only (ltb (length bytes) (needed bytes)) (is_length (announced bytes)) _ _ _ k e)

pub bad_is : (bytes : List ℕ) → front_of bytes ≡ Bad → IsBad bytes
unfolding front_of
bad_is bytes e =
    let b = bad_only (ltb (length bytes) (needed bytes)) (is_length (announced bytes)) _ (act_in (take (announced bytes) (drop 4 bytes))) (needed bytes) e in record {
      whole = ltb-false _ _ b.0;
      none = λ fit act request is.
          let none : act_in (take (announced bytes) (drop 4 bytes)) ≡ None = b.1 fit in
          let some : act_in (take (announced bytes) (drop 4 bytes)) ≡ Some act = ap act_in (sym is) ∙ act_again act request.0 in
          let never : ◌≡◌ {A = Option Act} None (Some act) = sym none ∙ some in absurd cc;
    }

-- a whole frame at the front
pub record IsFront (bytes : List ℕ) (act : Act) (size : ℕ) : Type 0 where
  pub parts : bytes ≡ frame_of act ++ drop size bytes
  pub inside : size ≤ length bytes
  pub some : 4 < size
  pub exact : size ≡ needed bytes
  pub request : IsRequest act

pub whole_is : (bytes : List ℕ) (act : Act) (size : ℕ) → IsBytes bytes → front_of bytes ≡ Whole act size → IsFront bytes act size
unfolding front_of frame_of
whole_is bytes act size fits e =
    let n : ℕ = announced bytes in
    let body : List ℕ = take n (drop 4 bytes) in
    let w = whole_only (ltb (length bytes) (needed bytes)) (is_length n) _ (act_in body) (needed bytes) act size e in
    let long : needed bytes ≤ length bytes = ltb-false _ _ w.0 in
    let four : 4 ≤ length bytes = omega (arith, needed_least bytes, long) in
    let whole : needed bytes ≡ 4 + n = needed_whole bytes four w.1 in
    let fit = length_fits n w.1 in
    let least = fit.0 in
    let greatest = fit.1 in
    let t = number_front 4 wide4 bytes fits four in
    let left : length (drop 4 bytes) ≡ length bytes - 4 = length-drop 4 bytes in
    let len : length body ≡ n = length-take-le n (drop 4 bytes) (omega arith) in
    let a = act_takes body act (IsBytes-take n (drop 4 bytes) (IsBytes-drop 4 bytes fits)) w.2 in
    let is : bytes ≡ counted body ++ drop n (drop 4 bytes) =
    t.0.parts ∙ (λ i. big_bytes 4 (sym len i) ++ sym (take-append-drop n (drop 4 bytes)) i) ∙ sym (append_assoc (big_bytes 4 (length body)) body (drop n (drop 4 bytes))) in
    let spelled : bytes ≡ counted (body_of act) ++ drop n (drop 4 bytes) = is ∙ ap (λ (l : List ℕ). counted l ++ drop n (drop 4 bytes)) a.0 in
    let lengths = ap length a.0 in
    let frame_long : length (counted (body_of act)) ≡ size = length-append (big_bytes 4 (length (body_of act))) (body_of act) ∙ omega (arith, length-bytes_high_first 4 (length (body_of act)), w.3) in
    let behind : drop size bytes ≡ drop n (drop 4 bytes) = ap (drop size) spelled ∙ drop_at (counted (body_of act)) (drop n (drop 4 bytes)) size frame_long in
    record {
      parts = spelled ∙ ap (λ (l : List ℕ). counted (body_of act) ++ l) (sym behind);
      inside = omega (arith, w.3);
      some = omega (arith, w.3);
      exact = sym w.3;
      request = (a.1, omega arith);
    }

-- ---- and the other way

pub part_again : (bytes : List ℕ) → IsPart bytes → front_of bytes ≡ Part (needed bytes - length bytes)
unfolding front_of
part_again bytes part = rw (lt-ltb (length bytes) (needed bytes) part) refl

some_act : (o : Option Act) (s : ℕ) → ((act : Act) → o ≡ Some act → ⊥) → whole_in o s ≡ Bad
some_act None s never = refl
some_act (Some act) s never = absurd (never act refl)

bad_by : (c : Bool) (o : Option Act) (s : ℕ) → (c ≡ true → (act : Act) → o ≡ Some act → ⊥) → cond c (whole_in o s) Bad ≡ Bad
bad_by true o s never = some_act o s (never refl)
bad_by false o s never = refl

pub bad_again : (bytes : List ℕ) → IsBytes bytes → IsBad bytes → front_of bytes ≡ Bad
unfolding front_of
bad_again bytes fits bad =
    let n : ℕ = announced bytes in
    let body : List ℕ = take n (drop 4 bytes) in
    rw (le-ltb (length bytes) (needed bytes) bad.whole)
    (bad_by (is_length n) (act_in body) (needed bytes)
    (λ fit act is.
    let four : 4 ≤ length bytes = omega (arith, needed_least bytes, bad.whole) in
    let whole : needed bytes ≡ 4 + n = needed_whole bytes four fit in
    let greatest = (length_fits n fit).1 in
    let left : length (drop 4 bytes) ≡ length bytes - 4 = length-drop 4 bytes in
    let long = bad.whole in
    let len : length body ≡ n = length-take-le n (drop 4 bytes) (omega arith) in
    let a = act_takes body act (IsBytes-take n (drop 4 bytes) (IsBytes-drop 4 bytes fits)) is in
    let lengths = ap length a.0 in
    bad.none fit act (a.1, omega arith) (sym a.0)))

no_act : (act : Act) → act_in [] ≡ Some act → ⊥
unfolding act_in
no_act act e = absurd cc

body_some : (act : Act) → AreFields act → 1 ≤ length (body_of act)
body_some act h = elim (cases_lt 0 (length (body_of act))) [
  | inl lt ↦ omega (arith, lt)
  | inr le ↦ let none : body_of act ≡ [] = nil_from_length (body_of act) (omega (arith, le)) in
      let never : act_in [] ≡ Some act = ap act_in (sym none) ∙ act_again act h in absurd (no_act act never)
]

whole_by : (b c : Bool) (m : ℕ) (o : Option Act) (s : ℕ) (act : Act) → b ≡ false → c ≡ true → o ≡ Some act → cond b (Part m) (cond c (whole_in o s) Bad) ≡ Whole act s
whole_by b c m o s act p q r = (λ i. cond (p i) (Part m) (cond (q i) (whole_in (r i) s) Bad))

-- what the frame of an act at the front tells
pub record IsFramed (bytes : List ℕ) (act : Act) : Type 0 where
  pub said : announced bytes ≡ length (body_of act)
  pub fit : is_length (announced bytes) ≡ true
  pub whole : needed bytes ≡ 4 + length (body_of act)
  pub enough : needed bytes ≤ length bytes
  pub body : take (announced bytes) (drop 4 bytes) ≡ body_of act

pub framed_front : (act : Act) (rest : List ℕ) → IsRequest act → IsFramed (frame_of act ++ rest) act
unfolding frame_of
framed_front act rest request =
    let body : List ℕ = body_of act in
    let n : ℕ = length body in
    let bytes : List ℕ = counted body ++ rest in
    let split : bytes ≡ big_bytes 4 n ++ (body ++ rest) = append_assoc (big_bytes 4 n) body rest in
    let least = body_some act request.0 in
    let greatest : n ≤ FRAME_BYTES = request.1 in
    let said : announced bytes ≡ n = ap (big_number 4) split ∙ big_number-reads_back 4 n (body ++ rest) (omega arith) in
    let head : length (big_bytes 4 n) ≡ 4 = length-bytes_high_first 4 n in
    let behind : drop 4 bytes ≡ body ++ rest = ap (drop 4) split ∙ drop_at (big_bytes 4 n) (body ++ rest) 4 head in
    let long : length bytes ≡ 4 + (n + length rest) = ap length split ∙ omega (arith, length-append (big_bytes 4 n) (body ++ rest), length-append body rest) in
    let fit : is_length (announced bytes) ≡ true = ap is_length said ∙ fits_length n least greatest in
    let whole : needed bytes ≡ 4 + n = needed_whole bytes (omega arith) fit ∙ ap (λ (k : ℕ). 4 + k) said in
    record {
      said = said;
      fit = fit;
      whole = whole;
      enough = omega arith;
      body = (λ i. take (said i) (behind i)) ∙ take_at body rest n refl;
    }

pub whole_again : (act : Act) (rest : List ℕ) → IsRequest act → front_of (frame_of act ++ rest) ≡ Whole act (4 + length (body_of act))
unfolding front_of
whole_again act rest request =
    let bytes : List ℕ = frame_of act ++ rest in
    let f : IsFramed bytes act = framed_front act rest request in
    let enough : ltb (length bytes) (needed bytes) ≡ false = le-ltb _ _ f.enough in
    let act_is : act_in (take (announced bytes) (drop 4 bytes)) ≡ Some act = ap act_in f.body ∙ act_again act request.0 in
    whole_by (ltb (length bytes) (needed bytes)) (is_length (announced bytes)) (needed bytes - length bytes) (act_in (take (announced bytes) (drop 4 bytes))) (needed bytes) act enough f.fit act_is ∙ ap (λ (k : ℕ). Whole act k) f.whole

-- the front of the frame of an act is not bad, as far as its bytes are there
pub never_bad : (act : Act) (bytes left rest : List ℕ) → IsRequest act → bytes ++ left ≡ frame_of act ++ rest → IsBad bytes → ⊥
never_bad act bytes left rest request is bad =
    let f : IsFramed (bytes ++ left) act = subst (λ (l : List ℕ). IsFramed l act) (sym is) (framed_front act rest request) in
    let four : 4 ≤ length bytes = omega (arith, needed_least bytes, bad.whole) in
    let said : announced (bytes ++ left) ≡ announced bytes = announced_more bytes left four in
    let fit : is_length (announced bytes) ≡ true = ap is_length (sym said) ∙ f.fit in
    let long : 4 + announced bytes ≤ length bytes = omega (arith, needed_whole bytes four fit, bad.whole) in
    let behind : drop 4 (bytes ++ left) ≡ drop 4 bytes ++ left = drop-append-le 4 bytes left four in
    let inside : announced bytes ≤ length (drop 4 bytes) = omega (arith, length-drop 4 bytes, long) in
    let same : take (announced bytes) (drop 4 bytes) ≡ body_of act =
    sym (take-append-le (announced bytes) (drop 4 bytes) left inside) ∙ sym (λ i. take (said i) (behind i)) ∙ f.body in
    bad.none fit act request (sym same)
