-- What an opening holds back as its text grows.
use Rattle.std.proofs.Common.{◌≡◌, ℕ, ◌+◌, ◌-◌, ◌<◌, ◌≤◌, min, List, ◌++◌, length, take, drop, refl, sym, ap, ◌∙◌, arith, length-append, length-drop, inl, inr}
use Rattle.std.proofs.lemmas.List.{append-nil, append_assoc, take_at, drop_at, take-append-drop, length-take-le, take_rest, take-take, drop-take}
use Rattle.std.proofs.lemmas.Bool.{cases_lt}
use Rattle.gcm_mode.specs.Gcm.{open_front}

-- some bytes more: `given` are those that cannot be the tag any more, and `kept` are held back
pub record Passes (tag : ℕ) (text input given kept : List ℕ) : Type 0 where
  pub front : open_front tag (text ++ input) ≡ open_front tag text + length given
  pub before : take (open_front tag (text ++ input)) (text ++ input) ≡ take (open_front tag text) text ++ given
  pub behind : drop (open_front tag (text ++ input)) (text ++ input) ≡ kept

pub passes : (tag : ℕ) (text input given kept : List ℕ) → given ++ kept ≡ drop (open_front tag text) text ++ input
    → length kept ≡ min tag (length (drop (open_front tag text) text) + length input) → Passes tag text input given kept
passes tag text input given kept joined size =
    let f : ℕ = open_front tag text in
    let g : ℕ = open_front tag (text ++ input) in
    let whole : text ++ input ≡ take f text ++ given ++ kept =
    ap (λ (l : List ℕ). l ++ input) (sym (take-append-drop f text)) ∙ append_assoc (take f text) (drop f text) input
    ∙ ap (λ (l : List ℕ). take f text ++ l) (sym joined) ∙ sym (append_assoc (take f text) given kept) in
    let lengths : length given + length kept ≡ length (drop f text) + length input =
    sym (length-append given kept) ∙ ap length joined ∙ length-append (drop f text) input in
    let held : length (drop f text) ≡ length text - f = length-drop f text in
    let all : length (text ++ input) ≡ length text + length input = length-append text input in
    let before_len : length (take f text) ≡ f = length-take-le f text (omega arith) in
    let place : g ≡ f + length given = omega arith in
    let at : length (take f text ++ given) ≡ g = length-append (take f text) given ∙ omega arith in
    record {
      front = place;
      before = ap (λ (l : List ℕ). take g l) whole ∙ take_at (take f text ++ given) kept g at;
      behind = ap (λ (l : List ℕ). drop g l) whole ∙ drop_at (take f text ++ given) kept g at;
    }

-- a front in two parts
front_is : (held : List ℕ) (len n : ℕ) → n ≤ len → take n held ++ take (len - n) (drop n held) ≡ take len held
front_is held len n h =
    let whole : take n (take len held) ++ drop n (take len held) ≡ take len held = take-append-drop n (take len held) in
    let sum : n + (len - n) ≡ len = omega arith in
    let back : drop n (take len held) ≡ take (len - n) (drop n held) = ap (λ (k : ℕ). drop n (take k held)) (sym sum) ∙ drop-take n (len - n) held in
    rw (take-take n len held h, back) at whole

-- what was held and the input, put to two places
pub passed : (held input out rest one two : List ℕ) (len given from_held from_input : ℕ) → len ≤ length held → from_input ≤ length input
    → from_held ≤ len → given ≡ from_held + from_input → (from_held < len → from_input ≡ 0)
    → out ≡ (take from_held held ++ take from_input input) ++ one
    → rest ≡ (take (len - from_held) (drop from_held held) ++ take (length input - from_input) (drop from_input input)) ++ two
    → take given out ++ take (len - from_held + (length input - from_input)) rest ≡ take len held ++ input
passed held input out rest one two len given from_held from_input fits enough some sum order out_is rest_is =
    let a : List ℕ = take from_held held in
    let b : List ℕ = take from_input input in
    let m : List ℕ = take (len - from_held) (drop from_held held) in
    let la : length a ≡ from_held = length-take-le from_held held (omega arith) in
    let lb : length b ≡ from_input = length-take-le from_input input enough in
    let lm : length m ≡ len - from_held = length-take-le (len - from_held) (drop from_held held) (omega (arith, length-drop from_held held)) in
    let tail : take (length input - from_input) (drop from_input input) ≡ drop from_input input = take_rest input from_input in
    let lt : length (take (length input - from_input) (drop from_input input)) ≡ length input - from_input = ap length tail ∙ length-drop from_input input in
    let first : take given out ≡ a ++ b = rw out_is (take_at (a ++ b) one given (length-append a b ∙ omega arith)) in
    let second : take (len - from_held + (length input - from_input)) rest ≡ m ++ drop from_input input =
    rw rest_is (take_at (m ++ take (length input - from_input) (drop from_input input)) two (len - from_held + (length input - from_input))
    (length-append m (take (length input - from_input) (drop from_input input)) ∙ omega arith)) ∙ ap (λ (l : List ℕ). m ++ l) tail in
    let front : a ++ m ≡ take len held = front_is held len from_held some in
    elim (cases_lt from_held len) [
      | inl below ↦ (
          let none : from_input ≡ 0 = order below in
          rw (first, second, none, append-nil a, ← append_assoc, front) refl
          )
      | inr full ↦ (
          let same : from_held ≡ len = omega arith in
          let nothing : len - from_held ≡ 0 = omega arith in
          rw (first, second, nothing, same, append_assoc, take-append-drop from_input input) refl
          )
    ]
