-- What was wrapped opens as its text, and what opens was wrapped from its text.
use Rattle.std.proofs.Common.{◌≡◌, ◌+◌, ◌-◌, ◌≤◌, ℕ, true, false, List, ◌++◌, Some, None, length, take, drop, if◌then◌else◌, refl, sym, ap, ◌∙◌, arith}
use Rattle.std.proofs.lemmas.List.{take_at, drop_at, drop-drop, take_all, length-drop, length-take-le, take-append-drop}
use Rattle.std.specs.Str.{bytes_eq}
use Rattle.std.proofs.lemmas.Slice.Eq.{bytes_eq-Decides}
use Rattle.aes_core.specs.Block.{IsBytes}
use Rattle.key_wrap.specs.Lengths.{IsText, IsWrapped}
use Rattle.key_wrap.specs.Wrapping.{State, state_of, INITIAL, parts_in, joined, state_in, text_in, wrapping, unwrapping, kw_wrap, kw_open}
use Rattle.key_wrap.proofs.ByteLists.{IsBytes-take, IsBytes-drop, IsBytes-replicate}
use Rattle.key_wrap.proofs.StateLemmas.{IsState}
use Rattle.key_wrap.proofs.Undoing.{Undoes, wrapping_state, unwrapping_wrapping, wrapping_unwrapping}

-- a text behind the initial value, and wrapped bytes, as states
is_start : (text : List ℕ) → IsText text → IsBytes text → IsState (parts_in text) (state_of INITIAL text)
is_start text is bytes = record { value = refl; parts = omega (arith, is.whole); value_bytes = IsBytes-replicate 8 166 (omega arith); parts_bytes = bytes }

is_read : (wrapped : List ℕ) → IsWrapped wrapped → IsBytes wrapped → IsState (parts_in (drop 8 wrapped)) (state_in wrapped)
is_read wrapped is bytes = record {
  value = length-take-le 8 wrapped (omega (arith, is.least));
  parts = omega (arith, length-drop 8 wrapped, is.whole, is.least);
  value_bytes = IsBytes-take 8 wrapped bytes;
  parts_bytes = IsBytes-drop 8 wrapped bytes;
}

-- a state that is joined is read again
joined_read : (n : ℕ) (s : State) → IsState n s → state_in (joined s) ≡ s
joined_read n s is = ap (λ value. state_of value (drop 8 (s.value ++ s.parts))) (take_at s.value s.parts 8 is.value) ∙ ap (state_of s.value) (drop_at s.value s.parts 8 is.value)

-- what was wrapped opens as its text
pub opens_wrapped : (f g : List ℕ → List ℕ) (text : List ℕ) → Undoes f g → IsText text → IsBytes text → kw_open g (kw_wrap f text) ≡ Some text
unfolding kw_wrap kw_open
opens_wrapped f g text u is bytes =
    let n = parts_in text in
    let start = is_start text is bytes in
    let few : n ≤ 8 = omega (arith, is.most) in
    ap (λ s. text_in (unwrapping g s)) (joined_read n (wrapping f (state_of INITIAL text)) (wrapping_state f g n (state_of INITIAL text) u start))
    ∙ ap text_in (unwrapping_wrapping f g n (state_of INITIAL text) few u start)

-- what opens was wrapped from its text
pub wraps_opened : (f g : List ℕ → List ℕ) (wrapped value parts : List ℕ) → Undoes g f → IsWrapped wrapped → IsBytes wrapped
    → state_of value parts ≡ unwrapping g (state_in wrapped) → bytes_eq value INITIAL ≡ true → kw_wrap f parts ≡ wrapped
unfolding kw_wrap
wraps_opened f g wrapped value parts u is bytes left same =
    let n = parts_in (drop 8 wrapped) in
    let few : n ≤ 8 = omega (arith, length-drop 8 wrapped, is.most) in
    ap (λ x. joined (wrapping f (state_of x parts))) (sym ((bytes_eq-Decides value INITIAL).0 same))
    ∙ ap (λ s. joined (wrapping f s)) left
    ∙ ap joined (wrapping_unwrapping f g n (state_in wrapped) few u (is_read wrapped is bytes))
    ∙ take-append-drop 8 wrapped

-- where the value is another one, nothing opens
opens_none : (g : List ℕ → List ℕ) (wrapped value parts : List ℕ) → state_of value parts ≡ unwrapping g (state_in wrapped) → bytes_eq value INITIAL ≡ false → kw_open g wrapped ≡ None
unfolding kw_open
opens_none g wrapped value parts left other = sym (ap text_in left) ∙ ap (λ b. if b then Some parts else None) other

-- and no text was wrapped so
pub none_wrapped : (f g : List ℕ → List ℕ) (wrapped value parts : List ℕ) → Undoes f g
    → state_of value parts ≡ unwrapping g (state_in wrapped) → bytes_eq value INITIAL ≡ false
    → (text : List ℕ) → IsText text → IsBytes text → kw_wrap f text ≡ wrapped → ⊥
none_wrapped f g wrapped value parts u left other text is bytes same =
    let none = opens_none g wrapped value parts left other in
    let some : kw_open g wrapped ≡ Some text = ap (kw_open g) (sym same) ∙ opens_wrapped f g text u is bytes in
    cc

-- what stands behind a wrapped text stays
pub rest_same : (n : ℕ) (a parts out back : List ℕ) → length a ≡ 8 → length parts ≡ n → back ≡ drop 8 out → drop (n + 8) (a ++ (parts ++ drop n back)) ≡ drop (n + 8) out
rest_same n a parts out back la lp is_back =
    let turned : n + 8 ≡ 8 + n = omega arith in
    ap (λ k. drop k (a ++ (parts ++ drop n back))) turned
    ∙ sym (drop-drop n 8 (a ++ (parts ++ drop n back)))
    ∙ ap (drop n) (drop_at a (parts ++ drop n back) 8 la)
    ∙ drop_at parts (drop n back) n lp
    ∙ ap (drop n) is_back
    ∙ drop-drop n 8 out
    ∙ ap (λ k. drop k out) (sym turned)

-- what is left of wrapped bytes, as the code takes them apart
pub left_of : (g : List ℕ → List ℕ) (wrapped first rest : List ℕ) (left : State) → left ≡ unwrapping g (state_of first rest) → first ≡ take 8 wrapped → rest ≡ take (length wrapped - 8) (drop 8 wrapped) → left ≡ unwrapping g (state_in wrapped)
left_of g wrapped first rest left is_left is_first is_rest =
    is_left
    ∙ ap (λ x. unwrapping g (state_of x rest)) is_first
    ∙ ap (λ x. unwrapping g (state_of (take 8 wrapped) x)) (is_rest ∙ take_all (length wrapped - 8) (drop 8 wrapped) (omega (arith, length-drop 8 wrapped)))
