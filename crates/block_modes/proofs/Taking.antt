-- The loop of an update: how much of the input is taken, and what was given.
use Rattle.std.proofs.Common.{◌≡◌, ℕ, ◌+◌, ◌-◌, ◌<◌, ◌≤◌, true, List, [], ◌++◌, length, take, drop, sym, ◌∙◌, ap, subst, arith, append_assoc, append-nil, length-drop}
use Rattle.std.proofs.lemmas.List.{take_all}
use Rattle.std.proofs.Math.Seq.{take-add}
use Rattle.tags.specs.declared.plan.Plan.{Plan}
use Rattle.block_modes.specs.declared.engine.Blocks.{Blocks}
use Rattle.block_modes.specs.Output.{raw, front}
use Rattle.block_modes.specs.Steps.{holds_back}
use Rattle.block_modes.specs.Holds.{Going, IsLazy, Settled, shown, Holds}
use Rattle.block_modes.proofs.GoingLemmas.{going_fill}

-- the text with what is taken of the input while this much of it is left
abbrev pub so_far : List ℕ → List ℕ → List ℕ → List ℕ
so_far text input rest = text ++ take (length input - length rest) input

pub record Taking {C : Type 0} (cipher_of inverse_of : C → List ℕ → List ℕ) (start state : Blocks C) (input rest out : List ℕ) (at skip : ℕ) : Type 0 where
  pub goes : (c i : List ℕ → List ℕ) (plan : Plan) (nonce text : List ℕ) → Holds cipher_of inverse_of start c i plan nonce text →
      Going cipher_of inverse_of state c i plan nonce (so_far text input rest) skip (take (front plan text) (raw c i plan nonce text) ++ take at out)
  pub lazy : (c i : List ℕ → List ℕ) (plan : Plan) (nonce text : List ℕ) → Holds cipher_of inverse_of start c i plan nonce text → IsLazy plan (so_far text input rest) state.held

none_yet : (text input : List ℕ) → text ≡ so_far text input input
none_yet text input =
    let e : 0 ≡ length input - length input = omega arith in
    sym (append-nil text) ∙ ap (λ n. text ++ take n input) e

all_taken : (text input rest : List ℕ) → length rest ≡ 0 → so_far text input rest ≡ text ++ input
all_taken text input rest none =
    let e : length input - length rest ≡ length input = omega arith in
    let all : length input ≤ length input = omega arith in
    ap (λ n. text ++ take n input) e ∙ ap (λ t. text ++ t) (take_all (length input) input all)

more_taken : (text input rest new : List ℕ) (taken : ℕ) → rest ≡ drop (length input - length rest) input → length rest ≤ length input → new ≡ drop taken rest → taken ≤ length rest →
    so_far text input rest ++ take taken rest ≡ so_far text input new
more_taken text input rest new taken is_rest few is_new fits =
    let e : (length input - length rest) + taken ≡ length input - length new = omega (arith, ap length is_new, length-drop taken rest) in
    append_assoc text (take (length input - length rest) input) (take taken rest)
    ∙ ap (λ t. text ++ (take (length input - length rest) input ++ take taken t)) is_rest
    ∙ ap (λ t. text ++ t) (sym (take-add (length input - length rest) taken input))
    ∙ ap (λ n. text ++ take n input) e

pub taking_start : {C : Type 0} (cipher_of inverse_of : C → List ℕ → List ℕ) (s : Blocks C) (input out : List ℕ) (skip : ℕ) → skip ≡ shown s.plan (length s.held) →
    Taking cipher_of inverse_of s s input input out 0 skip
taking_start {C = C} cipher_of inverse_of s input out skip is_skip = record {
  goes = λ c i plan nonce text holds.
      let P : List ℕ → Type 0 = λ t. Going cipher_of inverse_of s c i plan nonce t skip (take (front plan text) (raw c i plan nonce text) ++ []) in
      let Q : ℕ → Type 0 = λ n. Going cipher_of inverse_of s c i plan nonce text n (take (front plan text) (raw c i plan nonce text) ++ []) in
      let R : List ℕ → Type 0 = λ t. Going cipher_of inverse_of s c i plan nonce text (shown plan (length s.held)) t in
      subst P (none_yet text input)
      (subst Q (ap (λ p. shown p (length s.held)) (sym holds.going.plan_is) ∙ sym is_skip)
      (subst R (sym (append-nil (take (front plan text) (raw c i plan nonce text)))) holds.going));
  lazy = λ c i plan nonce text holds on empty. ap length (sym (none_yet text input)) ∙ holds.lazy on empty;
}

-- after room was made, blocks of the input went through, and some bytes behind them are held
pub taking_more : {C : Type 0} (cipher_of inverse_of : C → List ℕ → List ℕ) (start s t n : Blocks C) (input rest mid new out made : List ℕ) (at end skip part passed taken : ℕ) →
    Taking cipher_of inverse_of start s input rest out at skip →
    ((c i : List ℕ → List ℕ) (plan : Plan) (nonce text before : List ℕ) → Going cipher_of inverse_of s c i plan nonce text skip (before ++ take at out) →
    Going cipher_of inverse_of t c i plan nonce (text ++ take passed rest) part (before ++ take end made)) →
    part ≤ length t.held → n ≡ record t { held = t.held ++ take taken mid } → (holds_back t.plan ≡ true → 0 < length n.held) →
    rest ≡ drop (length input - length rest) input → length rest ≤ length input → mid ≡ drop passed rest → passed ≤ length rest →
    mid ≡ drop (length input - length mid) input → length mid ≤ length input → new ≡ drop taken mid → taken ≤ length mid →
    Taking cipher_of inverse_of start n input new made end part
taking_more {C = C} cipher_of inverse_of start s t n input rest mid new out made at end skip part passed taken old room within is_n some is_rest few is_mid went is_left left is_new fits = record {
  goes = λ c i plan nonce text holds.
      let given = take (front plan text) (raw c i plan nonce text) in
      let P : List ℕ → Type 0 = λ u. Going cipher_of inverse_of n c i plan nonce u part (given ++ take end made) in
      let Q : Blocks C → Type 0 = λ u. Going cipher_of inverse_of u c i plan nonce (so_far text input mid ++ take taken mid) part (given ++ take end made) in
      let R : List ℕ → Type 0 = λ u. Going cipher_of inverse_of t c i plan nonce u part (given ++ take end made) in
      subst P (more_taken text input mid new taken is_left left is_new fits)
      (subst Q (sym is_n)
      (going_fill cipher_of inverse_of t c i plan nonce (so_far text input mid) part (given ++ take end made) (take taken mid)
      (subst R (more_taken text input rest mid passed is_rest few is_mid went) (room c i plan nonce (so_far text input rest) given (old.goes c i plan nonce text holds))) within));
  lazy = λ c i plan nonce text holds on empty.
      let given = take (front plan text) (raw c i plan nonce text) in
      let now = room c i plan nonce (so_far text input rest) given (old.goes c i plan nonce text holds) in
      absurd (omega (arith, some (ap holds_back now.plan_is ∙ on), empty));
}

-- the end of the input
pub taken_all : {C : Type 0} (cipher_of inverse_of : C → List ℕ → List ℕ) (start s n : Blocks C) (input rest out made : List ℕ) (at end skip : ℕ) →
    Taking cipher_of inverse_of start s input rest out at skip → length rest ≡ 0 →
    ((c i : List ℕ → List ℕ) (plan : Plan) (nonce text before : List ℕ) → Going cipher_of inverse_of s c i plan nonce text skip (before ++ take at out) → IsLazy plan text s.held →
    Settled cipher_of inverse_of n c i plan nonce text (before ++ take end made)) →
    (c i : List ℕ → List ℕ) (plan : Plan) (nonce text : List ℕ) → Holds cipher_of inverse_of start c i plan nonce text →
    Settled cipher_of inverse_of n c i plan nonce (text ++ input) (take (front plan text) (raw c i plan nonce text) ++ take end made)
taken_all cipher_of inverse_of start s n input rest out made at end skip old none settles c i plan nonce text holds =
    let given = take (front plan text) (raw c i plan nonce text) in
    let P : List ℕ → Type 0 = λ u. Settled cipher_of inverse_of n c i plan nonce u (given ++ take end made) in
    subst P (all_taken text input rest none)
    (settles c i plan nonce (so_far text input rest) given (old.goes c i plan nonce text holds) (old.lazy c i plan nonce text holds))
