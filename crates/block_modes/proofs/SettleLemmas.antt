-- The calls of the engine, as they stand in its code.
use Rattle.std.proofs.Common.{◌≡◌, ℕ, zero, suc, ◌+◌, ◌-◌, ◌<◌, ◌≤◌, true, false, List, [], ◌∷◌, ◌++◌, length, take, drop, inl, inr, refl, sym, ◌∙◌, ap, subst, arith, append_assoc, length-append}
use Rattle.std.proofs.lemmas.List.{drop_at, drop-take}
use Rattle.std.proofs.Math.Seq.{drop-nil}
use Rattle.std.proofs.lemmas.Bool.{cases_Bool, false≢true}
use Rattle.tags.specs.declared.plan.Plan.{Plan}
use Rattle.tags.specs.declared.plan.Plan.TheVariants.{Ecb, Cbc, Ctr, Gcm, HmacSign, HmacVerify}
use Rattle.block_modes.specs.declared.engine.Blocks.{Blocks}
use Rattle.block_modes.specs.Texts.{xor_bytes}
use Rattle.block_modes.specs.Output.{raw, front}
use Rattle.block_modes.specs.Steps.{step_out, is_counter, holds_back}
use Rattle.block_modes.specs.Holds.{Going, IsLazy, Settled, shown, Holds, out_of, after_block, Gives}
use Rattle.block_modes.proofs.XorLemmas.{take-xor_bytes}
use Rattle.block_modes.proofs.GoingLemmas.{going_through, going_show, at_front, holds_at_front}

-- ---- parts of lists

-- a range of a slice
pub range_is : (from to : ℕ) (xs : List ℕ) → from ≤ to → take (to - from) (drop from xs) ≡ drop from (take to xs)
range_is from to xs h =
    let e : from + (to - from) ≡ to = omega arith in
    sym (drop-take from (to - from) xs) ∙ ap (λ n. drop from (take n xs)) e

pub drop_further : (a b : ℕ) (xs ys : List ℕ) → drop a xs ≡ drop a ys → a ≤ b → drop b xs ≡ drop b ys
drop_further zero b xs ys e h = ap (drop b) e
drop_further (suc a) zero xs ys e h = absurd (omega arith)
drop_further (suc a) (suc b) [] [] e h = refl
drop_further (suc a) (suc b) [] (y ∷ ys) e h = sym (drop-nil b) ∙ drop_further a b [] ys (drop-nil a ∙ e) (omega arith)
drop_further (suc a) (suc b) (x ∷ xs) [] e h = drop_further a b xs [] (e ∙ sym (drop-nil a)) (omega arith) ∙ drop-nil b
drop_further (suc a) (suc b) (x ∷ xs) (y ∷ ys) e h = drop_further a b xs ys e (omega arith)

-- ---- what comes out

pub counter_out : (c i : List ℕ → List ℕ) (plan : Plan) (chain block : List ℕ) → is_counter plan ≡ true → step_out c i plan chain block ≡ xor_bytes block (c chain)
counter_out c i Ctr chain block h = refl
counter_out c i (Ecb seal padded) chain block h = absurd (false≢true h)
counter_out c i (Cbc seal padded) chain block h = absurd (false≢true h)
counter_out c i (Gcm seal tag) chain block h = refl
counter_out c i (HmacSign digest size) chain block h = refl
counter_out c i (HmacVerify digest least) chain block h = refl

-- of a block of which a part is held, that part of what comes out
pub shown_part : (made block held key : List ℕ) → made ≡ xor_bytes block key → take (length held) block ≡ held → take (length held) made ≡ xor_bytes held key
shown_part made block held key is_made begins =
    ap (take (length held)) is_made ∙ take-xor_bytes (length held) block key ∙ ap (λ t. xor_bytes t key) begins

no_counter : (plan : Plan) → holds_back plan ≡ true → is_counter plan ≡ true → ⊥
no_counter Ctr back counter = false≢true back
no_counter (Ecb seal padded) back counter = false≢true counter
no_counter (Cbc seal padded) back counter = false≢true counter
no_counter (Gcm seal tag) back counter = false≢true back
no_counter (HmacSign digest size) back counter = false≢true back
no_counter (HmacVerify digest least) back counter = false≢true back

shown_counter : (plan : Plan) (n : ℕ) → is_counter plan ≡ true → shown plan n ≡ n
shown_counter plan n h = rw h refl

shown_none : (plan : Plan) (n : ℕ) → is_counter plan ≡ false → shown plan n ≡ 0
shown_none plan n h = rw h refl

shown_empty : (plan : Plan) → shown plan 0 ≡ 0
shown_empty plan = elim (cases_Bool (is_counter plan)) [ inl on ↦ shown_counter plan 0 on | inr off ↦ shown_none plan 0 off ]

-- ---- the calls

-- a block was let through, and put at the end of what was given
pub going_put : {C : Type 0} (cipher_of inverse_of : C → List ℕ → List ℕ) (s n : Blocks C) (c i : List ℕ → List ℕ) (plan : Plan) (nonce text : List ℕ) (skip : ℕ) (before old new : List ℕ) →
    Going cipher_of inverse_of s c i plan nonce text skip (before ++ old) → length s.held ≡ 16 → skip ≤ 16 → length (out_of cipher_of inverse_of s s.held) ≡ 16 →
    n ≡ after_block cipher_of inverse_of s → new ≡ old ++ drop skip (out_of cipher_of inverse_of s s.held) →
    Going cipher_of inverse_of n c i plan nonce text 0 (before ++ new)
going_put {C = C} cipher_of inverse_of s n c i plan nonce text skip before old new g full part size state put =
    let P : Blocks C → Type 0 = λ t. Going cipher_of inverse_of t c i plan nonce text 0 (before ++ new) in
    let Q : List ℕ → Type 0 = λ t. Going cipher_of inverse_of (after_block cipher_of inverse_of s) c i plan nonce text 0 t in
    let same : (before ++ old) ++ drop skip (out_of cipher_of inverse_of s s.held) ≡ before ++ new =
    append_assoc before old (drop skip (out_of cipher_of inverse_of s s.held)) ∙ ap (λ t. before ++ t) (sym put) in
    subst P (sym state) (subst Q same (going_through cipher_of inverse_of s c i plan nonce text skip (before ++ old) g full part size))

settled : {C : Type 0} (cipher_of inverse_of : C → List ℕ → List ℕ) (s : Blocks C) (c i : List ℕ → List ℕ) (plan : Plan) (nonce text given : List ℕ) →
    Going cipher_of inverse_of s c i plan nonce text (shown plan (length s.held)) given →
    (holds_back plan ≡ false → length s.held < 16) → length s.held ≤ 16 → IsLazy plan text s.held → Settled cipher_of inverse_of s c i plan nonce text given
settled cipher_of inverse_of s c i plan nonce text given g waits few lazy = record {
  holds = holds_at_front cipher_of inverse_of s c i plan nonce text given g waits few lazy;
  given_is = (at_front cipher_of inverse_of s c i plan nonce text given g waits few lazy).1;
}

-- a whole block that does not wait
pub settled_through : {C : Type 0} (cipher_of inverse_of : C → List ℕ → List ℕ) (s n : Blocks C) (c i : List ℕ → List ℕ) (plan : Plan) (nonce text : List ℕ) (skip : ℕ) (before old new : List ℕ) →
    Going cipher_of inverse_of s c i plan nonce text skip (before ++ old) → length s.held ≡ 16 → skip ≤ 16 → length (out_of cipher_of inverse_of s s.held) ≡ 16 →
    n ≡ after_block cipher_of inverse_of s → new ≡ old ++ drop skip (out_of cipher_of inverse_of s s.held) → holds_back s.plan ≡ false →
    Settled cipher_of inverse_of n c i plan nonce text (before ++ new)
settled_through cipher_of inverse_of s n c i plan nonce text skip before old new g full part size state put off =
    let back : holds_back plan ≡ false = ap holds_back (sym g.plan_is) ∙ off in
    let none : n.held ≡ [] = ap (λ t. t.held) state in
    let empty : length n.held ≡ 0 = ap length none in
    let few : length n.held ≤ 16 = omega (arith, empty) in
    let P : ℕ → Type 0 = λ k. Going cipher_of inverse_of n c i plan nonce text k (before ++ new) in
    settled cipher_of inverse_of n c i plan nonce text (before ++ new)
    (subst P (sym (ap (shown plan) empty ∙ shown_empty plan)) (going_put cipher_of inverse_of s n c i plan nonce text skip before old new g full part size state put))
    (λ _. omega (arith, empty))
    few
    (λ on _. absurd (false≢true (sym back ∙ on)))

-- the part of a block in CTR
pub settled_show : {C : Type 0} (cipher_of inverse_of : C → List ℕ → List ℕ) (s : Blocks C) (c i : List ℕ → List ℕ) (plan : Plan) (nonce text : List ℕ) (skip : ℕ) (before old new : List ℕ) →
    Going cipher_of inverse_of s c i plan nonce text skip (before ++ old) → is_counter s.plan ≡ true → skip ≤ length s.held →
    length (xor_bytes s.held (cipher_of s.cipher s.chain)) ≡ length s.held →
    new ≡ old ++ drop skip (xor_bytes s.held (cipher_of s.cipher s.chain)) → (holds_back s.plan ≡ false → length s.held < 16) → length s.held ≤ 16 → IsLazy plan text s.held →
    Settled cipher_of inverse_of s c i plan nonce text (before ++ new)
settled_show cipher_of inverse_of s c i plan nonce text skip before old new g on part size put waits few lazy =
    let counter : is_counter plan ≡ true = ap is_counter (sym g.plan_is) ∙ on in
    let key : cipher_of s.cipher s.chain ≡ c s.chain = ap (λ f. f s.chain) g.cipher_is in
    let same : (before ++ old) ++ drop skip (xor_bytes s.held (c s.chain)) ≡ before ++ new =
    append_assoc before old (drop skip (xor_bytes s.held (c s.chain)))
    ∙ ap (λ t. before ++ (old ++ drop skip (xor_bytes s.held t))) (sym key)
    ∙ ap (λ t. before ++ t) (sym put) in
    let whole : length (xor_bytes s.held (c s.chain)) ≡ length s.held = ap (λ t. length (xor_bytes s.held t)) (sym key) ∙ size in
    let Q : List ℕ → Type 0 = λ t. Going cipher_of inverse_of s c i plan nonce text (length s.held) t in
    let P : ℕ → Type 0 = λ k. Going cipher_of inverse_of s c i plan nonce text k (before ++ new) in
    settled cipher_of inverse_of s c i plan nonce text (before ++ new)
    (subst P (sym (shown_counter plan (length s.held) counter)) (subst Q same (going_show cipher_of inverse_of s c i plan nonce text skip (before ++ old) g counter part whole)))
    (λ off. waits (ap holds_back g.plan_is ∙ off))
    few
    lazy

-- nothing is out that was not
pub settled_stay : {C : Type 0} (cipher_of inverse_of : C → List ℕ → List ℕ) (s : Blocks C) (c i : List ℕ → List ℕ) (plan : Plan) (nonce text : List ℕ) (skip : ℕ) (given : List ℕ) →
    Going cipher_of inverse_of s c i plan nonce text skip given → is_counter s.plan ≡ false → (holds_back s.plan ≡ false → length s.held < 16) → length s.held ≤ 16 → IsLazy plan text s.held →
    Settled cipher_of inverse_of s c i plan nonce text given
settled_stay cipher_of inverse_of s c i plan nonce text skip given g off waits few lazy =
    let none : is_counter plan ≡ false = ap is_counter (sym g.plan_is) ∙ off in
    let P : ℕ → Type 0 = λ k. Going cipher_of inverse_of s c i plan nonce text k given in
    settled cipher_of inverse_of s c i plan nonce text given
    (subst P (g.no_skip none ∙ sym (shown_none plan (length s.held) none)) g)
    (λ no. waits (ap holds_back g.plan_is ∙ no))
    few
    lazy

-- what an update gave
pub gives_from : {C : Type 0} (cipher_of inverse_of : C → List ℕ → List ℕ) (s n : Blocks C) (c i : List ℕ → List ℕ) (plan : Plan) (nonce a b given : List ℕ) →
    Holds cipher_of inverse_of s c i plan nonce a → Settled cipher_of inverse_of n c i plan nonce b (take (front plan a) (raw c i plan nonce a) ++ given) →
    Gives (raw c i plan nonce) (front plan) a b given
gives_from cipher_of inverse_of s n c i plan nonce a b given old new = record {
  joined = sym new.given_is;
  piece = sym (drop_at (take (front plan a) (raw c i plan nonce a)) given (front plan a) (sym old.within)) ∙ ap (drop (front plan a)) (sym new.given_is);
  count =
      ap (λ n. n + length given) old.within
      ∙ sym (length-append (take (front plan a) (raw c i plan nonce a)) given)
      ∙ ap length (sym new.given_is)
      ∙ sym new.holds.within;
}
