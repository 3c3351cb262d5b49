-- What the engine holds, after each thing that it does.
use Rattle.std.proofs.Common.{◌≡◌, ℕ, ◌+◌, ◌-◌, ◌*◌, ◌/◌, ◌%◌, ◌<◌, ◌≤◌, ◌==◌, Bool, true, false, not, ◌&&◌, inl, inr, List, [], ◌∷◌, ◌++◌, length, take, drop, refl, sym, ◌∙◌, ap, subst, arith, append_assoc, append-nil, length-append, length-drop}
use Rattle.std.specs.List.{concat}
use Rattle.std.proofs.lemmas.List.{take_at, take_all, take-append-drop, take-append-le, nil_from_length}
use Rattle.std.proofs.lemmas.List.Folds.{concat-append}
use Rattle.std.proofs.lemmas.Bool.{cond_both, and_parts, and_cases, eqb-true, eqb-false, cases_lt, cases_Bool, false≢true}
use Rattle.tags.specs.declared.plan.Plan.{Plan}
use Rattle.tags.specs.declared.plan.Plan.TheVariants.{Ecb, Cbc, Ctr, Gcm, HmacSign, HmacVerify}
use Rattle.block_modes.specs.declared.engine.Blocks.{Blocks}
use Rattle.block_modes.specs.Texts.{xor_bytes, blocks_of, all_pieces}
use Rattle.block_modes.specs.Output.{is_served, raw, blocks_out, front}
use Rattle.block_modes.specs.Steps.{step_out, step_chain, through, chain_after, is_counter, holds_back}
use Rattle.block_modes.specs.Holds.{Going, IsLazy, shown, Holds, out_of, after_block}
use Rattle.block_modes.proofs.XorLemmas.{take-xor_bytes}
use Rattle.block_modes.proofs.PieceLemmas.{AreBlocks-snoc, length-text, blocks_short, blocks_full, pieces_none, pieces_some}
use Rattle.block_modes.proofs.StepLemmas.{through-snoc, chain_after-snoc, raw_through}

-- the part of a block that is out, and the rest of what comes out for it
seam_counter : (skip : ℕ) (held key : List ℕ) → xor_bytes (take skip held) key ++ drop skip (xor_bytes held key) ≡ xor_bytes held key
seam_counter skip held key =
    ap (λ t. t ++ drop skip (xor_bytes held key)) (sym (take-xor_bytes skip held key)) ∙ take-append-drop skip (xor_bytes held key)

seam_none : (skip : ℕ) (held key out : List ℕ) → skip ≡ 0 → xor_bytes (take skip held) key ++ drop skip out ≡ out
seam_none skip held key out e = ap (λ n. xor_bytes (take n held) key ++ drop n out) e

seam : (c i : List ℕ → List ℕ) (plan : Plan) (chain held : List ℕ) (skip : ℕ) → (is_counter plan ≡ false → skip ≡ 0) →
    xor_bytes (take skip held) (c chain) ++ drop skip (step_out c i plan chain held) ≡ step_out c i plan chain held
seam c i Ctr chain held skip none = seam_counter skip held (c chain)
seam c i (Ecb seal padded) chain held skip none = seam_none skip held (c chain) (step_out c i (Ecb seal padded) chain held) (none refl)
seam c i (Cbc seal padded) chain held skip none = seam_none skip held (c chain) (step_out c i (Cbc seal padded) chain held) (none refl)
seam c i (Gcm seal tag) chain held skip none = seam_none skip held (c chain) (step_out c i (Gcm seal tag) chain held) (none refl)
seam c i (HmacSign digest size) chain held skip none = seam_none skip held (c chain) (step_out c i (HmacSign digest size) chain held) (none refl)
seam c i (HmacVerify digest least) chain held skip none = seam_none skip held (c chain) (step_out c i (HmacVerify digest least) chain held) (none refl)

-- the words of a state are those of the plan and the functions
pub out_is : {C : Type 0} (cipher_of inverse_of : C → List ℕ → List ℕ) (s : Blocks C) (c i : List ℕ → List ℕ) (plan : Plan) (block : List ℕ) →
    s.plan ≡ plan → cipher_of s.cipher ≡ c → inverse_of s.cipher ≡ i → out_of cipher_of inverse_of s block ≡ step_out c i plan s.chain block
out_is cipher_of inverse_of s c i plan block p q r =
    ap (λ f. step_out f (inverse_of s.cipher) s.plan s.chain block) q
    ∙ ap (λ f. step_out c f s.plan s.chain block) r
    ∙ ap (λ f. step_out c i f s.chain block) p

chain_is : {C : Type 0} (cipher_of inverse_of : C → List ℕ → List ℕ) (s : Blocks C) (c i : List ℕ → List ℕ) (plan : Plan) →
    s.plan ≡ plan → cipher_of s.cipher ≡ c → inverse_of s.cipher ≡ i → (after_block cipher_of inverse_of s).chain ≡ step_chain c i plan s.chain s.held
chain_is cipher_of inverse_of s c i plan p q r =
    ap (λ f. step_chain f (inverse_of s.cipher) s.plan s.chain s.held) q
    ∙ ap (λ f. step_chain c f s.plan s.chain s.held) r
    ∙ ap (λ f. step_chain c i f s.chain s.held) p

-- a whole block goes through
pub going_through : {C : Type 0} (cipher_of inverse_of : C → List ℕ → List ℕ) (s : Blocks C) (c i : List ℕ → List ℕ) (plan : Plan) (nonce text : List ℕ) (skip : ℕ) (given : List ℕ) →
    Going cipher_of inverse_of s c i plan nonce text skip given → length s.held ≡ 16 → skip ≤ 16 → length (out_of cipher_of inverse_of s s.held) ≡ 16 →
    Going cipher_of inverse_of (after_block cipher_of inverse_of s) c i plan nonce text 0 (given ++ drop skip (out_of cipher_of inverse_of s s.held))
going_through cipher_of inverse_of s c i plan nonce text skip given g full part size =
    let out : out_of cipher_of inverse_of s s.held ≡ step_out c i plan s.chain s.held = out_is cipher_of inverse_of s c i plan s.held g.plan_is g.cipher_is g.inverse_is in
    record {
      blocks = g.blocks ++ s.held ∷ [];
      served = g.served;
      plan_is = g.plan_is;
      cipher_is = g.cipher_is;
      inverse_is = g.inverse_is;
      each = AreBlocks-snoc g.blocks s.held g.each full;
      text_is =
          g.text_is
          ∙ ap (λ t. concat g.blocks ++ t) (sym (append-nil s.held))
          ∙ sym (concat-append g.blocks (s.held ∷ []))
          ∙ sym (append-nil (concat (g.blocks ++ s.held ∷ [])));
      chain_is =
          chain_is cipher_of inverse_of s c i plan g.plan_is g.cipher_is g.inverse_is
          ∙ ap (λ t. step_chain c i plan t s.held) g.chain_is
          ∙ sym (chain_after-snoc c i plan nonce g.blocks s.held);
      no_skip = λ _. refl;
      given_is =
          ap (λ t. t ++ drop skip (out_of cipher_of inverse_of s s.held)) g.given_is
          ∙ append_assoc (through c i plan nonce g.blocks) (xor_bytes (take skip s.held) (c s.chain)) (drop skip (out_of cipher_of inverse_of s s.held))
          ∙ ap (λ t. through c i plan nonce g.blocks ++ (xor_bytes (take skip s.held) (c s.chain) ++ drop skip t)) out
          ∙ ap (λ t. through c i plan nonce g.blocks ++ t) (seam c i plan s.chain s.held skip g.no_skip)
          ∙ ap (λ t. through c i plan nonce g.blocks ++ step_out c i plan t s.held) g.chain_is
          ∙ sym (through-snoc c i plan nonce g.blocks s.held)
          ∙ sym (append-nil (through c i plan nonce (g.blocks ++ s.held ∷ [])));
      count = omega (arith, length-append given (drop skip (out_of cipher_of inverse_of s s.held)), length-drop skip (out_of cipher_of inverse_of s s.held), g.count, length-append g.blocks (s.held ∷ []), size, part);
    }

-- bytes are held
pub going_fill : {C : Type 0} (cipher_of inverse_of : C → List ℕ → List ℕ) (s : Blocks C) (c i : List ℕ → List ℕ) (plan : Plan) (nonce text : List ℕ) (skip : ℕ) (given piece : List ℕ) →
    Going cipher_of inverse_of s c i plan nonce text skip given → skip ≤ length s.held →
    Going cipher_of inverse_of (record s { held = s.held ++ piece }) c i plan nonce (text ++ piece) skip given
going_fill cipher_of inverse_of s c i plan nonce text skip given piece g part = record {
  blocks = g.blocks;
  served = g.served;
  plan_is = g.plan_is;
  cipher_is = g.cipher_is;
  inverse_is = g.inverse_is;
  each = g.each;
  text_is = ap (λ t. t ++ piece) g.text_is ∙ append_assoc (concat g.blocks) s.held piece;
  chain_is = g.chain_is;
  no_skip = g.no_skip;
  given_is = g.given_is ∙ ap (λ t. through c i plan nonce g.blocks ++ xor_bytes t (c s.chain)) (sym (take-append-le skip s.held piece part));
  count = g.count;
}

-- the part of a block that is held is put out
pub going_show : {C : Type 0} (cipher_of inverse_of : C → List ℕ → List ℕ) (s : Blocks C) (c i : List ℕ → List ℕ) (plan : Plan) (nonce text : List ℕ) (skip : ℕ) (given : List ℕ) →
    Going cipher_of inverse_of s c i plan nonce text skip given → is_counter plan ≡ true → skip ≤ length s.held → length (xor_bytes s.held (c s.chain)) ≡ length s.held →
    Going cipher_of inverse_of s c i plan nonce text (length s.held) (given ++ drop skip (xor_bytes s.held (c s.chain)))
going_show cipher_of inverse_of s c i plan nonce text skip given g counter part size = record {
  blocks = g.blocks;
  served = g.served;
  plan_is = g.plan_is;
  cipher_is = g.cipher_is;
  inverse_is = g.inverse_is;
  each = g.each;
  text_is = g.text_is;
  chain_is = g.chain_is;
  no_skip = λ no. cc;
  given_is =
      ap (λ t. t ++ drop skip (xor_bytes s.held (c s.chain))) g.given_is
      ∙ append_assoc (through c i plan nonce g.blocks) (xor_bytes (take skip s.held) (c s.chain)) (drop skip (xor_bytes s.held (c s.chain)))
      ∙ ap (λ t. through c i plan nonce g.blocks ++ t) (seam_counter skip s.held (c s.chain))
      ∙ (let all : length s.held ≤ length s.held = omega arith in ap (λ t. through c i plan nonce g.blocks ++ xor_bytes t (c s.chain)) (sym (take_all (length s.held) s.held all)));
  count = omega (arith, length-append given (drop skip (xor_bytes s.held (c s.chain))), length-drop skip (xor_bytes s.held (c s.chain)), g.count, size, part);
}

-- ---- the front

out_short : (seal padded : Bool) (n k h : ℕ) → n ≡ 16 * k + h → h < 16 → ((padded && not seal) ≡ true → h ≡ 0 → n ≡ 0) → blocks_out seal padded n ≡ 16 * k
out_short seal padded n k h e short lazy =
    cond_both ((padded && not seal) && n % 16 == 0) (n - 16) (16 * (n / 16)) (λ x. x ≡ 16 * k)
    (λ yes.
    let both = and_parts (padded && not seal) (n % 16 == 0) yes in
    let whole : n % 16 ≡ 0 = eqb-true (n % 16) 0 both.1 in
    let none : h ≡ 0 = omega arith in
    let empty : n ≡ 0 = lazy both.0 none in
    omega arith)
    (λ no. omega arith)

out_full : (seal padded : Bool) (n k h : ℕ) → n ≡ 16 * k + h → h ≡ 16 → (padded && not seal) ≡ true → blocks_out seal padded n ≡ 16 * k
out_full seal padded n k h e full back =
    cond_both ((padded && not seal) && n % 16 == 0) (n - 16) (16 * (n / 16)) (λ x. x ≡ 16 * k)
    (λ yes. omega arith)
    (λ no. elim (and_cases (padded && not seal) (n % 16 == 0) no) [
      | inl off ↦ cc
      | inr part ↦ let whole : n % 16 ≡ 0 = omega arith in absurd (eqb-false (n % 16) 0 part whole)
    ])

-- what is out is the front of what the mode makes of the text
abbrev pub AtFront : ℕ → List ℕ → List ℕ → Type 0
AtFront out made given = (out ≡ length given) × (take out made ≡ given)

blocks_front : {C : Type 0} (cipher_of inverse_of : C → List ℕ → List ℕ) (s : Blocks C) (c i : List ℕ → List ℕ) (plan : Plan) (nonce text given made : List ℕ) (seal padded : Bool) →
    Going cipher_of inverse_of s c i plan nonce text 0 given →
    made ≡ through c i plan nonce (blocks_of text) →
    ((padded && not seal) ≡ false → length s.held < 16) → length s.held ≤ 16 → ((padded && not seal) ≡ true → length s.held ≡ 0 → length text ≡ 0) →
    AtFront (blocks_out seal padded (length text)) made given
blocks_front cipher_of inverse_of s c i plan nonce text given made seal padded g is_made waits few lazy =
    let is_given : given ≡ through c i plan nonce g.blocks = g.given_is ∙ append-nil (through c i plan nonce g.blocks) in
    let size : length text ≡ 16 * length g.blocks + length s.held = ap length g.text_is ∙ length-text g.blocks s.held g.each in
    elim (cases_lt (length s.held) 16) [
      | inl short ↦
          let out : blocks_out seal padded (length text) ≡ 16 * length g.blocks = out_short seal padded (length text) (length g.blocks) (length s.held) size short lazy in
          let same : made ≡ given = is_made ∙ ap (λ t. through c i plan nonce (blocks_of t)) g.text_is ∙ ap (through c i plan nonce) (blocks_short g.blocks s.held g.each short) ∙ sym is_given in
          let at_end : blocks_out seal padded (length text) ≡ length given = omega (arith, out, g.count) in
          let all : length given ≤ blocks_out seal padded (length text) = omega (arith, at_end) in
          (at_end, ap (take (blocks_out seal padded (length text))) same ∙ take_all (blocks_out seal padded (length text)) given all)
      | inr long ↦
          let full : length s.held ≡ 16 = omega arith in
          let back : (padded && not seal) ≡ true = elim (cases_Bool (padded && not seal)) [ inl on ↦ on | inr off ↦ absurd (omega (arith, waits off, long)) ] in
          let out : blocks_out seal padded (length text) ≡ 16 * length g.blocks = out_full seal padded (length text) (length g.blocks) (length s.held) size full back in
          let at_end : blocks_out seal padded (length text) ≡ length given = omega (arith, out, g.count) in
          let same : made ≡ given ++ step_out c i plan (chain_after c i plan nonce g.blocks) s.held =
          is_made
          ∙ ap (λ t. through c i plan nonce (blocks_of t)) g.text_is
          ∙ ap (through c i plan nonce) (blocks_full g.blocks s.held g.each full)
          ∙ through-snoc c i plan nonce g.blocks s.held
          ∙ ap (λ t. t ++ step_out c i plan (chain_after c i plan nonce g.blocks) s.held) (sym is_given) in
          (at_end, ap (take (blocks_out seal padded (length text))) same ∙ take_at given (step_out c i plan (chain_after c i plan nonce g.blocks) s.held) (blocks_out seal padded (length text)) (sym at_end))
    ]

-- in CTR all of it is out
pub counter_same : {C : Type 0} (cipher_of inverse_of : C → List ℕ → List ℕ) (s : Blocks C) (c i : List ℕ → List ℕ) (nonce text given : List ℕ) →
    Going cipher_of inverse_of s c i Ctr nonce text (length s.held) given → length s.held ≤ 16 → raw c i Ctr nonce text ≡ given
counter_same cipher_of inverse_of s c i nonce text given g few =
    let itself : length s.held ≤ length s.held = omega arith in
    let is_given : given ≡ through c i Ctr nonce g.blocks ++ xor_bytes s.held (c s.chain) = g.given_is ∙ ap (λ t. through c i Ctr nonce g.blocks ++ xor_bytes t (c s.chain)) (take_all (length s.held) s.held itself) in
    raw_through c i Ctr nonce text refl ∙ ap (λ t. through c i Ctr nonce (all_pieces t)) g.text_is
    ∙ elim (cases_lt 0 (length s.held)) [
      | inl some ↦
          ap (through c i Ctr nonce) (pieces_some g.blocks s.held g.each some few)
          ∙ through-snoc c i Ctr nonce g.blocks s.held
          ∙ ap (λ t. through c i Ctr nonce g.blocks ++ xor_bytes s.held (c t)) (sym g.chain_is)
          ∙ sym is_given
      | inr none ↦
          let empty : length s.held ≡ 0 = omega arith in
          ap (through c i Ctr nonce) (pieces_none g.blocks s.held g.each empty)
          ∙ sym (append-nil (through c i Ctr nonce g.blocks))
          ∙ ap (λ t. through c i Ctr nonce g.blocks ++ xor_bytes t (c s.chain)) (sym (nil_from_length s.held empty))
          ∙ sym is_given
    ]

counter_front : {C : Type 0} (cipher_of inverse_of : C → List ℕ → List ℕ) (s : Blocks C) (c i : List ℕ → List ℕ) (nonce text given : List ℕ) →
    Going cipher_of inverse_of s c i Ctr nonce text (length s.held) given → length s.held ≤ 16 → AtFront (length text) (raw c i Ctr nonce text) given
counter_front cipher_of inverse_of s c i nonce text given g few =
    let size : length text ≡ 16 * length g.blocks + length s.held = ap length g.text_is ∙ length-text g.blocks s.held g.each in
    let at_end : length text ≡ length given = omega (arith, size, g.count) in
    let all : length given ≤ length text = omega (arith, at_end) in
    (at_end, ap (take (length text)) (counter_same cipher_of inverse_of s c i nonce text given g few) ∙ take_all (length text) given all)

pub at_front : {C : Type 0} (cipher_of inverse_of : C → List ℕ → List ℕ) (s : Blocks C) (c i : List ℕ → List ℕ) (plan : Plan) (nonce text given : List ℕ) →
    Going cipher_of inverse_of s c i plan nonce text (shown plan (length s.held)) given →
    (holds_back plan ≡ false → length s.held < 16) → length s.held ≤ 16 → IsLazy plan text s.held →
    AtFront (front plan text) (raw c i plan nonce text) given
unfolding front
at_front cipher_of inverse_of s c i (Ecb seal padded) nonce text given g waits few lazy =
    blocks_front cipher_of inverse_of s c i (Ecb seal padded) nonce text given (raw c i (Ecb seal padded) nonce text) seal padded g (raw_through c i (Ecb seal padded) nonce text refl) waits few lazy
at_front cipher_of inverse_of s c i (Cbc seal padded) nonce text given g waits few lazy =
    blocks_front cipher_of inverse_of s c i (Cbc seal padded) nonce text given (raw c i (Cbc seal padded) nonce text) seal padded g (raw_through c i (Cbc seal padded) nonce text refl) waits few lazy
at_front cipher_of inverse_of s c i Ctr nonce text given g waits few lazy =
    counter_front cipher_of inverse_of s c i nonce text given g few
at_front cipher_of inverse_of s c i (Gcm seal tag) nonce text given g waits few lazy = absurd (false≢true g.served)
at_front cipher_of inverse_of s c i (HmacSign digest size) nonce text given g waits few lazy = absurd (false≢true g.served)
at_front cipher_of inverse_of s c i (HmacVerify digest least) nonce text given g waits few lazy = absurd (false≢true g.served)

-- the engine after an update
pub holds_at_front : {C : Type 0} (cipher_of inverse_of : C → List ℕ → List ℕ) (s : Blocks C) (c i : List ℕ → List ℕ) (plan : Plan) (nonce text given : List ℕ) →
    Going cipher_of inverse_of s c i plan nonce text (shown plan (length s.held)) given →
    (holds_back plan ≡ false → length s.held < 16) → length s.held ≤ 16 → IsLazy plan text s.held →
    Holds cipher_of inverse_of s c i plan nonce text
holds_at_front cipher_of inverse_of s c i plan nonce text given g waits few lazy =
    let there = at_front cipher_of inverse_of s c i plan nonce text given g waits few lazy in
    let P : List ℕ → Type 0 = λ t. Going cipher_of inverse_of s c i plan nonce text (shown plan (length s.held)) t in
    record {
      going = subst P (sym there.1) g;
      within = there.0 ∙ ap length (sym there.1);
      few = few;
      waits = waits;
      lazy = lazy;
    }

-- the engine before any text
pub holds_empty : {C : Type 0} (cipher_of inverse_of : C → List ℕ → List ℕ) (s : Blocks C) (plan : Plan) →
    is_served plan ≡ true → s.plan ≡ plan → s.held ≡ [] →
    Holds cipher_of inverse_of s (cipher_of s.cipher) (inverse_of s.cipher) plan s.chain []
holds_empty cipher_of inverse_of s plan served plan_is none =
    let size : length s.held ≡ 0 = ap length none in
    let few : length s.held ≤ 16 = omega (arith, size) in
    let shown_none : shown plan (length s.held) ≡ 0 = ap (shown plan) size ∙ elim (cases_Bool (is_counter plan)) [ inl on ↦ rw on refl | inr off ↦ rw off refl ] in
    let P : ℕ → Type 0 = λ n. Going cipher_of inverse_of s (cipher_of s.cipher) (inverse_of s.cipher) plan s.chain [] n [] in
    holds_at_front cipher_of inverse_of s (cipher_of s.cipher) (inverse_of s.cipher) plan s.chain [] []
    (subst P (sym shown_none) (record {
      blocks = [];
      served = served;
      plan_is = plan_is;
      cipher_is = refl;
      inverse_is = refl;
      each = tt;
      text_is = sym none;
      chain_is = refl;
      no_skip = λ _. refl;
      given_is = refl;
      count = refl;
    }))
    (λ _. omega (arith, size))
    few
    (λ _ _. refl)
