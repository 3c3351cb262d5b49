-- The end of a text.
use Rattle.std.proofs.Common.{◌≡◌, ℕ, ◌+◌, ◌*◌, ◌%◌, ◌<◌, ◌≤◌, ◌==◌, nat_le, Bool, true, false, cond, not, ◌&&◌, inl, inr, List, [], ◌++◌, length, take, Option, Some, None, Result, Ok, Err, MatchResult, refl, sym, ◌∙◌, ap, arith, append-nil}
use Rattle.std.specs.List.{concat}
use Rattle.std.specs.Option.{ok_or, option_map}
use Rattle.std.proofs.lemmas.Bool.{cases_eq, eq-eqb, ne_eqb, lt-leb, le-leb, and_left, and_right, false≢true}
use Rattle.tags.specs.declared.plan.Plan.{Plan}
use Rattle.tags.specs.declared.plan.Plan.TheVariants.{Ecb, Cbc, Ctr, Gcm, HmacSign, HmacVerify}
use Rattle.block_modes.specs.declared.engine.Blocks.{Blocks}
use Rattle.block_modes.specs.declared.fault.ModeFault.{ModeFault}
use Rattle.block_modes.specs.declared.fault.ModeFault.TheVariants.{Length, Padding}
use Rattle.block_modes.specs.Texts.{blocks_of}
use Rattle.block_modes.specs.Padding.{pad, unpad}
use Rattle.block_modes.specs.Output.{raw, front, whole_blocks, whole}
use Rattle.block_modes.specs.Steps.{step_out, through, chain_after}
use Rattle.block_modes.specs.Holds.{Going, Holds, out_of, Finishes, last}
use Rattle.block_modes.proofs.PieceLemmas.{length-text, blocks_short, blocks_full}
use Rattle.block_modes.proofs.StepLemmas.{through-snoc, raw_through}
use Rattle.block_modes.proofs.GoingLemmas.{out_is, counter_same}
use Rattle.block_modes.proofs.PadLemmas.{pad_joined, length-pad, unpad-append}

-- what comes behind what was given
abbrev pub behind : List ℕ → Result (List ℕ) ModeFault → Result (List ℕ) ModeFault
behind given (Ok bytes) = Ok (given ++ bytes)
behind given (Err fault) = Err fault

finishes_from : (all end : Result (List ℕ) ModeFault) (given out : List ℕ) (r : Result ℕ ModeFault) → all ≡ behind given end →
    MatchResult r (λ n. end ≡ Ok (take n out)) (λ fault. end ≡ Err fault) → Finishes all given r out
finishes_from all end given out (Ok n) e h = e ∙ ap (behind given) h
finishes_from all end given out (Err fault) e h = e ∙ ap (behind given) h

behind_ok_or : (given : List ℕ) (o : Option (List ℕ)) → ok_or (option_map (λ t. given ++ t) o) Padding ≡ behind given (ok_or o Padding)
behind_ok_or given None = refl
behind_ok_or given (Some t) = refl

behind_test : (given : List ℕ) (t : Bool) (end : Result (List ℕ) ModeFault) → cond t (behind given end) (Err Length) ≡ behind given (cond t end (Err Length))
behind_test given true end = refl
behind_test given false end = refl

-- a state at the front, in a mode of blocks
record AtBlocks {C : Type 0} (cipher_of inverse_of : C → List ℕ → List ℕ) (s : Blocks C) (c i : List ℕ → List ℕ) (plan : Plan) (nonce text given : List ℕ) (made : List ℕ → List ℕ) : Type 0 where
  going : Going cipher_of inverse_of s c i plan nonce text 0 given
  is_made : (t : List ℕ) → made t ≡ through c i plan nonce (blocks_of t)

given_is : {C : Type 0} (cipher_of inverse_of : C → List ℕ → List ℕ) (s : Blocks C) (c i : List ℕ → List ℕ) (plan : Plan) (nonce text given : List ℕ) (made : List ℕ → List ℕ) →
    (at : AtBlocks cipher_of inverse_of s c i plan nonce text given made) → given ≡ through c i plan nonce at.going.blocks
given_is cipher_of inverse_of s c i plan nonce text given made at = at.going.given_is ∙ append-nil (through c i plan nonce at.going.blocks)

-- one block more than what was given
block_more : {C : Type 0} (cipher_of inverse_of : C → List ℕ → List ℕ) (s : Blocks C) (c i : List ℕ → List ℕ) (plan : Plan) (nonce text given : List ℕ) (made : List ℕ → List ℕ) (longer block : List ℕ) →
    (at : AtBlocks cipher_of inverse_of s c i plan nonce text given made) → longer ≡ concat at.going.blocks ++ block → length block ≡ 16 →
    made longer ≡ given ++ out_of cipher_of inverse_of s block
block_more cipher_of inverse_of s c i plan nonce text given made longer block at is_longer full =
    at.is_made longer
    ∙ ap (λ t. through c i plan nonce (blocks_of t)) is_longer
    ∙ ap (through c i plan nonce) (blocks_full at.going.blocks block at.going.each full)
    ∙ through-snoc c i plan nonce at.going.blocks block
    ∙ ap (λ t. t ++ step_out c i plan (chain_after c i plan nonce at.going.blocks) block) (sym (given_is cipher_of inverse_of s c i plan nonce text given made at))
    ∙ ap (λ t. given ++ step_out c i plan t block) (sym at.going.chain_is)
    ∙ ap (λ t. given ++ t) (sym (out_is cipher_of inverse_of s c i plan block at.going.plan_is at.going.cipher_is at.going.inverse_is))

-- nothing more than what was given
no_more : {C : Type 0} (cipher_of inverse_of : C → List ℕ → List ℕ) (s : Blocks C) (c i : List ℕ → List ℕ) (plan : Plan) (nonce text given : List ℕ) (made : List ℕ → List ℕ) →
    AtBlocks cipher_of inverse_of s c i plan nonce text given made → length s.held < 16 → made text ≡ given ++ []
no_more cipher_of inverse_of s c i plan nonce text given made at short =
    at.is_made text
    ∙ ap (λ t. through c i plan nonce (blocks_of t)) at.going.text_is
    ∙ ap (through c i plan nonce) (blocks_short at.going.blocks s.held at.going.each short)
    ∙ sym (given_is cipher_of inverse_of s c i plan nonce text given made at)
    ∙ sym (append-nil given)

size_is : {C : Type 0} (cipher_of inverse_of : C → List ℕ → List ℕ) (s : Blocks C) (c i : List ℕ → List ℕ) (plan : Plan) (nonce text given : List ℕ) (made : List ℕ → List ℕ) →
    (at : AtBlocks cipher_of inverse_of s c i plan nonce text given made) → length text ≡ 16 * length at.going.blocks + length s.held
size_is cipher_of inverse_of s c i plan nonce text given made at = ap length at.going.text_is ∙ length-text at.going.blocks s.held at.going.each

same_eqb : (a b c d : ℕ) → (a ≡ b → c ≡ d) → (c ≡ d → a ≡ b) → (a == b) ≡ (c == d)
same_eqb a b c d there back =
    elim (cases_eq a b) [
      | inl e ↦ eq-eqb a b e ∙ sym (eq-eqb c d (there e))
      | inr ne ↦ ne_eqb a b ne ∙ sym (ne_eqb c d (λ e. ne (back e)))
    ]

-- without a padding
plain_end : {C : Type 0} (cipher_of inverse_of : C → List ℕ → List ℕ) (s : Blocks C) (c i : List ℕ → List ℕ) (plan : Plan) (nonce text given : List ℕ) (made : List ℕ → List ℕ) →
    AtBlocks cipher_of inverse_of s c i plan nonce text given made → length s.held < 16 →
    cond (length text % 16 == 0) (Ok (made text)) (Err Length) ≡ behind given (cond (length s.held == 0) (Ok []) (Err Length))
plain_end cipher_of inverse_of s c i plan nonce text given made at short =
    let size = size_is cipher_of inverse_of s c i plan nonce text given made at in
    let test : (length text % 16 == 0) ≡ (length s.held == 0) = same_eqb (length text % 16) 0 (length s.held) 0 (λ e. omega (arith, size)) (λ e. omega (arith, size)) in
    ap (λ t. cond t (Ok (made text)) (Err Length)) test
    ∙ ap (λ t. cond (length s.held == 0) (Ok t) (Err Length)) (no_more cipher_of inverse_of s c i plan nonce text given made at short)
    ∙ behind_test given (length s.held == 0) (Ok [])

-- the padding of a text to be opened
open_end : {C : Type 0} (cipher_of inverse_of : C → List ℕ → List ℕ) (s : Blocks C) (c i : List ℕ → List ℕ) (plan : Plan) (nonce text given : List ℕ) (made : List ℕ → List ℕ) →
    AtBlocks cipher_of inverse_of s c i plan nonce text given made → length s.held ≤ 16 → (length s.held ≡ 0 → length text ≡ 0) →
    (length s.held ≡ 16 → length (out_of cipher_of inverse_of s s.held) ≡ 16) →
    cond (length text % 16 == 0 && nat_le 16 (length text)) (ok_or (unpad (made text)) Padding) (Err Length)
    ≡ behind given (cond (length s.held == 16) (ok_or (unpad (out_of cipher_of inverse_of s s.held)) Padding) (Err Length))
open_end cipher_of inverse_of s c i plan nonce text given made at few lazy whole_out =
    let size = size_is cipher_of inverse_of s c i plan nonce text given made at in
    elim (cases_eq (length s.held) 16) [
      | inl full ↦
          let whole : length text % 16 ≡ 0 = omega (arith, size) in
          let some : 16 ≤ length text = omega (arith, size) in
          ap (λ t. cond (t && nat_le 16 (length text)) (ok_or (unpad (made text)) Padding) (Err Length)) (eq-eqb (length text % 16) 0 whole)
          ∙ ap (λ t. cond t (ok_or (unpad (made text)) Padding) (Err Length)) (le-leb 16 (length text) some)
          ∙ ap (λ t. ok_or (unpad t) Padding) (block_more cipher_of inverse_of s c i plan nonce text given made text s.held at at.going.text_is full)
          ∙ ap (λ t. ok_or t Padding) (unpad-append given (out_of cipher_of inverse_of s s.held) (whole_out full))
          ∙ behind_ok_or given (unpad (out_of cipher_of inverse_of s s.held))
          ∙ ap (λ t. behind given (cond t (ok_or (unpad (out_of cipher_of inverse_of s s.held)) Padding) (Err Length))) (sym (eq-eqb (length s.held) 16 full))
      | inr part ↦
          let no : (length text % 16 == 0 && nat_le 16 (length text)) ≡ false =
          elim (cases_eq (length s.held) 0) [
            | inl empty ↦
                let none : length text ≡ 0 = lazy empty in
                let short : length text < 16 = omega (arith, none) in
                and_right (length text % 16 == 0) (nat_le 16 (length text)) (lt-leb 16 (length text) short)
            | inr some ↦
                let rest : length text % 16 ≡ 0 → ⊥ = λ e. some (omega (arith, size, e, few, part)) in
                and_left (length text % 16 == 0) (nat_le 16 (length text)) (ne_eqb (length text % 16) 0 rest)
          ] in
          ap (λ t. cond t (ok_or (unpad (made text)) Padding) (Err Length)) no
          ∙ ap (λ t. behind given (cond t (ok_or (unpad (out_of cipher_of inverse_of s s.held)) Padding) (Err Length))) (sym (ne_eqb (length s.held) 16 part))
    ]

never_back : (padded : Bool) → (padded && not true) ≡ false
never_back true = refl
never_back false = refl

-- the end in a mode of blocks
blocks_end : {C : Type 0} (cipher_of inverse_of : C → List ℕ → List ℕ) (s : Blocks C) (c i : List ℕ → List ℕ) (plan : Plan) (nonce text given : List ℕ) (made : List ℕ → List ℕ) (seal padded : Bool) →
    AtBlocks cipher_of inverse_of s c i plan nonce text given made → length s.held ≤ 16 → ((padded && not seal) ≡ false → length s.held < 16) →
    ((padded && not seal) ≡ true → length s.held ≡ 0 → length text ≡ 0) →
    (seal ≡ false → padded ≡ true → length s.held ≡ 16 → length (out_of cipher_of inverse_of s s.held) ≡ 16) →
    whole_blocks seal padded made text ≡ behind given (last cipher_of inverse_of s seal padded)
blocks_end cipher_of inverse_of s c i plan nonce text given made true true at few waits lazy size =
    let short = waits refl in
    ap Ok (block_more cipher_of inverse_of s c i plan nonce text given made (pad text) (pad s.held) at
    (ap pad at.going.text_is ∙ pad_joined at.going.blocks s.held at.going.each) (length-pad s.held short))
blocks_end cipher_of inverse_of s c i plan nonce text given made false true at few waits lazy size =
    open_end cipher_of inverse_of s c i plan nonce text given made at few (lazy refl) (size refl refl)
blocks_end cipher_of inverse_of s c i plan nonce text given made true false at few waits lazy size = plain_end cipher_of inverse_of s c i plan nonce text given made at (waits refl)
blocks_end cipher_of inverse_of s c i plan nonce text given made false false at few waits lazy size = plain_end cipher_of inverse_of s c i plan nonce text given made at (waits refl)

-- what the code of the end in a mode of blocks gives
abbrev pub Completes : {C : Type 0} (cipher_of inverse_of : C → List ℕ → List ℕ) → Blocks C → Bool → Bool → Result ℕ ModeFault → List ℕ → Type 0
Completes cipher_of inverse_of s seal padded r out = (seal ≡ true → length s.held < 16) →
    MatchResult r (λ n. last cipher_of inverse_of s seal padded ≡ Ok (take n out)) (λ fault. last cipher_of inverse_of s seal padded ≡ Err fault)

abbrev pub WholeOut : {C : Type 0} (cipher_of inverse_of : C → List ℕ → List ℕ) → Blocks C → Bool → Bool → Type 0
WholeOut cipher_of inverse_of s seal padded = seal ≡ false → padded ≡ true → length s.held ≡ 16 → length (out_of cipher_of inverse_of s s.held) ≡ 16

pub finishes_ecb : {C : Type 0} (cipher_of inverse_of : C → List ℕ → List ℕ) (s : Blocks C) (c i : List ℕ → List ℕ) (nonce text : List ℕ) (seal padded : Bool) (r : Result ℕ ModeFault) (out : List ℕ) →
    Holds cipher_of inverse_of s c i (Ecb seal padded) nonce text → Completes cipher_of inverse_of s seal padded r out → WholeOut cipher_of inverse_of s seal padded →
    Finishes (whole c i (Ecb seal padded) nonce text) (take (front (Ecb seal padded) text) (raw c i (Ecb seal padded) nonce text)) r out
unfolding whole
finishes_ecb cipher_of inverse_of s c i nonce text seal padded r out h completes size =
    finishes_from (whole_blocks seal padded (raw c i (Ecb seal padded) nonce) text) (last cipher_of inverse_of s seal padded) (take (front (Ecb seal padded) text) (raw c i (Ecb seal padded) nonce text)) out r
    (blocks_end cipher_of inverse_of s c i (Ecb seal padded) nonce text (take (front (Ecb seal padded) text) (raw c i (Ecb seal padded) nonce text)) (raw c i (Ecb seal padded) nonce) seal padded
    (record { going = h.going; is_made = λ t. raw_through c i (Ecb seal padded) nonce t refl }) h.few h.waits h.lazy size)
    (completes (λ sealing. h.waits (ap (λ t. padded && not t) sealing ∙ never_back padded)))

pub finishes_cbc : {C : Type 0} (cipher_of inverse_of : C → List ℕ → List ℕ) (s : Blocks C) (c i : List ℕ → List ℕ) (nonce text : List ℕ) (seal padded : Bool) (r : Result ℕ ModeFault) (out : List ℕ) →
    Holds cipher_of inverse_of s c i (Cbc seal padded) nonce text → Completes cipher_of inverse_of s seal padded r out → WholeOut cipher_of inverse_of s seal padded →
    Finishes (whole c i (Cbc seal padded) nonce text) (take (front (Cbc seal padded) text) (raw c i (Cbc seal padded) nonce text)) r out
unfolding whole
finishes_cbc cipher_of inverse_of s c i nonce text seal padded r out h completes size =
    finishes_from (whole_blocks seal padded (raw c i (Cbc seal padded) nonce) text) (last cipher_of inverse_of s seal padded) (take (front (Cbc seal padded) text) (raw c i (Cbc seal padded) nonce text)) out r
    (blocks_end cipher_of inverse_of s c i (Cbc seal padded) nonce text (take (front (Cbc seal padded) text) (raw c i (Cbc seal padded) nonce text)) (raw c i (Cbc seal padded) nonce) seal padded
    (record { going = h.going; is_made = λ t. raw_through c i (Cbc seal padded) nonce t refl }) h.few h.waits h.lazy size)
    (completes (λ sealing. h.waits (ap (λ t. padded && not t) sealing ∙ never_back padded)))

-- in CTR all is out
pub finishes_ctr : {C : Type 0} (cipher_of inverse_of : C → List ℕ → List ℕ) (s : Blocks C) (c i : List ℕ → List ℕ) (nonce text : List ℕ) →
    Holds cipher_of inverse_of s c i Ctr nonce text → whole c i Ctr nonce text ≡ Ok (take (front Ctr text) (raw c i Ctr nonce text) ++ [])
unfolding whole
finishes_ctr cipher_of inverse_of s c i nonce text h =
    ap Ok (counter_same cipher_of inverse_of s c i nonce text (take (front Ctr text) (raw c i Ctr nonce text)) h.going h.few ∙ sym (append-nil (take (front Ctr text) (raw c i Ctr nonce text))))

pub finishes_rest : {C : Type 0} (cipher_of inverse_of : C → List ℕ → List ℕ) (s : Blocks C) (c i : List ℕ → List ℕ) (plan : Plan) (nonce text : List ℕ) →
    Holds cipher_of inverse_of s c i plan nonce text → ((seal padded : Bool) → plan ≡ Ecb seal padded → ⊥) → ((seal padded : Bool) → plan ≡ Cbc seal padded → ⊥) →
    whole c i plan nonce text ≡ Ok (take (front plan text) (raw c i plan nonce text) ++ [])
finishes_rest cipher_of inverse_of s c i Ctr nonce text h no_ecb no_cbc = finishes_ctr cipher_of inverse_of s c i nonce text h
finishes_rest cipher_of inverse_of s c i (Ecb seal padded) nonce text h no_ecb no_cbc = absurd (no_ecb seal padded refl)
finishes_rest cipher_of inverse_of s c i (Cbc seal padded) nonce text h no_ecb no_cbc = absurd (no_cbc seal padded refl)
finishes_rest cipher_of inverse_of s c i (Gcm seal tag) nonce text h no_ecb no_cbc = absurd (false≢true h.going.served)
finishes_rest cipher_of inverse_of s c i (HmacSign digest size) nonce text h no_ecb no_cbc = absurd (false≢true h.going.served)
finishes_rest cipher_of inverse_of s c i (HmacVerify digest least) nonce text h no_ecb no_cbc = absurd (false≢true h.going.served)
