-- What is carried goes on by a piece, and what is put out for it.
use Rattle.std.proofs.Common.{◌≡◌, ℕ, ◌+◌, ◌-◌, ◌*◌, ◌/◌, ◌%◌, ◌≤◌, ◌==◌, Bool, true, false, cond, not, ◌&&◌, if◌then◌else◌, inl, inr, List, [], ◌++◌, length, take, drop, Option, Result, refl, sym, ap, ◌∙◌, subst, arith, append_assoc, length-append}
use Rattle.std.proofs.lemmas.List.{drop_at, take-append-drop, nil_from_length}
use Rattle.std.proofs.lemmas.Bool.{cases_eq, eq-eqb, ne_eqb}
use Rattle.tags.specs.declared.code.Code.{Code}
use Rattle.tags.specs.declared.plan.Plan.{Plan}
use Rattle.tags.specs.declared.plan.Plan.TheVariants.{Ecb, Cbc, Ctr, Gcm, HmacSign, HmacVerify}
use Rattle.block_modes.specs.Output as modes
use Rattle.block_modes.specs.Output.{blocks_out}
use Rattle.cipher_ops.specs.Output.{raw, whole, full_front, front, behind, update_output, finish_output}
use Rattle.whole_outputs.specs.Sizes.{done_size, done_under, out_size}
use Rattle.whole_outputs.specs.Modes.{ModeIs, MayEnd}
use Rattle.whole_outputs.specs.Carries.{Carries}
use Rattle.whole_outputs.specs.declared.carried.Carried.{Carried}
use Rattle.whole_outputs.specs.declared.mode.Mode.{Mode}
use Rattle.whole_outputs.proofs.ModeLemmas.{Front, front_of}

-- ---- how many bytes are done

none_out : (back : Bool) → (if back then 0 - 16 else 16 * (0 / 16)) ≡ 0
none_out true = refl
none_out false = refl

done_none : (plan : Plan) → done_size plan 0 ≡ 0
done_none (Ecb seal padded) = none_out ((padded && not seal) && 0 % 16 == 0)
done_none (Cbc seal padded) = none_out ((padded && not seal) && 0 % 16 == 0)
done_none Ctr = refl
done_none (Gcm true tag) = refl
done_none (Gcm false tag) = omega arith
done_none (HmacSign digest size) = refl
done_none (HmacVerify digest least) = refl

pub under_none : (plan : Plan) (limited : Bool) → done_under plan limited 0 ≡ 0
under_none plan true = refl
under_none plan false = done_none plan

-- the blocks behind those that are done, where the last waits for what follows it, and where none does
back_more : (d w p : ℕ) → d ≡ (if (d + w) % 16 == 0 then d + w - 16 else 16 * ((d + w) / 16)) → w ≤ p →
    d + (if p % 16 == 0 then p - 16 else 16 * (p / 16)) ≡ (if (d + p) % 16 == 0 then d + p - 16 else 16 * ((d + p) / 16))
back_more d w p is more =
    elim (cases_eq ((d + w) % 16) 0) [
      | inl at ↦
          let was : d ≡ d + w - 16 = is ∙ ap (λ t. cond t (d + w - 16) (16 * ((d + w) / 16))) (eq-eqb ((d + w) % 16) 0 at) in
          ends (omega (arith, was, at)) (omega (arith, was, at, more))
      | inr off ↦
          let was : d ≡ 16 * ((d + w) / 16) = is ∙ ap (λ t. cond t (d + w - 16) (16 * ((d + w) / 16))) (ne_eqb ((d + w) % 16) 0 off) in
          ends (omega (arith, was)) (omega (arith, was, off, more))
    ] where
      ends : d % 16 ≡ 0 → (p ≡ 0 → d ≡ 0) → d + (if p % 16 == 0 then p - 16 else 16 * (p / 16)) ≡ (if (d + p) % 16 == 0 then d + p - 16 else 16 * ((d + p) / 16))
      ends even none =
          elim (cases_eq (p % 16) 0) [
            | inl at ↦
                let both : (d + p) % 16 ≡ 0 = omega (arith, even, at) in
                let left = ap (λ t. d + cond t (p - 16) (16 * (p / 16))) (eq-eqb (p % 16) 0 at) in
                let right = ap (λ t. cond t (d + p - 16) (16 * ((d + p) / 16))) (eq-eqb ((d + p) % 16) 0 both) in
                left ∙ sum at ∙ sym right
            | inr off ↦
                let both : (d + p) % 16 ≡ 0 → ⊥ = λ e. off (omega (arith, even, e)) in
                let place : d + 16 * (p / 16) ≡ 16 * ((d + p) / 16) = omega (arith, even) in
                let left = ap (λ t. d + cond t (p - 16) (16 * (p / 16))) (ne_eqb (p % 16) 0 off) in
                let right = ap (λ t. cond t (d + p - 16) (16 * ((d + p) / 16))) (ne_eqb ((d + p) % 16) 0 both) in
                left ∙ place ∙ sym right
          ] where
            sum : p % 16 ≡ 0 → d + (p - 16) ≡ d + p - 16
            sum at =
                elim (cases_eq p 0) [
                  | inl empty ↦ omega (arith, empty, none empty)
                  | inr some ↦ omega (arith, at, some)
                ]

blocks_more : (seal padded : Bool) (d w p : ℕ) → d ≡ blocks_out seal padded (d + w) → w ≤ p → d + blocks_out seal padded p ≡ blocks_out seal padded (d + p)
blocks_more true true d w p is more = omega (arith, is)
blocks_more false true d w p is more = back_more d w p is more
blocks_more true false d w p is more = omega (arith, is)
blocks_more false false d w p is more = omega (arith, is)

pub done_more : (plan : Plan) (d w p : ℕ) → d ≡ done_size plan (d + w) → w ≤ p → d + done_size plan p ≡ done_size plan (d + p)
done_more (Ecb seal padded) d w p is more = blocks_more seal padded d w p is more
done_more (Cbc seal padded) d w p is more = blocks_more seal padded d w p is more
done_more Ctr d w p is more = refl
done_more (Gcm true tag) d w p is more = refl
done_more (Gcm false tag) d w p is more = omega (arith, is, more)
done_more (HmacSign digest size) d w p is more = refl
done_more (HmacVerify digest least) d w p is more = refl

-- how many bytes are out
front_is : (plan : Plan) (text : List ℕ) → full_front plan text ≡ out_size plan (done_size plan (length text))
unfolding full_front modes.front
front_is (Ecb seal padded) text = refl
front_is (Cbc seal padded) text = refl
front_is Ctr text = refl
front_is (Gcm true tag) text = refl
front_is (Gcm false tag) text = refl
front_is (HmacSign digest size) text = refl
front_is (HmacVerify digest least) text = refl

out_none : (plan : Plan) → out_size plan 0 ≡ 0
out_none (Ecb seal padded) = refl
out_none (Cbc seal padded) = refl
out_none Ctr = refl
out_none (Gcm seal tag) = refl
out_none (HmacSign digest size) = refl
out_none (HmacVerify digest least) = refl

front_under : (plan : Plan) (limited : Bool) (text : List ℕ) (count : ℕ) → count ≡ done_under plan limited (length text) → front plan limited text ≡ out_size plan count
front_under plan true text count is = sym (out_none plan) ∙ ap (out_size plan) (sym is)
front_under plan false text count is = front_is plan text ∙ ap (out_size plan) (sym is)

-- ---- a piece

-- nothing is done under a use limit
nothing : (done : List ℕ) (plan : Plan) (limited : Bool) (size : ℕ) → limited ≡ true → length done ≡ done_under plan limited size → done ≡ []
nothing done plan limited size is done_is = nil_from_length done (done_is ∙ ap (λ t. done_under plan t size) is)

-- a piece that waits
pub waits_more : (state new : Carried) (plan : Plan) (limited : Bool) (key nonce aad text input : List ℕ) → Carries state plan limited key nonce aad text → state.limited ≡ true →
    new.limited ≡ state.limited → new.mode.value ≡ state.mode.value → new.waiting.items ≡ state.waiting.items ++ input → Carries new plan limited key nonce aad (text ++ input)
waits_more state new plan limited key nonce aad text input held is limited_is mode_is waiting_is =
    let all : limited ≡ true = sym held.limited_is ∙ is in
    record {
      limited_is = limited_is ∙ held.limited_is;
      done = held.done;
      text_is = ap (λ (l : List ℕ). l ++ input) held.text_is ∙ append_assoc held.done state.waiting.items input ∙ ap (λ (l : List ℕ). held.done ++ l) (sym waiting_is);
      size_is = held.size_is ∙ ap (λ t. done_under plan t (length text)) all ∙ ap (λ t. done_under plan t (length (text ++ input))) (sym all);
      mode = subst (λ m. ModeIs m plan key nonce aad held.done) (sym mode_is) held.mode;
    }

pub nothing_out : (plan : Plan) (limited : Bool) (key nonce a b : List ℕ) → limited ≡ true → [] ≡ update_output plan limited key nonce a b
nothing_out plan limited key nonce a b is = ap (λ t. update_output plan t key nonce a b) (sym is)

-- a piece behind what waited, in two parts
pub parts_joined : (waiting first input piece lent part rest : List ℕ) (n : ℕ) → first ≡ waiting → piece ≡ first ++ input → lent ≡ piece → part ≡ take n lent → rest ≡ drop n lent →
    part ++ rest ≡ waiting ++ input
parts_joined waiting first input piece lent part rest n first_is piece_is lent_is part_is rest_is =
    ap (λ (l : List ℕ). l ++ rest) part_is ∙ ap (λ (l : List ℕ). take n lent ++ l) rest_is ∙ take-append-drop n lent ∙ lent_is ∙ piece_is ∙ ap (λ (l : List ℕ). l ++ input) first_is

-- a piece of which the front goes through the mode
record Step (plan : Plan) (limited : Bool) (text input done part rest : List ℕ) : Type 0 where
  text_is : text ++ input ≡ (done ++ part) ++ rest
  size_is : length (done ++ part) ≡ done_under plan limited (length (text ++ input))

step : (state : Carried) (plan : Plan) (limited : Bool) (key nonce aad text input part rest : List ℕ) (held : Carries state plan limited key nonce aad text) → state.limited ≡ false →
    part ++ rest ≡ state.waiting.items ++ input → length part ≡ done_size plan (length (state.waiting.items ++ input)) → Step plan limited text input held.done part rest
step state plan limited key nonce aad text input part rest held is joined size =
    let none : limited ≡ false = sym held.limited_is ∙ is in
    let before : length held.done ≡ done_size plan (length held.done + length state.waiting.items) =
    held.size_is ∙ ap (λ t. done_under plan t (length text)) none ∙ ap (done_size plan) (ap length held.text_is ∙ length-append held.done state.waiting.items) in
    let more = done_more plan (length held.done) (length state.waiting.items) (length (state.waiting.items ++ input)) before (omega (arith, length-append state.waiting.items input)) in
    let grown : text ++ input ≡ held.done ++ (state.waiting.items ++ input) = ap (λ (l : List ℕ). l ++ input) held.text_is ∙ append_assoc held.done state.waiting.items input in
    let whole_size : length (text ++ input) ≡ length held.done + length (state.waiting.items ++ input) = ap length grown ∙ length-append held.done (state.waiting.items ++ input) in
    record {
      text_is = grown ∙ ap (λ (l : List ℕ). held.done ++ l) (sym joined) ∙ sym (append_assoc held.done part rest);
      size_is =
          length-append held.done part ∙ ap (λ (n : ℕ). length held.done + n) size ∙ more ∙ ap (done_size plan) (sym whole_size)
          ∙ ap (λ t. done_under plan t (length (text ++ input))) (sym none);
    }

pub passes_more : (state new : Carried) (plan : Plan) (limited : Bool) (key nonce aad text input part rest : List ℕ) (held : Carries state plan limited key nonce aad text) → state.limited ≡ false →
    part ++ rest ≡ state.waiting.items ++ input → length part ≡ done_size plan (length (state.waiting.items ++ input)) →
    new.limited ≡ state.limited → ModeIs new.mode.value plan key nonce aad (held.done ++ part) → new.waiting.items ≡ rest → Carries new plan limited key nonce aad (text ++ input)
passes_more state new plan limited key nonce aad text input part rest held is joined size limited_is mode waiting_is =
    let next = step state plan limited key nonce aad text input part rest held is joined size in
    record {
      limited_is = limited_is ∙ held.limited_is;
      done = held.done ++ part;
      text_is = next.text_is ∙ ap (λ (l : List ℕ). (held.done ++ part) ++ l) (sym waiting_is);
      size_is = next.size_is;
      mode = mode;
    }

-- what is put out for it
pub part_out : (state : Carried) (mode : Mode) (plan : Plan) (limited : Bool) (key nonce aad text input part rest out : List ℕ) (held : Carries state plan limited key nonce aad text) → state.limited ≡ false →
    part ++ rest ≡ state.waiting.items ++ input → length part ≡ done_size plan (length (state.waiting.items ++ input)) →
    ModeIs mode plan key nonce aad (held.done ++ part) → raw plan key nonce held.done ++ out ≡ raw plan key nonce (held.done ++ part) →
    out ≡ update_output plan limited key nonce text (text ++ input)
part_out state mode plan limited key nonce aad text input part rest out held is joined size after made =
    let next = step state plan limited key nonce aad text input part rest held is joined size in
    let now : Front plan key nonce held.done = front_of state.mode.value plan key nonce aad held.done held.mode in
    let later : Front plan key nonce (held.done ++ part) = front_of mode plan key nonce aad (held.done ++ part) after in
    let a : front plan limited text ≡ length (raw plan key nonce held.done) = front_under plan limited text (length held.done) held.size_is ∙ sym now.size in
    let b : front plan limited (text ++ input) ≡ out_size plan (length (held.done ++ part)) = front_under plan limited (text ++ input) (length (held.done ++ part)) next.size_is in
    let all : take (front plan limited (text ++ input)) (raw plan key nonce (text ++ input)) ≡ raw plan key nonce held.done ++ out =
    ap (λ (n : ℕ). take n (raw plan key nonce (text ++ input))) b
    ∙ ap (λ (l : List ℕ). take (out_size plan (length (held.done ++ part))) (raw plan key nonce l)) next.text_is
    ∙ later.front rest ∙ sym made in
    sym (drop_at (raw plan key nonce held.done) out (length (raw plan key nonce held.done)) refl)
    ∙ ap (λ (n : ℕ). drop n (raw plan key nonce held.done ++ out)) (sym a)
    ∙ ap (λ (l : List ℕ). drop (front plan limited text) l) (sym all)

-- ---- the end

may_size : (plan : Plan) (limited : Bool) (d w r : ℕ) → d ≡ done_under plan limited (d + w) → w ≤ r → MayEnd plan d r
may_size plan true d w r is more = omega (arith, is)
may_size plan false d w r is more = omega (arith, done_more plan d w r is more)

pub may_end : (state : Carried) (plan : Plan) (limited : Bool) (key nonce aad text input : List ℕ) (held : Carries state plan limited key nonce aad text) →
    MayEnd plan (length held.done) (length (state.waiting.items ++ input))
may_end state plan limited key nonce aad text input held =
    may_size plan limited (length held.done) (length state.waiting.items) (length (state.waiting.items ++ input))
    (held.size_is ∙ ap (done_under plan limited) (ap length held.text_is ∙ length-append held.done state.waiting.items)) (omega (arith, length-append state.waiting.items input))

pub ended : (state : Carried) (plan : Plan) (limited : Bool) (key nonce aad text input : List ℕ) (signature : Option (List ℕ)) (output : Result (List ℕ) Code) (held : Carries state plan limited key nonce aad text) →
    output ≡ behind (out_size plan (length held.done)) (whole plan key nonce aad (held.done ++ (state.waiting.items ++ input)) signature) →
    output ≡ finish_output plan limited key nonce aad text (text ++ input) signature
ended state plan limited key nonce aad text input signature output held is =
    let all : text ++ input ≡ held.done ++ (state.waiting.items ++ input) = ap (λ (l : List ℕ). l ++ input) held.text_is ∙ append_assoc held.done state.waiting.items input in
    is ∙ ap (λ (l : List ℕ). behind (out_size plan (length held.done)) (whole plan key nonce aad l signature)) (sym all)
    ∙ ap (λ (n : ℕ). behind n (whole plan key nonce aad (text ++ input) signature)) (sym (front_under plan limited text (length held.done) held.size_is))
