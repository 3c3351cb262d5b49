-- The end of a text in ECB or CBC from a block on.
use Rattle.std.proofs.Common.{◌≡◌, ℕ, ◌+◌, ◌-◌, ◌*◌, ◌/◌, ◌%◌, ◌<◌, ◌≤◌, ◌==◌, nat_le, Bool, true, false, cond, ◌&&◌, inl, inr, List, ◌++◌, length, take, drop, replicate, get_or, Option, Some, None, Result, Ok, Err, refl, sym, ap, ◌∙◌, arith, append_assoc, length-append}
use Rattle.std.specs.List.{list_all}
use Rattle.std.specs.Option.{ok_or, option_map}
use Rattle.std.proofs.Math.Seq.{drop-append-add, take-append-add}
use Rattle.std.proofs.lemmas.List.{drop_at, take_rest, get_or-append-add}
use Rattle.std.proofs.lemmas.Bool.{cases_lt, cases_eq, eq-eqb, ne_eqb, lt-leb, le-leb, and_left, and_right}
use Rattle.tags.specs.declared.code.Code.{Code}
use Rattle.block_modes.specs.declared.fault.ModeFault.{ModeFault}
use Rattle.block_modes.specs.declared.fault.ModeFault.TheVariants.{Length, Padding}
use Rattle.block_modes.specs.Padding.{padding_size, pad, is_padding, unpad_by, unpad}
use Rattle.block_modes.specs.Output.{blocks_out, whole_blocks}
use Rattle.cipher_ops.specs.Output.{behind, coded}

-- ---- paddings

-- a text behind whole blocks is padded as it would be alone
pad_behind : (done rest : List ℕ) → length done % 16 ≡ 0 → pad (done ++ rest) ≡ done ++ pad rest
pad_behind done rest h =
    let e : padding_size (length (done ++ rest)) ≡ padding_size (length rest) = omega (arith, length-append done rest) in
    ap (λ n. (done ++ rest) ++ replicate n n) e ∙ append_assoc done rest (replicate (padding_size (length rest)) (padding_size (length rest)))

chosen : (t : Bool) (xs ys : List ℕ) → cond t (Some (xs ++ ys)) None ≡ option_map (λ zs. xs ++ zs) (cond t (Some ys) None)
chosen true xs ys = refl
chosen false xs ys = refl

too_large : (n : ℕ) (text : List ℕ) → 16 < n → is_padding n text ≡ false
too_large n text large =
    let no : nat_le n 16 ≡ false = lt-leb n 16 large in
    and_left (nat_le 1 n && nat_le n 16 && nat_le n (length text)) (list_all (λ byte. byte == n) (drop (length text - n) text))
    (and_left (nat_le 1 n && nat_le n 16) (nat_le n (length text)) (and_right (nat_le 1 n) (nat_le n 16) no))

unpad_by-behind : (n : ℕ) (xs text : List ℕ) → 16 ≤ length text → unpad_by n (xs ++ text) ≡ option_map (λ t. xs ++ t) (unpad_by n text)
unpad_by-behind n xs text long =
    elim (cases_lt 16 n) [
      | inl large ↦
          ap (λ t. cond t (Some (take (length (xs ++ text) - n) (xs ++ text))) None) (too_large n (xs ++ text) large)
          ∙ ap (λ t. option_map (λ u. xs ++ u) (cond t (Some (take (length text - n) text)) None)) (sym (too_large n text large))
      | inr small ↦
          let e : length (xs ++ text) - n ≡ length xs + (length text - n) = omega (arith, length-append xs text) in
          let within : n ≤ length text = omega arith in
          let far : n ≤ length (xs ++ text) = omega (arith, length-append xs text) in
          let test : is_padding n (xs ++ text) ≡ is_padding n text =
          ap (λ t. (nat_le 1 n && nat_le n 16 && t) && list_all (λ byte. byte == n) (drop (length (xs ++ text) - n) (xs ++ text))) (le-leb n (length (xs ++ text)) far ∙ sym (le-leb n (length text) within))
          ∙ ap (λ k. (nat_le 1 n && nat_le n 16 && nat_le n (length text)) && list_all (λ byte. byte == n) (drop k (xs ++ text))) e
          ∙ ap (λ t. (nat_le 1 n && nat_le n 16 && nat_le n (length text)) && list_all (λ byte. byte == n) t) (drop-append-add xs text (length text - n)) in
          ap (λ t. cond t (Some (take (length (xs ++ text) - n) (xs ++ text))) None) test
          ∙ ap (λ k. cond (is_padding n text) (Some (take k (xs ++ text))) None) e
          ∙ ap (λ t. cond (is_padding n text) (Some t) None) (take-append-add xs text (length text - n))
          ∙ chosen (is_padding n text) xs (take (length text - n) text)
    ]

unpad-behind : (xs text : List ℕ) → 16 ≤ length text → unpad (xs ++ text) ≡ option_map (λ t. xs ++ t) (unpad text)
unpad-behind xs text long =
    let e : length (xs ++ text) - 1 ≡ length xs + (length text - 1) = omega (arith, length-append xs text) in
    ap (λ k. unpad_by (get_or (xs ++ text) k 0) (xs ++ text)) e
    ∙ ap (λ k. unpad_by k (xs ++ text)) (get_or-append-add xs text (length text - 1) 0)
    ∙ unpad_by-behind (get_or text (length text - 1) 0) xs text long

-- whole blocks without the padding that their last byte tells, where the bytes from there on tell whether it is one
pub unpad_told : (text : List ℕ) (n : ℕ) (right : Bool) → 16 ≤ length text → n ≡ get_or text (length text - 1) 0 → 1 ≤ n → n ≤ 16 →
    right ≡ list_all (λ byte. byte == n) (take (length text - (length text - n)) (drop (length text - n) text)) → unpad text ≡ cond right (Some (take (length text - n) text)) None
unpad_told text n right long is some few all =
    let within : n ≤ length text = omega arith in
    rw (← is, le-leb 1 n some, le-leb n 16 few, le-leb n (length text) within, all, take_rest text (length text - n)) refl

-- ---- the end

same_eqb : (a b c d : ℕ) → (a ≡ b → c ≡ d) → (c ≡ d → a ≡ b) → (a == b) ≡ (c == d)
same_eqb a b c d there back =
    elim (cases_eq a b) [
      | inl e ↦ eq-eqb a b e ∙ sym (eq-eqb c d (there e))
      | inr ne ↦ ne_eqb a b ne ∙ sym (ne_eqb c d (λ e. ne (back e)))
    ]

-- what comes behind a front of some output
behind_joined : (given out : List ℕ) (n : ℕ) → length given ≡ n → behind n (Ok (given ++ out)) ≡ Ok out
behind_joined given out n e = ap (λ (l : List ℕ). Ok l) (drop_at given out n e)

behind_test : (n : ℕ) (t : Bool) (a : Result (List ℕ) Code) (code : Code) → behind n (cond t a (Err code)) ≡ cond t (behind n a) (Err code)
behind_test n true a code = refl
behind_test n false a code = refl

coded_test : (t : Bool) (a : Result (List ℕ) ModeFault) (fault : ModeFault) → coded (cond t a (Err fault)) ≡ cond t (coded a) (coded (Err fault))
coded_test true a fault = refl
coded_test false a fault = refl

behind_opened : (given : List ℕ) (n : ℕ) (found : Option (List ℕ)) → length given ≡ n →
    behind n (coded (ok_or (option_map (λ t. given ++ t) found) Padding)) ≡ coded (ok_or found Padding)
behind_opened given n (Some t) e = behind_joined given t n e
behind_opened given n None e = refl

-- What a mode makes of texts, and what it makes of them from a block on: the bytes that are done come first.
pub record GoesOn (made made' : List ℕ → List ℕ) (done given : List ℕ) : Type 0 where
  pub joined : (more : List ℕ) → made (done ++ more) ≡ given ++ made' more
  pub size : length given ≡ length done
  pub whole : length done % 16 ≡ 0
  pub full : (more : List ℕ) → length more % 16 ≡ 0 → length (made' more) ≡ length more

plain_end : (made made' : List ℕ → List ℕ) (done given rest : List ℕ) → GoesOn made made' done given →
    behind (length done) (coded (cond (length (done ++ rest) % 16 == 0) (Ok (made (done ++ rest))) (Err Length)))
    ≡ coded (cond (length rest % 16 == 0) (Ok (made' rest)) (Err Length))
plain_end made made' done given rest goes =
    let test : (length (done ++ rest) % 16 == 0) ≡ (length rest % 16 == 0) =
    same_eqb (length (done ++ rest) % 16) 0 (length rest % 16) 0 (λ e. omega (arith, length-append done rest, goes.whole, e)) (λ e. omega (arith, length-append done rest, goes.whole, e)) in
    ap (λ t. behind (length done) (coded (cond t (Ok (made (done ++ rest))) (Err Length)))) test
    ∙ ap (λ (l : List ℕ). behind (length done) (coded (cond (length rest % 16 == 0) (Ok l) (Err Length)))) (goes.joined rest)
    ∙ by_test (length rest % 16 == 0) where
      by_test : (t : Bool) → behind (length done) (coded (cond t (Ok (given ++ made' rest)) (Err Length))) ≡ coded (cond t (Ok (made' rest)) (Err Length))
      by_test true = behind_joined given (made' rest) (length done) goes.size
      by_test false = refl

open_end : (made made' : List ℕ → List ℕ) (done given rest : List ℕ) → GoesOn made made' done given → (length rest ≡ 0 → length done ≡ 0) →
    behind (length done) (coded (cond (length (done ++ rest) % 16 == 0 && nat_le 16 (length (done ++ rest))) (ok_or (unpad (made (done ++ rest))) Padding) (Err Length)))
    ≡ coded (cond (length rest % 16 == 0 && nat_le 16 (length rest)) (ok_or (unpad (made' rest)) Padding) (Err Length))
open_end made made' done given rest goes none =
    elim (cases_eq (length rest % 16) 0) [
      | inr part ↦
          let no : length (done ++ rest) % 16 ≡ 0 → ⊥ = λ e. part (omega (arith, length-append done rest, goes.whole, e)) in
          let left : (length (done ++ rest) % 16 == 0 && nat_le 16 (length (done ++ rest))) ≡ false = and_left (length (done ++ rest) % 16 == 0) (nat_le 16 (length (done ++ rest))) (ne_eqb (length (done ++ rest) % 16) 0 no) in
          let right : (length rest % 16 == 0 && nat_le 16 (length rest)) ≡ false = and_left (length rest % 16 == 0) (nat_le 16 (length rest)) (ne_eqb (length rest % 16) 0 part) in
          ap (λ t. behind (length done) (coded (cond t (ok_or (unpad (made (done ++ rest))) Padding) (Err Length)))) left
          ∙ ap (λ t. coded (cond t (ok_or (unpad (made' rest)) Padding) (Err Length))) (sym right)
      | inl whole ↦
          elim (cases_lt (length rest) 16) [
            | inl few ↦
                let empty : length rest ≡ 0 = omega (arith, whole, few) in
                let short : length (done ++ rest) < 16 = omega (arith, length-append done rest, none empty, empty) in
                let left : (length (done ++ rest) % 16 == 0 && nat_le 16 (length (done ++ rest))) ≡ false = and_right (length (done ++ rest) % 16 == 0) (nat_le 16 (length (done ++ rest))) (lt-leb 16 (length (done ++ rest)) short) in
                let right : (length rest % 16 == 0 && nat_le 16 (length rest)) ≡ false = and_right (length rest % 16 == 0) (nat_le 16 (length rest)) (lt-leb 16 (length rest) few) in
                ap (λ t. behind (length done) (coded (cond t (ok_or (unpad (made (done ++ rest))) Padding) (Err Length)))) left
                ∙ ap (λ t. coded (cond t (ok_or (unpad (made' rest)) Padding) (Err Length))) (sym right)
            | inr some ↦
                let long : 16 ≤ length (done ++ rest) = omega (arith, length-append done rest, some) in
                let even : length (done ++ rest) % 16 ≡ 0 = omega (arith, length-append done rest, goes.whole, whole) in
                let size : 16 ≤ length (made' rest) = omega (arith, goes.full rest whole, some) in
                ap (λ t. behind (length done) (coded (cond (t && nat_le 16 (length (done ++ rest))) (ok_or (unpad (made (done ++ rest))) Padding) (Err Length)))) (eq-eqb (length (done ++ rest) % 16) 0 even)
                ∙ ap (λ t. behind (length done) (coded (cond t (ok_or (unpad (made (done ++ rest))) Padding) (Err Length)))) (le-leb 16 (length (done ++ rest)) long)
                ∙ ap (λ (l : List ℕ). behind (length done) (coded (ok_or (unpad l) Padding))) (goes.joined rest)
                ∙ ap (λ (o : Option (List ℕ)). behind (length done) (coded (ok_or o Padding))) (unpad-behind given (made' rest) size)
                ∙ behind_opened given (length done) (unpad (made' rest)) goes.size
                ∙ ap (λ t. coded (cond t (ok_or (unpad (made' rest)) Padding) (Err Length))) (sym (le-leb 16 (length rest) some))
                ∙ ap (λ t. coded (cond (t && nat_le 16 (length rest)) (ok_or (unpad (made' rest)) Padding) (Err Length))) (sym (eq-eqb (length rest % 16) 0 whole))
          ]
    ]

-- a text of blocks, from a block on
pub blocks_end : (seal padded : Bool) (made made' : List ℕ → List ℕ) (done given rest : List ℕ) → GoesOn made made' done given →
    length done ≤ blocks_out seal padded (length done + length rest) →
    behind (length done) (coded (whole_blocks seal padded made (done ++ rest))) ≡ coded (whole_blocks seal padded made' rest)
blocks_end true true made made' done given rest goes may =
    ap (λ (l : List ℕ). behind (length done) (Ok (made l))) (pad_behind done rest goes.whole)
    ∙ ap (λ (l : List ℕ). behind (length done) (Ok l)) (goes.joined (pad rest))
    ∙ behind_joined given (made' (pad rest)) (length done) goes.size
blocks_end false true made made' done given rest goes may = open_end made made' done given rest goes (λ empty. none empty) where
  none : length rest ≡ 0 → length done ≡ 0
  none empty =
      let even : (length done + length rest) % 16 ≡ 0 = omega (arith, empty, goes.whole) in
      let test : ((length done + length rest) % 16 == 0) ≡ true = eq-eqb ((length done + length rest) % 16) 0 even in
      let out : blocks_out false true (length done + length rest) ≡ length done + length rest - 16 = ap (λ t. cond t (length done + length rest - 16) (16 * ((length done + length rest) / 16))) test in
      omega (arith, out, may, empty)
blocks_end true false made made' done given rest goes may = plain_end made made' done given rest goes
blocks_end false false made made' done given rest goes may = plain_end made made' done given rest goes
