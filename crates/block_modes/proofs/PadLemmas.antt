-- The padding of a text is that of its last block.
use Rattle.std.proofs.Common.{◌≡◌, ℕ, ◌+◌, ◌-◌, ◌<◌, ◌≤◌, ◌==◌, nat_le, Bool, true, false, cond, ◌&&◌, inl, inr, List, ◌++◌, length, take, drop, replicate, get_or, Some, None, refl, sym, ◌∙◌, ap, arith, append_assoc, length-append}
use Rattle.std.specs.List.{list_all, concat}
use Rattle.std.specs.Option.{option_map}
use Rattle.std.proofs.Math.Seq.{drop-append-add, take-append-add}
use Rattle.std.proofs.lemmas.List.{length-drop, length-replicate, get_or-append-add, take_all}
use Rattle.std.proofs.lemmas.Bool.{cases_lt, lt-leb, le-leb, and_left, and_right}
use Rattle.block_modes.specs.Texts.{AreBlocks}
use Rattle.block_modes.specs.Padding.{padding_size, pad, is_padding, unpad_by, unpad}
use Rattle.block_modes.proofs.PieceLemmas.{length-text}

pub pad_joined : (bs : List (List ℕ)) (rest : List ℕ) → AreBlocks bs → pad (concat bs ++ rest) ≡ concat bs ++ pad rest
pad_joined bs rest h =
    let e : padding_size (length (concat bs ++ rest)) ≡ padding_size (length rest) = omega (arith, length-text bs rest h) in
    ap (λ n. (concat bs ++ rest) ++ replicate n n) e ∙ append_assoc (concat bs) rest (replicate (padding_size (length rest)) (padding_size (length rest)))

pub length-pad : (rest : List ℕ) → length rest < 16 → length (pad rest) ≡ 16
length-pad rest short =
    omega (arith, length-append rest (replicate (padding_size (length rest)) (padding_size (length rest))), length-replicate {A = ℕ} (padding_size (length rest)) (padding_size (length rest)))

chosen : (t : Bool) (xs ys : List ℕ) → cond t (Some (xs ++ ys)) None ≡ option_map (λ zs. xs ++ zs) (cond t (Some ys) None)
chosen true xs ys = refl
chosen false xs ys = refl

too_large : (n : ℕ) (text : List ℕ) → 16 < n → is_padding n text ≡ false
too_large n text large =
    let no : nat_le n 16 ≡ false = lt-leb n 16 large in
    and_left (nat_le 1 n && nat_le n 16 && nat_le n (length text)) (list_all (λ byte. byte == n) (drop (length text - n) text))
    (and_left (nat_le 1 n && nat_le n 16) (nat_le n (length text)) (and_right (nat_le 1 n) (nat_le n 16) no))

unpad_by-append : (n : ℕ) (xs block : List ℕ) → length block ≡ 16 → unpad_by n (xs ++ block) ≡ option_map (λ t. xs ++ t) (unpad_by n block)
unpad_by-append n xs block whole =
    elim (cases_lt 16 n) [
      | inl large ↦
          ap (λ t. cond t (Some (take (length (xs ++ block) - n) (xs ++ block))) None) (too_large n (xs ++ block) large)
          ∙ ap (λ t. option_map (λ u. xs ++ u) (cond t (Some (take (length block - n) block)) None)) (sym (too_large n block large))
      | inr small ↦
          let e : length (xs ++ block) - n ≡ length xs + (length block - n) = omega (arith, length-append xs block) in
          let within : n ≤ length block = omega arith in
          let far : n ≤ length (xs ++ block) = omega (arith, length-append xs block) in
          let test : is_padding n (xs ++ block) ≡ is_padding n block =
          ap (λ t. (nat_le 1 n && nat_le n 16 && t) && list_all (λ byte. byte == n) (drop (length (xs ++ block) - n) (xs ++ block))) (le-leb n (length (xs ++ block)) far ∙ sym (le-leb n (length block) within))
          ∙ ap (λ k. (nat_le 1 n && nat_le n 16 && nat_le n (length block)) && list_all (λ byte. byte == n) (drop k (xs ++ block))) e
          ∙ ap (λ t. (nat_le 1 n && nat_le n 16 && nat_le n (length block)) && list_all (λ byte. byte == n) t) (drop-append-add xs block (length block - n)) in
          ap (λ t. cond t (Some (take (length (xs ++ block) - n) (xs ++ block))) None) test
          ∙ ap (λ k. cond (is_padding n block) (Some (take k (xs ++ block))) None) e
          ∙ ap (λ t. cond (is_padding n block) (Some t) None) (take-append-add xs block (length block - n))
          ∙ chosen (is_padding n block) xs (take (length block - n) block)
    ]

pub unpad-append : (xs block : List ℕ) → length block ≡ 16 → unpad (xs ++ block) ≡ option_map (λ t. xs ++ t) (unpad block)
unpad-append xs block whole =
    let e : length (xs ++ block) - 1 ≡ length xs + (length block - 1) = omega (arith, length-append xs block) in
    ap (λ k. unpad_by (get_or (xs ++ block) k 0) (xs ++ block)) e
    ∙ ap (λ k. unpad_by k (xs ++ block)) (get_or-append-add xs block (length block - 1) 0)
    ∙ unpad_by-append (get_or block (length block - 1) 0) xs block whole

-- a last block without the padding that its last byte tells, where the bytes from there on tell whether it is one
pub unpad_last : (block : List ℕ) (n : ℕ) (right : Bool) → length block ≡ 16 → n ≡ get_or block 15 0 → 1 ≤ n → n ≤ 16
    → right ≡ list_all (λ byte. byte == n) (take (16 - (16 - n)) (drop (16 - n) block)) → unpad block ≡ cond right (Some (take (16 - n) block)) None
unpad_last block n right whole is some few all =
    let rest : take (16 - (16 - n)) (drop (16 - n) block) ≡ drop (16 - n) block = take_all (16 - (16 - n)) (drop (16 - n) block) (omega (arith, whole, length-drop (16 - n) block)) in
    rw (whole, ← is, le-leb 1 n some, le-leb n 16 few, all, rest) refl
