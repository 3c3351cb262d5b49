-- A frame whose input lies apart is read as if it lay in one piece.
use Rattle.std.proofs.Common.{◌≡◌, ◌⊎◌, ⊎_elim, ℕ, ◌<◌, ◌≤◌, Bool, true, false, cond, ltb, eqb, List, [], ◌∷◌, ◌++◌, length, take, drop, slice_index, Option, Some, None, Err, refl, sym, ap, subst, ◌∙◌, arith, inl, inr}
use Rattle.std.specs.Option.{option_and_then, option_map}
use Rattle.std.proofs.lemmas.Bool.{lt-ltb, le-ltb}
use Rattle.std.proofs.lemmas.List.{length-append, length-drop, drop-append-le, drop-drop, drop_more, nil_from_length}
use Rattle.byteorder.specs.Endian.{big_number}
use Rattle.byteorder.specs.Numbers.{big_from-append}
use Rattle.rule_model.specs.declared.act_kind.ActKind.{ActKind}
use Rattle.rule_model.specs.declared.act_kind.ActKind.TheVariants as kinds
use Rattle.rule_model.specs.Acts.{kind_numbered}
use Rattle.rule_model.specs.declared.event.Act.{Act}
use Rattle.rule_model.specs.declared.event.Act.TheVariants.{EnterAad, EnterUpdate, EnterFinish}
use Rattle.wire_frames.specs.declared.fault.BodyFault.{BodyFault}
use Rattle.wire_frames.specs.declared.fault.BodyFault.TheVariants.{Bad, Memory}
use Rattle.wire_frames.specs.declared.held.giving.HeldRequest.{HeldRequest}
use Rattle.byte_strings.specs.Readers.{byte_at, number_at, bytes_at, counted_at, optional_at, ended}
use Rattle.wire_frames.specs.Reading.{Says, fields_at, act_in}
use Rattle.wire_frames.specs.Apart.{enters, has_input, HasInput, with_input, around, around_of}
use Rattle.wire_frames.proofs.Filling.{behind, behind_is}

-- ---- fields of which the bytes before the input have all

number_more : (n : ℕ) (bytes more : List ℕ) → n ≤ length bytes → number_at n (bytes ++ more) ≡ Some (big_number n bytes, drop n bytes ++ more)
number_more n bytes more le =
    let long : ltb (length (bytes ++ more)) n ≡ false = le-ltb _ _ (omega (arith, length-append bytes more)) in
    rw long (λ i. Some (big_from-append n bytes more le i, drop-append-le n bytes more le i))

-- the input, where it is all there
counted_more : (bytes input : List ℕ) → length bytes ≡ 4 → counted_at 4 (bytes ++ input) ≡ bytes_at (big_number 4 bytes) input
unfolding counted_at
counted_more bytes input long =
    let none : drop 4 bytes ≡ [] = nil_from_length (drop 4 bytes) (omega (arith, length-drop 4 bytes)) in
    ap (option_and_then (λ (n : ℕ × List ℕ). bytes_at n.0 n.1)) (number_more 4 bytes input (omega arith))
    ∙ ap (λ (l : List ℕ). bytes_at (big_number 4 bytes) (l ++ input)) none

-- ---- acts

ended_by : (c : Bool) (a b : Act) (f : Act → Act) → f b ≡ a → cond c (Some a) None ≡ option_map f (cond c (Some b) None)
ended_by true a b f e = ap Some (sym e)
ended_by false a b f e = refl

finished_by : (op : ℕ) (text : List ℕ) (read : Option (Option (List ℕ) × List ℕ))
    → ended (option_and_then (λ (s : Option (List ℕ) × List ℕ). Some (EnterFinish op text s.0, s.1)) read)
    ≡ option_map (with_input text) (ended (option_and_then (λ (s : Option (List ℕ) × List ℕ). Some (EnterFinish op [] s.0, s.1)) read))
finished_by op text None = refl
finished_by op text (Some s) = ended_by (eqb (length s.1) 0) (EnterFinish op text s.0) (EnterFinish op [] s.0) (with_input text) refl

-- the act of a number, and its fields
abbrev fields_in : ℕ → List ℕ → Option Act
fields_in number bytes = ended (fields_at (kind_numbered number) bytes)

-- the number of an act that enters an operation
abbrev Enters : ℕ → Type 0
Enters number = (kind_numbered number ≡ Some kinds.UpdateAad) ⊎ ((kind_numbered number ≡ Some kinds.Update) ⊎ (kind_numbered number ≡ Some kinds.Finish))

three : (number : ℕ) → has_input number ≡ true → Enters number
three number e = by_found (kind_numbered number) refl e where
  by_found : (found : Option ActKind) → kind_numbered number ≡ found → enters found ≡ true
      → (found ≡ Some kinds.UpdateAad) ⊎ ((found ≡ Some kinds.Update) ⊎ (found ≡ Some kinds.Finish))
  by_found (Some kinds.UpdateAad) is e = inl refl
  by_found (Some kinds.Update) is e = inr (inl refl)
  by_found (Some kinds.Finish) is e = inr (inr refl)
  by_found _ is e = cc

-- the twelve bytes behind the act's number, and the input with what stands behind it
module _ (fields input : List ℕ) (long : length fields ≡ 12) where
  op_in : number_at 8 (fields ++ input) ≡ Some (big_number 8 fields, drop 8 fields ++ input)
  op_in = number_more 8 fields input (omega arith)

  text_in : counted_at 4 (drop 8 fields ++ input) ≡ bytes_at (big_number 4 (drop 8 fields)) input
  text_in = counted_more (drop 8 fields) input (omega (arith, length-drop 8 fields))

  short_by : (number : ℕ) → Enters number → length input < big_number 4 (drop 8 fields) → fields_in number (fields ++ input) ≡ None
  short_by number which short =
      let size = big_number 4 (drop 8 fields) in
      let test : ltb (length input) size ≡ true = lt-ltb (length input) size short in
      let text : counted_at 4 (drop 8 fields ++ input) ≡ None = text_in ∙ ap (λ (b : Bool). cond b None (Some (take size input, drop size input))) test in
      ⊎_elim
      (λ (aad : kind_numbered number ≡ Some kinds.UpdateAad). ap (λ (k : Option ActKind). ended (fields_at k (fields ++ input))) aad ∙ rw (op_in, text) refl)
      (λ (later : (kind_numbered number ≡ Some kinds.Update) ⊎ (kind_numbered number ≡ Some kinds.Finish)). ⊎_elim
      (λ (update : kind_numbered number ≡ Some kinds.Update). ap (λ (k : Option ActKind). ended (fields_at k (fields ++ input))) update ∙ rw (op_in, text) refl)
      (λ (finish : kind_numbered number ≡ Some kinds.Finish). ap (λ (k : Option ActKind). ended (fields_at k (fields ++ input))) finish ∙ rw (op_in, text) refl)
      later)
      which

  whole_by : (number : ℕ) → Enters number → big_number 4 (drop 8 fields) ≤ length input
      → fields_in number (fields ++ input) ≡ option_map (with_input (take (big_number 4 (drop 8 fields)) input)) (around number (big_number 8 fields) (drop (big_number 4 (drop 8 fields)) input))
  whole_by number which enough =
      let size = big_number 4 (drop 8 fields) in
      let op = big_number 8 fields in
      let test : ltb (length input) size ≡ false = le-ltb (length input) size enough in
      let text : counted_at 4 (drop 8 fields ++ input) ≡ Some (take size input, drop size input) = text_in ∙ ap (λ (b : Bool). cond b None (Some (take size input, drop size input))) test in
      let Same : Option ActKind → Type 0 = λ k. ended (fields_at k (fields ++ input)) ≡ option_map (with_input (take size input)) (around_of k op (drop size input)) in
      ⊎_elim
      (λ (aad : kind_numbered number ≡ Some kinds.UpdateAad). subst Same (sym aad) (rw (op_in, text) (ended_by (eqb (length (drop size input)) 0) (EnterAad op (take size input)) (EnterAad op []) (with_input (take size input)) refl)))
      (λ (later : (kind_numbered number ≡ Some kinds.Update) ⊎ (kind_numbered number ≡ Some kinds.Finish)). ⊎_elim
      (λ (update : kind_numbered number ≡ Some kinds.Update). subst Same (sym update) (rw (op_in, text) (ended_by (eqb (length (drop size input)) 0) (EnterUpdate op (take size input)) (EnterUpdate op []) (with_input (take size input)) refl)))
      (λ (finish : kind_numbered number ≡ Some kinds.Finish). subst Same (sym finish) (rw (op_in, text) (finished_by op (take size input) (optional_at 4 (drop size input)))))
      later)
      which

-- ---- the frame

module _ (head input : List ℕ) (has : HasInput head) where
  abbrev fields : List ℕ
  fields = drop 5 head

  fields_long : length fields ≡ 12
  fields_long = omega (arith, length-drop 5 head, has.0)

  act_is : act_in (drop 4 (head ++ input)) ≡ fields_in (slice_index head 4) (fields ++ input)
  unfolding act_in
  act_is =
      let here : drop 4 (head ++ input) ≡ slice_index head 4 ∷ (fields ++ input) =
      drop-append-le 4 head input (omega (arith, has.0)) ∙ ap (λ (l : List ℕ). l ++ input) (drop_more head 4 0 (omega (arith, has.0))) in
      ap (λ (l : List ℕ). ended (option_and_then (λ (number : ℕ × List ℕ). fields_at (kind_numbered number.0) number.1) (byte_at l))) here

  size_there : (size : ℕ) → size ≡ big_number 4 (behind 13 head) → size ≡ big_number 4 (drop 8 fields)
  size_there size is = is ∙ ap (big_number 4) (behind_is 13 head ∙ sym (drop-drop 8 5 head))

  op_there : (op : ℕ) → op ≡ big_number 8 (behind 5 head) → op ≡ big_number 8 fields
  op_there op is = is ∙ ap (big_number 8) (behind_is 5 head)

  pub apart_short : (size : ℕ) → size ≡ big_number 4 (behind 13 head) → length input < size → act_in (drop 4 (head ++ input)) ≡ None
  apart_short size is short = act_is ∙ short_by fields input fields_long (slice_index head 4) (three (slice_index head 4) has.1) (let e = size_there size is in omega (arith, e, short))

  pub apart_whole : (op size : ℕ) → op ≡ big_number 8 (behind 5 head) → size ≡ big_number 4 (behind 13 head) → size ≤ length input
      → act_in (drop 4 (head ++ input)) ≡ option_map (with_input (take size input)) (around (slice_index head 4) op (behind size input))
  apart_whole op size op_is is enough =
      let e = size_there size is in
      act_is
      ∙ whole_by fields input fields_long (slice_index head 4) (three (slice_index head 4) has.1) (omega (arith, e, enough))
      ∙ (λ i. option_map (with_input (take (sym e i) input)) (around (slice_index head 4) (sym (op_there op op_is) i) (drop (sym e i) input)))
      ∙ ap (λ (l : List ℕ). option_map (with_input (take size input)) (around (slice_index head 4) op l)) (sym (behind_is size input))

-- ---- what a reader says

pub says_apart : (f : Act → Act) (view : HeldRequest → Act) (fault : BodyFault) (o read : Option Act) → read ≡ option_map f o → Says {X = Act} {Y = Act} (λ x. x) (Err fault) o → Says {X = HeldRequest} {Y = Act} view (Err fault) read
says_apart f view Bad o read is none = is ∙ ap (option_map f) none
says_apart f view Memory o read is said = tt
