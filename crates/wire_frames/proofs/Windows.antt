-- Pieces of a text that go by a window, one behind the other.
use Rattle.std.proofs.Common.{◌≡◌, ℕ, zero, suc, ◌+◌, ◌-◌, ◌<◌, ◌≤◌, List, [], ◌∷◌, ◌++◌, length, length-take, length-drop, take, drop, min, refl, sym, ap, ◌∙◌, arith, append_assoc}
use Rattle.std.proofs.Math.Seq.{take-nil, drop-nil}
use Rattle.std.proofs.lemmas.List.{append-nil, drop-drop, drop_all, drop_min, length-append, take-append-drop}
use Rattle.wire_frames.specs.Windows.{Window, shown, window_after}

take_both : (n : ℕ) (a b : List ℕ) → take n (a ++ b) ≡ take n a ++ take (n - length (take n a)) b
take_both zero a b = refl
take_both (suc n) [] b = let same : suc n ≡ suc n - length {A = ℕ} [] = omega arith in ap (λ (k : ℕ). take k b) same
take_both (suc n) (x ∷ a) b =
    let same : n - length (take n a) ≡ suc n - suc (length (take n a)) = omega arith in
    ap (λ (l : List ℕ). x ∷ l) (take_both n a b ∙ ap (λ (k : ℕ). take n a ++ take k b) same)

shown_both : (room skip : ℕ) (a b : List ℕ) → take room (drop skip (a ++ b)) ≡ take room (drop skip a) ++ take (room - length (take room (drop skip a))) (drop (skip - length a) b)
shown_both room zero a b =
    let none : zero ≡ zero - length a = omega arith in
    take_both room a b ∙ ap (λ (n : ℕ). take room a ++ take (room - length (take room a)) (drop n b)) none
shown_both room (suc skip) [] b =
    let none : take room (drop (suc skip) []) ≡ [] = take-nil room in
    let left : room ≡ room - length {A = ℕ} [] = omega arith in
    let gone : suc skip ≡ suc skip - length {A = ℕ} [] = omega arith in
    (λ i. take (left i) (drop (gone i) b)) ∙ ap (λ (l : List ℕ). l ++ take (room - length l) (drop (suc skip - length {A = ℕ} []) b)) (sym none)
shown_both room (suc skip) (x ∷ a) b =
    let gone : skip - length a ≡ suc skip - suc (length a) = omega arith in
    shown_both room skip a b ∙ ap (λ (n : ℕ). take room (drop skip a) ++ take (room - length (take room (drop skip a))) (drop n b)) gone

pub after_none : (w : Window) → window_after w [] ≡ w
unfolding window_after
after_none w =
    let none : shown w [] ≡ [] = ap (take w.room) (drop-nil w.skip) ∙ take-nil w.room in
    let skip : w.skip - length {A = ℕ} [] ≡ w.skip = omega arith in
    let room : w.room - length (shown w []) ≡ w.room = ap (λ (l : List ℕ). w.room - length l) none ∙ omega arith in
    let bytes : w.bytes ++ shown w [] ≡ w.bytes = ap (λ (l : List ℕ). w.bytes ++ l) none ∙ append-nil w.bytes in
    λ i. record { skip = skip i; room = room i; bytes = bytes i }

pub after_both : (w : Window) (a b : List ℕ) → window_after (window_after w a) b ≡ window_after w (a ++ b)
unfolding window_after
after_both w a b =
    let own : List ℕ = shown w a in
    let next : List ℕ = take (w.room - length own) (drop (w.skip - length a) b) in
    let both : shown w (a ++ b) ≡ own ++ next = shown_both w.room w.skip a b in
    let skip : w.skip - length a - length b ≡ w.skip - length (a ++ b) = omega (arith, length-append a b) in
    let size : length (shown w (a ++ b)) ≡ length (own ++ next) = ap (λ (l : List ℕ). length l) both in
    let room : w.room - length own - length next ≡ w.room - length (shown w (a ++ b)) = omega (arith, size, length-append own next) in
    let bytes : (w.bytes ++ own) ++ next ≡ w.bytes ++ shown w (a ++ b) = append_assoc w.bytes own next ∙ ap (λ (l : List ℕ). w.bytes ++ l) (sym both) in
    λ i. record { skip = skip i; room = room i; bytes = bytes i }

-- one piece and then another one
pub then : (u v w : Window) (a b : List ℕ) → v ≡ window_after u a → w ≡ window_after v b → w ≡ window_after u (a ++ b)
then u v w a b first more = more ∙ ap (λ (x : Window). window_after x b) first ∙ after_both u a b

-- as many bytes go by as still have to, and the rest is shown as far as there is room
pub put_is : (old new : Window) (piece rest : List ℕ) (n : ℕ) → n ≡ min old.skip (length piece) → rest ≡ drop n piece → new.skip ≡ old.skip - n
    → new.room ≡ old.room - length (take old.room rest) → new.bytes ≡ old.bytes ++ take old.room rest → new ≡ window_after old piece
unfolding window_after
put_is old new piece rest n least rest_is skip room bytes =
    let same : rest ≡ drop old.skip piece = rest_is ∙ ap (λ (m : ℕ). drop m piece) least ∙ drop_min old.skip piece in
    let gone : new.skip ≡ old.skip - length piece = skip ∙ ap (λ (m : ℕ). old.skip - m) least ∙ minus_min old.skip (length piece) in
    let left : new.room ≡ old.room - length (shown old piece) = room ∙ ap (λ (l : List ℕ). old.room - length (take old.room l)) same in
    let seen : new.bytes ≡ old.bytes ++ shown old piece = bytes ∙ ap (λ (l : List ℕ). old.bytes ++ take old.room l) same in
    λ i. record { skip = gone i; room = left i; bytes = seen i }
  where
    minus_min : (a b : ℕ) → a - min a b ≡ a - b
    minus_min a b = omega arith

-- a text that has gone by from its beginning
pub shows_is : (w v : Window) (text : List ℕ) (place most : ℕ) → v ≡ window_after w text → w.skip ≡ place → w.room ≡ most → w.bytes ≡ [] → v.bytes ≡ take most (drop place text)
unfolding window_after
shows_is w v text place most after skip room none =
    let seen : v.bytes ≡ w.bytes ++ shown w text = ap (λ (x : Window). x.bytes) after in
    let first : w.bytes ++ shown w text ≡ shown w text = ap (λ (l : List ℕ). l ++ shown w text) none in
    let at : shown w text ≡ take most (drop place text) = λ i. take (room i) (drop (skip i) text) in
    seen ∙ first ∙ at

-- ---- what is shown of a text from a place on

front_is : (n : ℕ) (xs : List ℕ) → xs ≡ take n xs ++ drop (length (take n xs)) xs
front_is n xs =
    let same : drop (length (take n xs)) xs ≡ drop n xs = ap (λ (k : ℕ). drop k xs) (length-take n xs) ∙ drop_min n xs in
    sym (take-append-drop n xs) ∙ ap (λ (l : List ℕ). take n xs ++ l) (sym same)

module _ (text piece : List ℕ) (place most : ℕ) (shows : piece ≡ take most (drop place text)) where
  pub behind_shown : drop place text ≡ piece ++ drop (place + length piece) text
  behind_shown =
      let is : drop place text ≡ take most (drop place text) ++ drop (length (take most (drop place text))) (drop place text) = front_is most (drop place text) in
      is ∙ ap (λ (l : List ℕ). l ++ drop (length l) (drop place text)) (sym shows) ∙ ap (λ (l : List ℕ). piece ++ l) (drop-drop (length piece) place text)

  -- it has some bytes where some are left, and no more than these
  pub shown_some : place < length text → 0 < most → 0 < length piece
  shown_some within some = omega (arith, within, some, ap (λ (l : List ℕ). length l) shows, length-take most (drop place text), length-drop place text)

  pub shown_within : place ≤ length text → place + length piece ≤ length text
  shown_within within = omega (arith, within, ap (λ (l : List ℕ). length l) shows, length-take most (drop place text), length-drop place text)

-- a front of a text, and what is shown behind it, are a front of it
pub front_on : (text front piece : List ℕ) (place most : ℕ) → text ≡ front ++ drop place text → piece ≡ take most (drop place text)
    → text ≡ (front ++ piece) ++ drop (place + length piece) text
front_on text front piece place most whole shows =
    whole ∙ ap (λ (l : List ℕ). front ++ l) (behind_shown text piece place most shows) ∙ sym (append_assoc front piece (drop (place + length piece) text))

pub front_all : (text front : List ℕ) (place : ℕ) → text ≡ front ++ drop place text → length text ≤ place → front ≡ text
front_all text front place whole over = sym (whole ∙ ap (λ (l : List ℕ). front ++ l) (drop_all place text over) ∙ append-nil front)
