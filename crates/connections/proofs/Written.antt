-- Pieces of a text, written into a link one after another.
use Rattle.std.proofs.Common.{◌≡◌, ℕ, ◌+◌, ◌-◌, ◌<◌, ◌≤◌, true, false, List, [], ◌++◌, length, take, drop, refl, sym, ap, subst, ◌∙◌, arith, append_assoc}
use Rattle.std.proofs.lemmas.List.{length-append, take_rest, take-append-drop}
use Rattle.ks_outside.specs.Carried.{Carried}
use Rattle.ks_outside.specs.declared.link.Link.{Ghosts as LinkGhosts}
use Rattle.ks_outside.proofs.Carried.{carried_none, carried_on}
use Rattle.wire_frames.proofs.Windows.{behind_shown, front_all, front_on}

-- a front of the text is written, and this is left of it
pub record Written {L : Type 0} (g : LinkGhosts L) (old new : L) (text rest : List ℕ) : Type 0 where
  pub part : List ℕ
  pub carried : Carried g old new [] part false
  pub whole : text ≡ part ++ rest

pub more_written : {L : Type 0} (g : LinkGhosts L) (a b c : L) (text rest : List ℕ) (n : ℕ) → Written g a b text rest → Carried g b c [] (take n rest) false
    → Written g a c text (take (length rest - n) (drop n rest))
more_written g a b c text rest n before more =
    let part : List ℕ = before.part in
    let is : text ≡ part ++ rest = before.whole in
    record {
      part = part ++ take n rest;
      carried = carried_on g a b c [] [] part (take n rest) false false before.carried more;
      whole = is ∙ ap (λ (l : List ℕ). part ++ l) (sym (take-append-drop n rest)) ∙ sym (append_assoc part (take n rest) (drop n rest))
          ∙ ap (λ (l : List ℕ). (part ++ take n rest) ++ l) (sym (take_rest rest n));
    }

-- ---- a window on the text

module _ {L : Type 0} (g : LinkGhosts L) (text piece : List ℕ) (place most : ℕ) (shows : piece ≡ take most (drop place text)) where
  pub window_written : (a b c : L) → Written g a b text (drop place text) → Carried g b c [] piece false → Written g a c text (drop (place + length piece) text)
  window_written a b c before more =
      let part : List ℕ = before.part in
      let is : text ≡ part ++ drop place text = before.whole in
      record {
        part = part ++ piece;
        carried = carried_on g a b c [] [] part piece false false before.carried more;
        whole = front_on text part piece place most is shows;
      }

  -- the link failed amid what was shown
  pub window_cut : (a b c : L) (front lost : List ℕ) → Written g a b text (drop place text) → Carried g b c [] front true → piece ≡ front ++ lost → 0 < length lost
      → (part : List ℕ) × (missing : List ℕ) × Carried g a c [] part true × (text ≡ part ++ missing) × (0 < length missing)
  window_cut a b c front lost before more cut some =
      let part : List ℕ = before.part in
      let rest : List ℕ = drop (place + length piece) text in
      let is : text ≡ part ++ drop place text = before.whole in
      let whole : drop place text ≡ front ++ (lost ++ rest) = behind_shown text piece place most shows ∙ ap (λ (l : List ℕ). l ++ rest) cut ∙ append_assoc front lost rest in (
        part ++ front,
        lost ++ rest,
        carried_on g a b c [] [] part front false true before.carried more,
        is ∙ ap (λ (l : List ℕ). part ++ l) whole ∙ sym (append_assoc part front (lost ++ rest)),
        omega (arith, some, length-append lost rest),
      )

-- all of the text is written
pub all_written : {L : Type 0} (g : LinkGhosts L) (a b : L) (text : List ℕ) (place : ℕ) → Written g a b text (drop place text) → length text ≤ place → Carried g a b [] text false
all_written g a b text place written over =
    let part : List ℕ = written.part in
    let is : text ≡ part ++ drop place text = written.whole in
    subst (λ (l : List ℕ). Carried g a b [] l false) (front_all text part place is over) written.carried

-- none of the text is written so far
pub none_written : {L : Type 0} (g : LinkGhosts L) (a : L) (text : List ℕ) → Written g a a text (drop 0 text)
none_written g a text = record { part = []; carried = carried_none g a; whole = refl }
