-- Pieces of a text, written one after another.
use Rattle.std.proofs.Common.{◌≡◌, ℕ, ◌-◌, false, List, ◌++◌, length, take, drop, sym, ap, ◌∙◌, append_assoc}
use Rattle.std.proofs.lemmas.List.{take_rest, take-append-drop}
use Rattle.ks_outside.specs.Shown.{Put}
use Rattle.ks_outside.specs.declared.sink.Sink.{Ghosts}
use Rattle.ks_outside.proofs.Shown.{put_on}

-- one piece more
pub more_written : {K : Type 0} (g : Ghosts K) (a b c : K) (text part rest : List ℕ) (n : ℕ) → Put g a b part false → text ≡ part ++ rest → Put g b c (take n rest) false
    → (whole : List ℕ) × Put g a c whole false × (text ≡ whole ++ take (length rest - n) (drop n rest))
more_written g a b c text part rest n before is more = (
  part ++ take n rest,
  put_on g a b c part (take n rest) false false before more,
  is ∙ ap (λ l. part ++ l) (sym (take-append-drop n rest)) ∙ sym (append_assoc part (take n rest) (drop n rest)) ∙ ap (λ l. (part ++ take n rest) ++ l) (sym (take_rest rest n)),
)
