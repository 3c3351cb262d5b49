-- Each image keeps within the limits.
use Rattle.std.proofs.Common.{◌≡◌, ◌⊎◌, inl, inr, ℕ, ◌+◌, ◌-◌, ◌<◌, ◌≤◌, List, [], ◌∷◌, length, take, get_or, refl, sym, ap, ◌∙◌, length-take, arith}
use Rattle.std.proofs.lemmas.Bool.{cases_lt}
use Rattle.std.proofs.lemmas.List.{get_or-take, get_or-drop}
use Rattle.ks_outside.specs.Ranges.{Torn}
use Rattle.disk_model.specs.DiskCalls.{DiskCall, Wrote, Synced}
use Rattle.disk_model.specs.CrashImages.{IsImage}
use Rattle.disk_model.specs.Limits.{IsWithin}

-- a torn write leaves each byte outside its range
torn_outside : (at n : ℕ) (old new : List ℕ) → Torn at n old new → (place : ℕ) → place < length old → (place < at) ⊎ (at + n ≤ place) → get_or new place 0 ≡ get_or old place 0
torn_outside at n old new torn place within (inl below) =
    let front : place < length (take at old) = omega (arith, length-take at old, within, below) in
    sym (get_or-take (length (take at old)) new place 0 front) ∙ ap (λ (l : List ℕ). get_or l place 0) torn.front ∙ get_or-take at old place 0 below
torn_outside at n old new torn place within (inr past) =
    let there : at + n + (place - (at + n)) ≡ place = omega (arith, past) in
    ap (λ (k : ℕ). get_or new k 0) (sym there) ∙ sym (get_or-drop (at + n) new (place - (at + n)) 0)
    ∙ ap (λ (l : List ℕ). get_or l (place - (at + n)) 0) torn.after ∙ get_or-drop (at + n) old (place - (at + n)) 0 ∙ ap (λ (k : ℕ). get_or old k 0) there

pub images_within : (calls : List DiskCall) (c : List ℕ) → IsImage calls c → IsWithin calls c
images_within [] c image = rw image record { no_shorter = omega arith; no_longer = omega arith; stays = λ place within free. refl }
images_within (Wrote at piece ∷ earlier) c image =
    let b = image.0 in
    let was = images_within earlier b image.1 in
    let torn = image.2 in
    record {
      no_shorter = omega (arith, was.no_shorter, torn.no_shorter);
      no_longer = omega (arith, was.no_longer, was.no_shorter, torn.no_longer);
      stays = λ place within free.
          let there : (place < at) ⊎ (at + length piece ≤ place) = elim (cases_lt place at) [
            | inl below ↦ inl below
            | inr from ↦ elim (cases_lt place (at + length piece)) [ inl inside ↦ absurd (free (inl (from, inside))) | inr past ↦ inr past ]
          ] in
          torn_outside at (length piece) b c torn place (omega (arith, within, was.no_shorter)) there
          ∙ was.stays place within (λ pending. free (inr pending));
    }
images_within (Synced ∷ earlier) c image = rw image record { no_shorter = omega arith; no_longer = omega arith; stays = λ place within free. refl }
