-- The laws of a disk in memory.
use Rattle.std.specs.Prelude.{◌≡◌, ℕ, ◌+◌, ◌-◌, ◌≤◌, List, [], ◌∷◌, ◌++◌, length, take, drop, replicate, reverse, refl, Some}
use Rattle.std.proofs.Common.{inl, inr, sym, ap, ◌∙◌, subst, arith, length-append, length-take, length-drop, append_assoc}
use Rattle.std.proofs.lemmas.List.{take_at, drop_at, length-replicate, length-reverse}
use Rattle.ks_outside.specs.Ranges.{Holds, Torn}
use Rattle.disk_model.specs.DiskCalls.{DiskCall, Wrote, Synced}
use Rattle.disk_model.specs.CrashImages.{overwritten, content_of, IsImage, WasImage}

pub torn_as_held : (at : ℕ) (piece old new : List ℕ) → Holds at piece old new → Torn at (length piece) old new
torn_as_held at piece old new h = record { front = h.front; after = h.after; no_shorter = omega (arith, h.size); no_longer = omega (arith, h.size) }

module _ (at : ℕ) (piece old : List ℕ) where
  pub before : List ℕ
  before = take at old ++ replicate (at - length old) 0

  pub split : overwritten at piece old ≡ before ++ (piece ++ drop (at + length piece) old)
  unfolding before
  split = sym (append_assoc (take at old) (replicate (at - length old) 0) (piece ++ drop (at + length piece) old))

  pub size : length before ≡ at
  unfolding before
  size = omega (arith, length-append (take at old) (replicate (at - length old) 0), length-take at old, length-replicate {A = ℕ} (at - length old) 0)

  pub held : Holds at piece old (overwritten at piece old)
  held = record {
    front = take_at (take at old) (replicate (at - length old) 0 ++ (piece ++ drop (at + length piece) old)) (length (take at old)) refl;
    range = ap (λ (l : List ℕ). take (length piece) (drop at l)) split
        ∙ ap (λ (l : List ℕ). take (length piece) l) (drop_at before (piece ++ drop (at + length piece) old) at size)
        ∙ take_at piece (drop (at + length piece) old) (length piece) refl;
    after = ap (λ (l : List ℕ). drop (at + length piece) l) (split ∙ sym (append_assoc before piece (drop (at + length piece) old)))
        ∙ drop_at (before ++ piece) (drop (at + length piece) old) (at + length piece) (omega (arith, size, length-append before piece));
    size = omega (arith, ap length split, size, length-append before (piece ++ drop (at + length piece) old), length-append piece (drop (at + length piece) old), length-drop (at + length piece) old);
  }

pub content_may_stay : (calls : List DiskCall) → IsImage calls (content_of calls)
content_may_stay [] = refl
content_may_stay (Wrote at piece ∷ earlier) =
    (content_of earlier, content_may_stay earlier, torn_as_held at piece (content_of earlier) (overwritten at piece (content_of earlier)) (held at piece (content_of earlier)))
content_may_stay (Synced ∷ earlier) = refl

pub content_is_image : (calls : List DiskCall) (c : List ℕ) → Some (content_of calls) ≡ Some c → IsImage calls c
content_is_image calls c told = let same : content_of calls ≡ c = cc in subst (IsImage calls) same (content_may_stay calls)

not_later : (calls : List DiskCall) (t : ℕ) (c : List ℕ) → WasImage calls t c → t ≤ length calls
not_later [] t c was = was.0
not_later (call ∷ earlier) t c (inl now) = now.0
not_later (call ∷ earlier) t c (inr was) = omega (arith, not_later earlier t c was)

counts : (calls : List DiskCall) (t : ℕ) (c : List ℕ) → t ≤ length calls → IsImage calls c → WasImage calls t c
counts [] t c le now = (le, now)
counts (call ∷ earlier) t c le now = inl (le, now)

only : (calls : List DiskCall) (t : ℕ) (c : List ℕ) → length calls ≤ t → WasImage calls t c → IsImage calls c
only [] t c le was = was.1
only (call ∷ earlier) t c le (inl now) = now.1
only (call ∷ earlier) t c le (inr was) = absurd (omega (arith, not_later earlier t c was))

pub counts_now : (calls : List DiskCall) (t : ℕ) (c : List ℕ) → t ≤ length calls → IsImage (reverse calls) c → WasImage (reverse calls) t c
counts_now calls t c le now = counts (reverse calls) t c (omega (arith, length-reverse calls)) now

pub only_now : (calls : List DiskCall) (c : List ℕ) → WasImage (reverse calls) (length calls) c → IsImage (reverse calls) c
only_now calls c was = only (reverse calls) (length calls) c (omega (arith, length-reverse calls)) was
