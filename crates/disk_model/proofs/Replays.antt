-- How a replay of calls goes on, and that what is chosen is an image.
use Rattle.std.proofs.Common.{◌≡◌, inl, inr, ℕ, suc, ◌+◌, ◌<◌, ◌≤◌, List, [], ◌∷◌, length, take, get_or, reverse, replicate, refl, sym, ap, subst, ◌∙◌, arith}
use Rattle.std.proofs.lemmas.Bool.{cases_lt}
use Rattle.std.proofs.lemmas.List.{take_more, reverse-append, length-reverse, length-replicate}
use Rattle.std.proofs.Common.{zero, length-take}
use Rattle.ks_outside.specs.Ranges.{Torn}
use Rattle.disk_model.specs.DiskCalls.{DiskCall, Wrote, Synced}
use Rattle.disk_model.specs.declared.image.Choice.{Choice}
use Rattle.disk_model.specs.declared.image.Choice.TheVariants.{New, Old, Filled}
use Rattle.disk_model.specs.CrashImages.{overwritten, content_of, IsImage}
use Rattle.disk_model.specs.Laws.{held, torn_as_held}
use Rattle.disk_model.specs.Chosen.{chosen, laid, image_of, IsSettled, IsWrite, IsReplayed}

-- the calls up to the next one, the newest first
pub next_call : (calls : List DiskCall) (i : ℕ) → i < length calls → reverse (take (i + 1) calls) ≡ get_or calls i Synced ∷ reverse (take i calls)
next_call calls i within = ap reverse (take_more calls i Synced within) ∙ reverse-append (take i calls) (get_or calls i Synced ∷ [])

laid_new : (call : DiskCall) (earlier : List DiskCall) → laid New call (content_of earlier) ≡ content_of (call ∷ earlier)
laid_new (Wrote at piece) earlier = refl
laid_new Synced earlier = refl

laid_chosen : (choices : List Choice) (call : DiskCall) (earlier : List DiskCall) (i : ℕ) → IsWrite call → length earlier ≡ i
    → laid (get_or choices i New) call (image_of choices earlier) ≡ image_of choices (call ∷ earlier)
laid_chosen choices (Wrote at piece) earlier i write size = ap (λ (k : ℕ). chosen (get_or choices k New) at piece (image_of choices earlier)) (sym size)
laid_chosen choices Synced earlier i write size = absurd write

settled_image : (choices : List Choice) (calls : List DiskCall) → IsSettled calls → content_of calls ≡ image_of choices calls
settled_image choices [] settled = refl
settled_image choices (Wrote at piece ∷ earlier) settled = absurd settled
settled_image choices (Synced ∷ earlier) settled = refl

pub replay_none : (choices : List Choice) (calls : List DiskCall) (start : ℕ) → IsReplayed choices calls start 0 []
replay_none choices calls start = record { written = λ le. refl; as_chosen = λ le. refl }

pub replay_more : (choices : List Choice) (calls : List DiskCall) (start stop i : ℕ) (choice : Choice) (bytes later : List ℕ)
    → IsSettled (reverse (take start calls)) → ((k : ℕ) → start ≤ k → k < stop → IsWrite (get_or calls k Synced)) → i < stop → stop ≤ length calls
    → (i < start → choice ≡ New) → (start ≤ i → choice ≡ get_or choices i New)
    → IsReplayed choices calls start i bytes → later ≡ laid choice (get_or calls i Synced) bytes → IsReplayed choices calls start (i + 1) later
replay_more choices calls start stop i choice bytes later settled pending below fits before after r is = let within : i < length calls = omega (arith, below, fits) in elim (cases_lt i start) [
  | inl sooner ↦
      let new = before sooner in
      let was = r.written (omega (arith, sooner)) in
      let now : later ≡ content_of (reverse (take (i + 1) calls)) = rw (is, new, was, next_call calls i within) (laid_new (get_or calls i Synced) (reverse (take i calls))) in
      record {
        written = λ le. now;
        as_chosen = λ le.
            let here : start ≡ i + 1 = omega (arith, le, sooner) in
            now ∙ settled_image choices (reverse (take (i + 1) calls)) (subst (λ (k : ℕ). IsSettled (reverse (take k calls))) here settled);
      }
  | inr from ↦
      let picked = after from in
      let was = r.as_chosen from in
      let size : length (reverse (take i calls)) ≡ i = omega (arith, length-reverse (take i calls), length-take i calls, within) in
      record {
        written = λ le. absurd (omega (arith, le, from));
        as_chosen = λ le. rw (is, picked, was, next_call calls i within) (laid_chosen choices (get_or calls i Synced) (reverse (take i calls)) i (pending i from below) size);
      }
]

torn_same : (at n : ℕ) (bytes : List ℕ) → Torn at n bytes bytes
torn_same at n bytes = record { front = take_front at bytes; after = refl; no_shorter = omega arith; no_longer = omega arith }
  where
    take_front : (at : ℕ) (bytes : List ℕ) → take (length (take at bytes)) bytes ≡ take at bytes
    take_front zero bytes = refl
    take_front (suc at) [] = refl
    take_front (suc at) (x ∷ bytes) = ap (λ (l : List ℕ). x ∷ l) (take_front at bytes)

-- what is chosen is one of the images
pub chosen_image : (choices : List Choice) (calls : List DiskCall) → IsImage calls (image_of choices calls)
chosen_image choices [] = refl
chosen_image choices (Wrote at piece ∷ earlier) = (image_of choices earlier, chosen_image choices earlier, torn_by (get_or choices (length earlier) New) at piece (image_of choices earlier))
  where
    torn_by : (choice : Choice) (at : ℕ) (piece old : List ℕ) → Torn at (length piece) old (chosen choice at piece old)
    torn_by New at piece old = torn_as_held at piece old (overwritten at piece old) (held at piece old)
    torn_by Old at piece old = torn_same at (length piece) old
    torn_by (Filled byte) at piece old =
        subst (λ (n : ℕ). Torn at n old (overwritten at (replicate (length piece) byte) old)) (length-replicate (length piece) byte)
        (torn_as_held at (replicate (length piece) byte) old (overwritten at (replicate (length piece) byte) old) (held at (replicate (length piece) byte) old))
chosen_image choices (Synced ∷ earlier) = refl

pub settled_is : (calls : List DiskCall) → IsSettled calls → (c : List ℕ) → IsImage calls c → c ≡ content_of calls
settled_is [] settled c image = image
settled_is (Wrote at piece ∷ earlier) settled c image = absurd settled
settled_is (Synced ∷ earlier) settled c image = image

-- the newest sync so far
pub record IsLast (calls : List DiskCall) (count i : ℕ) : Type 0 where
  pub within : count ≤ i
  pub last : IsSettled (reverse (take count calls))
  pub pending : (k : ℕ) → count ≤ k → k < i → IsWrite (get_or calls k Synced)

pub last_none : (calls : List DiskCall) → IsLast calls 0 0
last_none calls = record { within = omega arith; last = tt; pending = λ k le below. absurd (omega (arith, below)) }

-- one more call
pub last_sync : (calls : List DiskCall) (count i : ℕ) → i < length calls → get_or calls i Synced ≡ Synced → IsLast calls (i + 1) (i + 1)
last_sync calls count i within is = record {
  within = omega arith;
  last = rw (next_call calls i within, is) tt;
  pending = λ k le below. absurd (omega (arith, le, below));
}

pub last_write : (calls : List DiskCall) (count i at : ℕ) (piece : List ℕ) → get_or calls i Synced ≡ Wrote at piece → IsLast calls count i → IsLast calls count (i + 1)
last_write calls count i at piece is l = record {
  within = omega (arith, l.within);
  last = l.last;
  pending = λ k le below. elim (cases_lt k i) [
    | inl sooner ↦ l.pending k le sooner
    | inr from ↦ (let here : k ≡ i = omega (arith, from, below) in rw (here, is) tt)
  ];
}
