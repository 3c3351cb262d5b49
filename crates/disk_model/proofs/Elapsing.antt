-- How time goes on in a disk in memory, and what a read of its pages is.
use Rattle.std.proofs.Common.{◌≡◌, inl, inr, ⊎_elim, ℕ, ◌+◌, ◌<◌, ◌≤◌, List, ◌∷◌, length, take, drop, get_or, reverse, length-take, length-drop, [], ◌++◌, subst, sym, ap, ◌∙◌, arith}
use Rattle.std.proofs.lemmas.Bool.{cases_lt}
use Rattle.std.proofs.lemmas.List.{ext_get_or, get_or-take, get_or-drop, reverse-append}
use Rattle.ks_outside.specs.Moments.{Elapses}
use Rattle.ks_outside.specs.Ranges.{Holds}
use Rattle.disk_model.specs.DiskCalls.{DiskCall, Wrote, Synced}
use Rattle.disk_model.specs.CrashImages.{content_of, IsImage, WasImage}
use Rattle.disk_model.specs.Laws.{held, content_may_stay}

pub elapses_same : (calls : List DiskCall) (n : ℕ) → Elapses n n (WasImage calls) (WasImage calls) (IsImage calls)
elapses_same calls n = record { later = omega arith; nothing_else = λ t c was. inl was; keeps = λ t c was. was }

elapses_more : (call : DiskCall) (earlier : List DiskCall) (n m : ℕ) → n ≤ m → Elapses n m (WasImage earlier) (WasImage (call ∷ earlier)) (IsImage (call ∷ earlier))
elapses_more call earlier n m le = record {
  later = le;
  nothing_else = λ t c was. ⊎_elim (λ now. inr now.1) (λ past. inl past) was;
  keeps = λ t c past. inr past;
}

-- one call more
pub elapses_to : (call : DiskCall) (old new : List DiskCall) → reverse new ≡ call ∷ reverse old → length new ≡ length old + 1
    → Elapses (length old) (length new) (WasImage (reverse old)) (WasImage (reverse new)) (IsImage (reverse new))
elapses_to call old new is size =
    subst (λ (l : List DiskCall). Elapses (length old) (length new) (WasImage (reverse old)) (WasImage l) (IsImage l)) (sym is) (elapses_more call (reverse old) (length old) (length new) (omega (arith, size)))

-- bytes that are those of a list from a place on
pub read_is : (out bytes : List ℕ) (at count : ℕ) (source : ℕ → ℕ) → length out ≡ count → (0 < count → at + count ≤ length bytes)
    → ((place : ℕ) → source place ≡ get_or bytes place 0) → ((i : ℕ) → i < length out → get_or out i 0 ≡ source (at + i)) → out ≡ take count (drop at bytes)
read_is out bytes at count source size within kept is =
    ext_get_or 0 out (take count (drop at bytes)) size_is (λ i below.
    is i below ∙ kept (at + i) ∙ sym (get_or-take count (drop at bytes) i 0 (omega (arith, below, size)) ∙ get_or-drop at bytes i 0))
  where
    size_is : length out ≡ length (take count (drop at bytes))
    size_is = elim (cases_lt 0 count) [
      | inl some ↦ let room = within some in omega (arith, size, room, length-take count (drop at bytes), length-drop at bytes)
      | inr none ↦ omega (arith, size, none, length-take count (drop at bytes))
    ]

-- a sync leaves what a read gives, and a crash before it might have left that
pub synced_image : (old mid new : List DiskCall) → mid ≡ old → reverse new ≡ Synced ∷ reverse mid → (c : List ℕ) → IsImage (reverse new) c → IsImage (reverse old) c
synced_image old mid new same is c now =
    let left : c ≡ content_of (reverse mid) = subst (λ (l : List DiskCall). IsImage l c) is now in
    rw (left, same) (content_may_stay (reverse old))

-- the newest call stands behind the others
pub newest : (old mid new : List DiskCall) (call : DiskCall) → mid ≡ old → new ≡ mid ++ call ∷ [] → reverse new ≡ call ∷ reverse old
newest old mid new call same is = ap reverse is ∙ reverse-append mid (call ∷ []) ∙ ap (λ (l : List DiskCall). call ∷ reverse l) same

pub write_holds : (old mid new : List DiskCall) (at : ℕ) (piece : List ℕ) → mid ≡ old → reverse new ≡ Wrote at piece ∷ reverse mid
    → Holds at piece (content_of (reverse old)) (content_of (reverse new))
write_holds old mid new at piece same is = rw (is, same) (held at piece (content_of (reverse old)))

pub write_elapses : (old mid new : List DiskCall) (at : ℕ) (piece : List ℕ) → mid ≡ old → reverse new ≡ Wrote at piece ∷ reverse mid → length new ≡ length mid + 1
    → Elapses (length old) (length new) (WasImage (reverse old)) (WasImage (reverse new)) (IsImage (reverse new))
write_elapses old mid new at piece same is size = elapses_to (Wrote at piece) old new (is ∙ ap (λ (l : List DiskCall). Wrote at piece ∷ reverse l) same) (size ∙ ap (λ (l : List DiskCall). length l + 1) same)
