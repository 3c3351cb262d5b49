-- A still disk that is read in short reads.
use Rattle.std.proofs.Common.{◌≡◌, inl, inr, ℕ, zero, suc, ◌+◌, ◌-◌, ◌<◌, ◌≤◌, List, [], ◌∷◌, ◌++◌, length, take, drop, get_or, slice_get, Option, Some, None, false, refl, sym, ap, ◌∙◌, subst, arith, length-append, length-drop}
use Rattle.std.specs.Prelude.{min}
use Rattle.std.proofs.lemmas.Bool.{cases_lt}
use Rattle.std.proofs.lemmas.List.{drop-drop, length-take-le, take-append-le}
use Rattle.std.proofs.lemmas.Slice.{take-put_mid_below}
use Rattle.std.proofs.Math.Seq.{drop-append_seam}
use borrow.Rule.Slice.PartMut.{put_mid}
use Rattle.ks_outside.specs.declared.disk.Disk.{Ghosts}
use Rattle.ks_outside.specs.Ranges.{Gives, GivesAt}
use Rattle.ks_outside.specs.Images.{AllImages, Reads}
use Rattle.disk_calls.specs.Still.{IsStill, Fills}
use Rattle.ks_outside.proofs.Goings.{reads_none, reads_on}
use Rattle.disk_calls.proofs.PlaceLemmas.{take_join}

-- the first bytes of a buffer are those of an image from a place on
pub record IsFront (at done : ℕ) (out image : List ℕ) : Type 0 where
  pub bytes : take done out ≡ take done (drop at image)
  pub there : done ≤ length image - at

pub record IsFilling {D : Type 0} (g : Ghosts D) (old now : D) (at done : ℕ) (out : List ℕ) : Type 0 where
  pub within : done ≤ length out
  pub still : IsStill g now
  pub front : AllImages g now (IsFront at done out)
  pub reads : Reads g old now false

pub told : (content : Option (List ℕ)) (at n asked : ℕ) (out file : List ℕ) → Gives content at n asked out → content ≡ Some file → GivesAt at n asked out file
told None at n asked out file gives e = absurd (cc)
told (Some f) at n asked out file gives e = let same : f ≡ file = cc in subst (GivesAt at n asked out) same gives

-- the buffer is full
full : (at done : ℕ) (out image : List ℕ) → IsFront at done out image → done ≡ length out → Fills at done out image
full at done out image is all = record { bytes = is.bytes; count = omega (arith, all, is.there) }

-- a read gave nothing where there was room
ended : (at place done asked : ℕ) (given out image : List ℕ) → IsFront at done out image → done ≤ length out → place ≡ at + done → 0 < asked
    → GivesAt place 0 asked given image → Fills at done out image
ended at place done asked given out image is within there some none = record { bytes = is.bytes; count = count }
  where
    nothing : place < length image → ⊥
    nothing before = let more : 0 < 0 = none.some some before in absurd (omega (arith, more))

    count : done ≡ min (length out) (length image - at)
    count = elim (cases_lt place (length image)) [
      | inl before ↦ absurd (nothing before)
      | inr behind ↦ omega (arith, is.there, within, there, behind)
    ]

-- what a read left in the buffer behind the first bytes
put_there : (done k n : ℕ) (out given : List ℕ) → done ≤ length out → n ≤ length given → take n (drop done (put_mid done k out given)) ≡ take n given
put_there done k n out given within some =
    let size : length (take done out) ≡ done = length-take-le done out within in
    let later = given ++ drop k (drop done out) in
    ap (λ (l : List ℕ). take n l) (ap (λ (m : ℕ). drop m (take done out ++ later)) (sym size) ∙ drop-append_seam (take done out) later)
    ∙ take-append-le n given (drop k (drop done out)) some

put_length : (done k : ℕ) (out given : List ℕ) → done + k ≡ length out → length given ≡ k → length (put_mid done k out given) ≡ length out
put_length done k out given all size =
    length-append (take done out) (given ++ drop k (drop done out))
    ∙ omega (arith, length-append given (drop k (drop done out)), length-take-le done out (omega (arith, all)), length-drop k (drop done out), length-drop done out, size, all)

-- n bytes more
more_front : (at place done n asked : ℕ) (given old new image : List ℕ) → IsFront at done old image → place ≡ at + done
    → take done new ≡ take done old → take n (drop done new) ≡ take n given → GivesAt place n asked given image → IsFront at (done + n) new image
more_front at place done n asked given old new image is moved kept put gives = record {
  bytes =
      let same : drop place image ≡ drop done (drop at image) = ap (λ (k : ℕ). drop k image) moved ∙ sym (drop-drop done at image) in
      sym (take_join done n new) ∙ (λ i. (kept ∙ is.bytes) i ++ (put ∙ gives.bytes ∙ ap (λ (l : List ℕ). take n l) same) i) ∙ take_join done n (drop at image);
  there = omega (arith, is.there, gives.within, moved);
}

none_past : (image : List ℕ) (at : ℕ) → length image ≤ at → slice_get image at ≡ None
none_past [] at past = refl
none_past (x ∷ image) zero past = absurd (omega arith)
none_past (x ∷ image) (suc at) past = none_past image at (omega arith)

first_left : (image : List ℕ) (at : ℕ) → slice_get (drop at image) 0 ≡ slice_get image at
first_left image zero = refl
first_left [] (suc at) = refl
first_left (x ∷ image) (suc at) = first_left image at

first_taken : (n : ℕ) (xs : List ℕ) → 0 < n → slice_get (take n xs) 0 ≡ slice_get xs 0
first_taken zero xs some = absurd (omega arith)
first_taken (suc n) [] some = refl
first_taken (suc n) (x ∷ xs) some = refl

first_of_one : (out : List ℕ) (d : ℕ) → length out ≡ 1 → slice_get out 0 ≡ Some (get_or out 0 d)
first_of_one [] d one = absurd (omega arith)
first_of_one (x ∷ out) d one = refl

-- a read of one byte that gave none, and one that gave it
pub no_byte : (at n : ℕ) (out image : List ℕ) → Fills at n out image → n ≡ 0 → length out ≡ 1 → slice_get image at ≡ None
no_byte at n out image is none one = none_past image at (omega (arith, is.count, none, one))

pub one_byte : (at n d : ℕ) (out image : List ℕ) → Fills at n out image → 0 < n → length out ≡ 1 → slice_get image at ≡ Some (get_or out 0 d)
one_byte at n d out image is some one =
    sym (first_left image at) ∙ sym (first_taken n (drop at image) some) ∙ ap (λ (l : List ℕ). slice_get l 0) (sym is.bytes) ∙ first_taken n out some ∙ first_of_one out d one

module _ {D : Type 0} (g : Ghosts D) where
  pub filling_none : (disk : D) (at : ℕ) (out : List ℕ) → IsStill g disk → IsFilling g disk disk at 0 out
  filling_none disk at out still = record {
    within = omega arith;
    still = still;
    front = λ c left. record { bytes = refl; there = omega arith };
    reads = reads_none g disk;
  }

  -- one read more, which put n bytes behind those that are there
  pub filling_on : (old mid new : D) (at place done n asked : ℕ) (given out : List ℕ) → IsFilling g old mid at done out → g.content new ≡ g.content mid
      → Reads g mid new false → n ≤ length given → Gives (g.content mid) place n asked given → place ≡ at + done → length given ≡ length out - done
      → IsFilling g old new at (done + n) (put_mid done (length out - done) out given)
  filling_on old mid new at place done n asked given out is same reads some gives moved size =
      let k = length out - done in
      let later = put_mid done k out given in
      let long = put_length done k out given (omega (arith, is.within)) size in
      record {
        within = omega (arith, long, is.within, some, size);
        still = λ c left. same ∙ is.still c (reads.images c left);
        front = λ c left. let was = reads.images c left in
            more_front at place done n asked given out later c (is.front c was) moved (take-put_mid_below done k out given done (omega arith) is.within)
            (put_there done k n out given is.within some) (told (g.content mid) place n asked given c gives (is.still c was));
        reads = reads_on g old mid new false is.reads reads;
      }

  -- the buffer is full
  pub filling_full : (old now : D) (at done : ℕ) (out : List ℕ) → IsFilling g old now at done out → length out ≤ done → AllImages g now (Fills at done out)
  filling_full old now at done out is all c left = full at done out c (is.front c left) (omega (arith, all, is.within))

  -- a read gave nothing where there was room, whatever it left in the buffer behind what was there
  pub filling_ended : (old mid new : D) (at place done n asked : ℕ) (given out later : List ℕ) → IsFilling g old mid at done out → AllImages g new (g.images mid)
      → place ≡ at + done → n ≡ 0 → 0 < asked → length later ≡ length out → take done later ≡ take done out → Gives (g.content mid) place n asked given
      → AllImages g new (Fills at done later)
  filling_ended old mid new at place done n asked given out later is fewer moved none some size kept gives c left =
      let was = fewer c left in
      let front = is.front c was in
      let there = subst (λ (k : ℕ). GivesAt place k asked given c) none (told (g.content mid) place n asked given c gives (is.still c was)) in
      ended at place done asked given later c (record { bytes = kept ∙ front.bytes; there = front.there }) (omega (arith, is.within, size)) moved some there
