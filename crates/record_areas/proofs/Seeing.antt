-- Bytes of a still disk that are read a piece at a time, up to a limit.
use Rattle.std.proofs.Common.{◌≡◌, inl, inr, ℕ, ◌+◌, ◌-◌, ◌≤◌, false, List, ◌++◌, length, take, drop, refl, sym, ap, subst, ◌∙◌, arith, length-append, length-take, length-drop}
use Rattle.std.specs.Prelude.{min}
use Rattle.std.proofs.lemmas.Bool.{cases_lt}
use Rattle.std.proofs.lemmas.List.{append-nil, drop-drop, take_all, take-take}
use Rattle.ks_outside.specs.declared.disk.Disk.{Ghosts}
use Rattle.ks_outside.specs.Images.{AllImages, Reads}
use Rattle.ks_outside.proofs.Goings.{reads_none, reads_on}
use Rattle.disk_calls.specs.Still.{IsStill}
use Rattle.disk_calls.proofs.PlaceLemmas.{take_join}
use Rattle.record_areas.specs.Frames.{bytes_between}
use Rattle.record_areas.specs.Windows.{HasSeen, IsSeen, IsWindow, ahead_of, held_by, limit_of, place_of}
use Rattle.record_areas.specs.declared.window.Window.{Window}
use Rattle.record_areas.proofs.Unique.{taken_between}

-- how many bytes there are at most
pub between_long : (place limit : ℕ) (image : List ℕ) → length (bytes_between place limit image) ≤ limit - place
between_long place limit image = omega (arith, length-drop place (take limit image), length-take limit image)

between_short : (place limit : ℕ) (image : List ℕ) → length (bytes_between place limit image) ≤ length image - place
between_short place limit image = omega (arith, length-drop place (take limit image), length-take limit image)

-- what stands some bytes further on
pub between_on : (place n limit : ℕ) (image : List ℕ) → drop n (bytes_between place limit image) ≡ bytes_between (place + n) limit image
between_on place n limit image = drop-drop n place (take limit image)

-- a piece more
pub seen_more : (place limit from n most : ℕ) (held later image : List ℕ) → held ≡ take (length held) (bytes_between place limit image) → from ≡ place + length held → from + most ≤ limit
    → later ≡ held ++ take n (drop from image) → n ≡ min most (length image - from) → later ≡ take (length later) (bytes_between place limit image)
seen_more place limit from n most held later image seen at fits is count =
    let ahead = bytes_between place limit image in
    let piece : take n (drop from image) ≡ take n (drop (length held) ahead) =
    sym (taken_between from limit n image (omega (arith, fits, count)))
    ∙ ap (λ (k : ℕ). take n (bytes_between k limit image)) at ∙ ap (take n) (sym (between_on place (length held) limit image)) in
    let size : length later ≡ length held + n =
    omega (arith, ap length is, length-append held (take n (drop from image)), length-take n (drop from image), length-drop from image, count) in
    is ∙ (λ i. seen i ++ piece i) ∙ take_join (length held) n ahead ∙ ap (λ (k : ℕ). take k ahead) (sym size)

-- no byte more
pub seen_all : (place limit from n most : ℕ) (held later image : List ℕ) → held ≡ take (length held) (bytes_between place limit image) → from ≡ place + length held
    → (most ≡ 0 → limit ≤ from) → later ≡ held ++ take n (drop from image) → n ≡ min most (length image - from) → n ≡ 0 → later ≡ bytes_between place limit image
seen_all place limit from n most held later image seen at end is count none =
    let ahead = bytes_between place limit image in
    let few : length ahead ≤ length held = elim (cases_lt 0 most) [
      | inl some ↦ omega (arith, between_short place limit image, at, count, none, some)
      | inr no_room ↦ (let ended : limit ≤ from = end (omega (arith, no_room)) in omega (arith, between_long place limit image, at, ended))
    ] in
    is ∙ ap (λ (k : ℕ). held ++ take k (drop from image)) none ∙ append-nil held ∙ seen ∙ take_all (length held) ahead few

-- how far a reading has come
pub record IsReadingOn {D : Type 0} (g : Ghosts D) (old now : D) (before window : Window) : Type 0 where
  pub front_is : window.done ≡ 0
  pub place : place_of window ≡ place_of before
  pub limit : limit_of window ≡ limit_of before
  pub whole : IsWindow window
  pub kept : take (length (held_by before)) window.bytes.items ≡ held_by before
  pub longer : length (held_by before) ≤ length window.bytes.items
  pub seen : AllImages g old (IsSeen before) → AllImages g now (λ image. window.bytes.items ≡ take (length window.bytes.items) (bytes_between (place_of window) (limit_of window) image))
  pub still : IsStill g now
  pub reads : Reads g old now false

held_whole : (window : Window) → window.done ≡ 0 → held_by window ≡ window.bytes.items
held_whole window front = ap (λ (k : ℕ). drop k window.bytes.items) front

-- what stood first still does, where more was read in turn
pub kept_more : (k : ℕ) (held bytes later : List ℕ) → take k bytes ≡ held → k ≤ length bytes → take (length bytes) later ≡ bytes → take k later ≡ held
kept_more k held bytes later first long next =
    sym (take-take k (length bytes) later long) ∙ ap (take k) next ∙ first

pub kept_long : (held later : List ℕ) → take (length held) later ≡ held → length held ≤ length later
kept_long held later first = omega (arith, ap length first, length-take (length held) later)

module _ {D : Type 0} (g : Ghosts D) where
  pub reading_begins : (disk : D) (window : Window) → window.done ≡ 0 → IsWindow window → IsStill g disk → IsReadingOn g disk disk window window
  reading_begins disk window front whole still =
      let same = held_whole window front in
      record {
        front_is = front;
        place = refl;
        limit = refl;
        whole = whole;
        kept = ap (take (length (held_by window))) (sym same) ∙ take_all (length (held_by window)) (held_by window) (omega arith);
        longer = omega (arith, ap length same);
        seen = λ seen image left. subst (λ (bytes : List ℕ). bytes ≡ take (length bytes) (ahead_of window image)) same (seen image left);
        still = still;
        reads = reads_none g disk;
      }

  -- a piece more
  pub reading_on : (old mid new : D) (before window later : Window) (from most n : ℕ) → IsReadingOn g old mid before window → later.done ≡ window.done
      → place_of later ≡ place_of window → limit_of later ≡ limit_of window → from ≡ place_of window + length window.bytes.items → most ≤ limit_of window - from
      → n ≤ most → length later.bytes.items ≡ length window.bytes.items + n → take (length window.bytes.items) later.bytes.items ≡ window.bytes.items
      → AllImages g new (λ image. (later.bytes.items ≡ window.bytes.items ++ take n (drop from image)) × (n ≡ min most (length image - from)))
      → IsStill g new → Reads g mid new false → IsReadingOn g old new before later
  reading_on old mid new before window later from most n is done place limit at few count size front piece still reads =
      let whole : IsWindow later = record {
        passed = omega (arith, done, is.front_is);
        within = omega (arith, ap length (held_whole later (done ∙ is.front_is)), size, place, limit, count, few, at, is.whole.within, ap length (held_whole window is.front_is));
      } in
      record {
        front_is = done ∙ is.front_is;
        place = place ∙ is.place;
        limit = limit ∙ is.limit;
        whole = whole;
        kept = kept_more (length (held_by before)) (held_by before) window.bytes.items later.bytes.items is.kept is.longer front;
        longer = omega (arith, is.longer, size);
        seen = λ seen image left.
            let was = reads.images image left in
            let one = piece image left in
            let fits : from + most ≤ limit_of window = omega (arith, few, at, is.whole.within, ap length (held_whole window is.front_is)) in
            let more = seen_more (place_of window) (limit_of window) from n most window.bytes.items later.bytes.items image (is.seen seen image was) at fits one.0 one.1 in
            more ∙ (λ i. take (length later.bytes.items) (bytes_between (sym place i) (sym limit i) image));
        still = still;
        reads = reads_on g old mid new false is.reads reads;
      }

  -- what is seen then
  pub reading_seen : (old now : D) (before window : Window) → IsReadingOn g old now before window → AllImages g old (IsSeen before) → AllImages g now (IsSeen window)
  reading_seen old now before window is seen image left =
      subst (λ (bytes : List ℕ). bytes ≡ take (length bytes) (ahead_of window image)) (sym (held_whole window is.front_is)) (is.seen seen image left)

  pub reading_front : (old now : D) (before window : Window) → IsReadingOn g old now before window → take (length (held_by before)) (held_by window) ≡ held_by before
  reading_front old now before window is = ap (take (length (held_by before))) (held_whole window is.front_is) ∙ is.kept

  -- enough was read
  pub reading_enough : (old now : D) (before window : Window) (count : ℕ) → IsReadingOn g old now before window → count ≤ length window.bytes.items → AllImages g now (HasSeen count window)
  reading_enough old now before window count is some image left = inl (omega (arith, some, ap length (held_whole window is.front_is)))

  -- a piece without a byte: all was read
  pub reading_ended : (old mid new : D) (before window later : Window) (from most n : ℕ) (count : ℕ) → IsReadingOn g old mid before window → later.done ≡ window.done
      → place_of later ≡ place_of window → limit_of later ≡ limit_of window → from ≡ place_of window + length window.bytes.items → (most ≡ 0 → limit_of window ≤ from) → n ≡ 0
      → AllImages g new (λ image. (later.bytes.items ≡ window.bytes.items ++ take n (drop from image)) × (n ≡ min most (length image - from)))
      → AllImages g new (g.images mid) → AllImages g old (IsSeen before) → AllImages g new (HasSeen count later)
  reading_ended old mid new before window later from most n count is done place limit at end none piece fewer seen image left =
      let one = piece image left in
      let all = seen_all (place_of window) (limit_of window) from n most window.bytes.items later.bytes.items image (is.seen seen image (fewer image left)) at end one.0 one.1 none in
      inr (held_whole later (done ∙ is.front_is) ∙ all ∙ (λ i. bytes_between (sym place i) (sym limit i) image))
