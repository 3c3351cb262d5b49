-- Bytes hold one list of records at most, or are broken off at one place.
use Rattle.std.proofs.Common.{◌≡◌, ◌≢◌, ℕ, ◌+◌, ◌-◌, ◌≤◌, List, [], ◌∷◌, ◌++◌, length, take, drop, reverse, Option, Some, None, refl, sym, ap, subst, ◌∙◌, append_assoc, arith, length-append, take-append-drop}
use Rattle.std.proofs.lemmas.List.{append-nil, drop-take, reverse-reverse, take-take}
use Rattle.byte_strings.proofs.Fields.{some_is}
use Rattle.journal_records.specs.declared.record.Record.{Record}
use Rattle.journal_records.specs.Spelling.{IsRecord, record_framed, record_tail, spelled}
use Rattle.journal_records.specs.Reading.{record_at}
use Rattle.journal_records.proofs.Bodies.{record_again}
use Rattle.journal_records.proofs.Lists.{all_reverse, last_is}
use Rattle.record_areas.specs.Frames.{AreRecords, HasNoRecord, HasRecords, IsBrokenAt, bytes_between}

-- records, the oldest first
abbrev frames : List Record → List ℕ
frames [] = []
frames (x ∷ xs) = 75 ∷ (record_tail x ++ frames xs)

frames-push : (xs : List Record) (x : Record) → frames (xs ++ x ∷ []) ≡ frames xs ++ record_framed x
frames-push [] x = ap (λ (l : List ℕ). 75 ∷ l) (append-nil (record_tail x))
frames-push (y ∷ xs) x = ap (λ (l : List ℕ). 75 ∷ l) (ap (λ (l : List ℕ). record_tail y ++ l) (frames-push xs x) ∙ sym (append_assoc (record_tail y) (frames xs) (record_framed x)))

spelled_is : (past : List Record) → spelled past ≡ frames (reverse past)
spelled_is [] = refl
spelled_is (x ∷ past) =
    ap (λ (l : List ℕ). l ++ record_framed x) (spelled_is past)
    ∙ sym (frames-push (reverse past) x)
    ∙ ap frames (sym (last_is x past))

-- no record of these kinds stands here
abbrev IsStop : ℕ → List ℕ → Type 0
IsStop kinds left = (x : Record) (rest : List ℕ) → IsRecord kinds x → left ≡ 75 ∷ (record_tail x ++ rest) → ⊥

shut_stops : (kinds gate : ℕ) (rest : List ℕ) → gate ≢ 75 → IsStop kinds (gate ∷ rest)
shut_stops kinds gate rest closed x left fits e = let same : gate ≡ 75 = cc in closed same

broken_stops : (kinds : ℕ) (left : List ℕ) → HasNoRecord kinds left → IsStop kinds left
broken_stops kinds [] broken x rest fits e = absurd cc
broken_stops kinds (gate ∷ left) broken x rest fits e =
    let behind : left ≡ record_tail x ++ rest = cc in
    let found : ◌≡◌ {A = Option (Record × List ℕ)} None (Some (x, rest)) = sym broken.1 ∙ ap (record_at kinds) behind ∙ record_again kinds x rest fits in
    cc

-- records and a stop are read in one way
record IsSame (xs ys : List Record) (l m : List ℕ) : Type 0 where
  lists : xs ≡ ys
  left : l ≡ m

one_list : (kinds : ℕ) (xs ys : List Record) (l m : List ℕ) → AreRecords kinds xs → AreRecords kinds ys → IsStop kinds l → IsStop kinds m → frames xs ++ l ≡ frames ys ++ m → IsSame xs ys l m
one_list kinds [] [] l m a b p q e = record { lists = refl; left = e }
one_list kinds [] (y ∷ ys) l m a b p q e = absurd (p y (frames ys ++ m) b.0 (e ∙ ap (λ (t : List ℕ). 75 ∷ t) (append_assoc (record_tail y) (frames ys) m)))
one_list kinds (x ∷ xs) [] l m a b p q e = absurd (q x (frames xs ++ l) a.0 (sym e ∙ ap (λ (t : List ℕ). 75 ∷ t) (append_assoc (record_tail x) (frames xs) l)))
one_list kinds (x ∷ xs) (y ∷ ys) l m a b p q e =
    let behind : (record_tail x ++ frames xs) ++ l ≡ (record_tail y ++ frames ys) ++ m = cc in
    let apart = sym (append_assoc (record_tail x) (frames xs) l) ∙ behind ∙ append_assoc (record_tail y) (frames ys) m in
    let read : Some (x, frames xs ++ l) ≡ Some (y, frames ys ++ m) = sym (record_again kinds x (frames xs ++ l) a.0) ∙ ap (record_at kinds) apart ∙ record_again kinds y (frames ys ++ m) b.0 in
    let pair = some_is (x, frames xs ++ l) (y, frames ys ++ m) read in
    let rest = one_list kinds xs ys l m a.1 b.1 p q (ap (λ (t : Record × List ℕ). t.1) pair) in
    record { lists = λ i. (pair i).0 ∷ rest.lists i; left = rest.left }

-- what an image has from the start up to the limit: these records, and a stop
record IsRead (start limit kinds : ℕ) (past : List Record) (left image : List ℕ) : Type 0 where
  is : bytes_between start limit image ≡ spelled past ++ left
  fit : AreRecords kinds past
  stop : IsStop kinds left

one_read : (start limit kinds : ℕ) (past later : List Record) (l m image : List ℕ) → IsRead start limit kinds past l image → IsRead start limit kinds later m image → IsSame past later l m
one_read start limit kinds past later l m image a b =
    let left = a.is ∙ ap (λ (t : List ℕ). t ++ l) (spelled_is past) in
    let right = b.is ∙ ap (λ (t : List ℕ). t ++ m) (spelled_is later) in
    let lists = one_list kinds (reverse past) (reverse later) l m (all_reverse (IsRecord kinds) past a.fit) (all_reverse (IsRecord kinds) later b.fit) a.stop b.stop (sym left ∙ right) in
    record { lists = sym (reverse-reverse past) ∙ ap reverse lists.lists ∙ reverse-reverse later; left = lists.left }

-- the first bytes up to the limit
pub taken_between : (start limit n : ℕ) (image : List ℕ) → start + n ≤ limit → take n (bytes_between start limit image) ≡ take n (drop start image)
taken_between start limit n image fits =
    let more : start + (limit - start) ≡ limit = omega (arith, fits) in
    let less : n ≤ limit - start = omega (arith, fits) in
    ap (λ (k : ℕ). take n (drop start (take k image))) (sym more)
    ∙ ap (take n) (drop-take start (limit - start) image)
    ∙ take-take n (limit - start) (drop start image) less

-- the bytes behind the records
abbrev left_of : (start limit : ℕ) (past : List Record) (image : List ℕ) → HasRecords start limit past image → List ℕ
left_of start limit past image h = h.area.gate ∷ drop (length (spelled past ++ h.area.gate ∷ [])) (bytes_between start limit image)

records_read : (start limit kinds : ℕ) (past : List Record) (image : List ℕ) (h : HasRecords start limit past image) → AreRecords kinds past
    → IsRead start limit kinds past (left_of start limit past image h) image
records_read start limit kinds past image h fit =
    let front = spelled past ++ h.area.gate ∷ [] in
    let n = length front in
    let taken : take n (bytes_between start limit image) ≡ front =
    taken_between start limit n image (omega (arith, h.within, length-append (spelled past) (h.area.gate ∷ []))) ∙ h.area.is in
    record {
      is = sym (take-append-drop n (bytes_between start limit image)) ∙ ap (λ (t : List ℕ). t ++ drop n (bytes_between start limit image)) taken
          ∙ append_assoc (spelled past) (h.area.gate ∷ []) (drop n (bytes_between start limit image));
      fit = fit;
      stop = shut_stops kinds h.area.gate _ h.area.closed;
    }

broken_read : (start limit kinds : ℕ) (image : List ℕ) (offset : ℕ) (b : IsBrokenAt start limit kinds image offset) → IsRead start limit kinds b.past b.left image
broken_read start limit kinds image offset b = record { is = b.is; fit = b.records; stop = broken_stops kinds b.left b.broken }

pub same_records : (start limit kinds : ℕ) (past later : List Record) (image : List ℕ) → AreRecords kinds past → AreRecords kinds later
    → HasRecords start limit past image → HasRecords start limit later image → past ≡ later
same_records start limit kinds past later image a b h k =
    let one = one_read start limit kinds past later _ _ image (records_read start limit kinds past image h a) (records_read start limit kinds later image k b) in
    one.lists

pub not_broken : (start limit kinds : ℕ) (past : List Record) (offset : ℕ) (image : List ℕ) → AreRecords kinds past → HasRecords start limit past image
    → IsBrokenAt start limit kinds image offset → ⊥
not_broken start limit kinds past offset image a h b =
    let one = one_read start limit kinds past b.past _ _ image (records_read start limit kinds past image h a) (broken_read start limit kinds image offset b) in
    let none : HasNoRecord kinds (left_of start limit past image h) = subst (HasNoRecord kinds) (sym one.left) b.broken in
    h.area.closed none.0

pub one_place : (start limit kinds : ℕ) (offset other : ℕ) (image : List ℕ) → IsBrokenAt start limit kinds image offset → IsBrokenAt start limit kinds image other → offset ≡ other
one_place start limit kinds offset other image a b =
    let one = one_read start limit kinds a.past b.past _ _ image (broken_read start limit kinds image offset a) (broken_read start limit kinds image other b) in
    a.place ∙ ap (λ (t : List Record). start + length (spelled t)) one.lists ∙ sym b.place
