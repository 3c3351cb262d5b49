-- Records that are gathered behind others, and written.
use Rattle.std.proofs.Common.{◌≡◌, ℕ, suc, ◌+◌, ◌-◌, ◌<◌, ◌≤◌, List, [], ◌∷◌, ◌++◌, length, take, drop, set, refl, sym, ap, ◌∙◌, subst, arith, append_assoc, length-append, length-take}
use Rattle.std.proofs.lemmas.List.{append-nil, length-take-le, take_at, take-append-le, take-take, take_more_set}
use borrow.Rule.Slice.PartMut.{put_mid}
use Rattle.ks_outside.specs.declared.disk.Disk.{Ghosts}
use Rattle.ks_outside.specs.Images.{AllImages, Passes, TornFrom}
use Rattle.ks_outside.specs.Moments.{Follows}
use Rattle.ks_outside.specs.Ranges.{Holds}
use Rattle.ks_outside.proofs.Joins.{passes_none, passes_on}
use Rattle.disk_calls.specs.Ahead.{IsAhead}
use Rattle.disk_calls.proofs.PlaceLemmas.{torn_none, torn_within}
use Rattle.gated_records.specs.Areas.{HoldsAt}
use Rattle.gated_records.proofs.PlaceLemmas.{held_below, join}
use Rattle.journal_records.specs.declared.record.Record.{Record}
use Rattle.journal_records.specs.Spelling.{record_closed, record_framed, spelled}
use Rattle.journal_compact.specs.Gathering.{AllAhead, IsCut, IsGathering}
use Rattle.journal_compact.specs.declared.gathering.Gathered.{Gathered}

-- ---- bytes behind those that are gathered

-- what stands first of bytes, and what was put behind it
pub put_behind : (count n : ℕ) (out given : List ℕ) → count ≤ length out → n ≤ length given → take (count + n) (put_mid count (length out - count) out given) ≡ take count out ++ take n given
put_behind count n out given within few =
    let later : List ℕ = given ++ drop (length out - count) (drop count out) in
    behind (take count out) later n (length-take-le count out within) ∙ ap (λ (l : List ℕ). take count out ++ l) (take-append-le n given (drop (length out - count) (drop count out)) few)
  where
    behind : (front rest : List ℕ) (m : ℕ) → length front ≡ count → take (count + m) (front ++ rest) ≡ front ++ take m rest
    behind front rest m size = ap (λ (k : ℕ). take (k + m) (front ++ rest)) (sym size) ∙ past front rest m
      where
        past : (front rest : List ℕ) (m : ℕ) → take (length front + m) (front ++ rest) ≡ front ++ take m rest
        past [] rest m = let none : 0 + m ≡ m = omega arith in ap (λ (k : ℕ). take k rest) none
        past (x ∷ front) rest m = let one : length (x ∷ front) + m ≡ suc (length front + m) = omega arith in ap (λ (k : ℕ). take k (x ∷ (front ++ rest))) one ∙ ap (λ (l : List ℕ). x ∷ l) (past front rest m)

-- a record without its closing byte
pub framed_of : (it : Record) (given : List ℕ) (n : ℕ) → n ≤ length given → take n given ≡ record_closed it → take (n - 1) given ≡ record_framed it
framed_of it given n few is =
    let long : n ≡ length (record_framed it) + 1 = omega (arith, few, ap length is, length-take n given, length-append (record_framed it) (0 ∷ [])) in
    sym (take-take (n - 1) n given (omega arith)) ∙ ap (λ (l : List ℕ). take (n - 1) l) is ∙ take_at (record_framed it) (0 ∷ []) (n - 1) (omega (arith, long))

-- with it what is gathered has one record more
pub row_behind : (it : Record) (count n : ℕ) (old out given : List ℕ) → count ≤ length out → n ≤ length given → take n given ≡ record_closed it → old ≡ take count out
    → take (count + (n - 1)) (put_mid count (length out - count) out given) ≡ old ++ record_framed it
row_behind it count n old out given within few is same =
    put_behind count (n - 1) out given within (omega (arith, few)) ∙ (λ i. sym same i ++ framed_of it given n few is i)

-- the closing byte behind them
pub with_closed : (count : ℕ) (bytes : List ℕ) → count < length bytes → take (count + 1) (set bytes count 0) ≡ take count bytes ++ 0 ∷ []
with_closed count bytes within = take_more_set bytes count 0 within

-- ---- ahead of a disk

-- bytes, and a piece that was written behind them
with_piece : (at place : ℕ) (written piece old new : List ℕ) → place ≡ at + length written → HoldsAt at written old → Holds place piece old new → HoldsAt at (written ++ piece) new
with_piece at place [] piece old new is held holds = join at place [] piece new is refl holds.range
with_piece at place (x ∷ written) piece old new is held holds =
    join at place (x ∷ written) piece new is (held_below at place piece (x ∷ written) old new (omega arith) (omega (arith, is)) holds held) holds.range

module _ {D : Type 0} (g : Ghosts D) (old mid new : D) (at most : ℕ) where
  -- a write within the range, whatever it answers
  pub torn_more : (place m : ℕ) → at ≤ place → place + m ≤ at + most → AllImages g mid (TornFrom g old at most) → AllImages g new (TornFrom g mid place m) → AllImages g new (TornFrom g old at most)
  torn_more place m begins ends was torn c left =
      let last = torn c left in
      let first = was last.0 last.1 in
      (first.0, first.1, torn_within at most place m first.0 last.0 c begins ends first.2 last.2)

  pub passes_more : (place m : ℕ) → at ≤ place → place + m ≤ at + most → AllImages g mid (TornFrom g old at most) → Passes g old mid (TornFrom g old at most)
      → Passes g mid new (TornFrom g mid place m) → Passes g old new (TornFrom g old at most)
  passes_more place m begins ends was first passes =
      passes_on g old mid new (TornFrom g old at most) (TornFrom g mid place m) (TornFrom g old at most) first passes (λ c torn. torn)
      (λ c last. let from = was last.0 last.1 in (from.0, from.1, torn_within at most place m from.0 last.0 c begins ends from.2 last.2))

  -- what is ahead with a piece more
  pub ahead_more : (place : ℕ) (written piece : List ℕ) → place ≡ at + length written → AllAhead g mid (HoldsAt at written)
      → Follows (Holds place piece) (IsAhead g mid) (IsAhead g new) → AllAhead g new (HoldsAt at (written ++ piece))
  ahead_more place written piece is was follows c now = let from = follows c now in with_piece at place written piece from.0 c is (was from.0 from.1) from.2

  module _ (rows : Gathered) (bytes : List ℕ) (told : List Record) (is : IsGathering g old mid at most rows bytes told) where
    begins : at ≤ rows.place
    begins = omega (arith, is.place)

    ends : rows.place + length (take rows.count bytes) ≤ at + most
    ends = omega (arith, is.within, length-take rows.count bytes)

    pub cut : (m : ℕ) → m ≤ rows.count + 1 → AllImages g new (TornFrom g mid rows.place m) → Passes g mid new (TornFrom g mid rows.place m) → IsCut g old new at most
    cut m few torn passes = record {
      torn = torn_more rows.place m begins (omega (arith, is.within, few)) is.torn torn;
      passes = passes_more rows.place m begins (omega (arith, is.within, few)) is.torn is.passes passes;
    }

    -- they were written
    pub emptied : (later : Gathered) → later.place ≡ rows.place + rows.count → later.count ≡ 0 → rows.count ≤ length bytes
        → Follows (Holds rows.place (take rows.count bytes)) (IsAhead g mid) (IsAhead g new) → AllImages g new (TornFrom g mid rows.place (length (take rows.count bytes)))
        → Passes g mid new (TornFrom g mid rows.place (length (take rows.count bytes))) → IsGathering g old new at most later bytes told
    emptied later moved none within follows torn passes = record {
      written = is.written ++ take rows.count bytes;
      is = is.is ∙ sym (ap (λ (k : ℕ). (is.written ++ take rows.count bytes) ++ take k bytes) none ∙ append-nil (is.written ++ take rows.count bytes));
      place = omega (arith, moved, is.place, length-append is.written (take rows.count bytes), length-take-le rows.count bytes within);
      within = omega (arith, moved, none, is.within);
      ahead = ahead_more rows.place is.written (take rows.count bytes) is.place is.ahead follows;
      torn = torn_more rows.place (length (take rows.count bytes)) begins ends is.torn torn;
      passes = passes_more rows.place (length (take rows.count bytes)) begins ends is.torn is.passes passes;
    }

    -- they were written with the closing byte
    pub closed : (piece : List ℕ) → piece ≡ take rows.count bytes ++ 0 ∷ [] → Follows (Holds rows.place piece) (IsAhead g mid) (IsAhead g new) → AllAhead g new (HoldsAt at (spelled told ++ 0 ∷ []))
    closed piece is_piece follows =
        let all : is.written ++ piece ≡ spelled told ++ 0 ∷ [] =
        ap (λ (l : List ℕ). is.written ++ l) is_piece ∙ sym (append_assoc is.written (take rows.count bytes) (0 ∷ [])) ∙ ap (λ (l : List ℕ). l ++ 0 ∷ []) (sym is.is) in
        subst (λ (l : List ℕ). AllAhead g new (HoldsAt at l)) all (ahead_more rows.place is.written piece is.place is.ahead follows)

-- one record more, which is gathered
pub added : {D : Type 0} (g : Ghosts D) (old now : D) (at most : ℕ) (rows later : Gathered) (bytes more : List ℕ) (told : List Record) (it : Record) → IsGathering g old now at most rows bytes told
    → later.place ≡ rows.place → take later.count more ≡ take rows.count bytes ++ record_framed it → rows.place + later.count < at + most → IsGathering g old now at most later more (it ∷ told)
added g old now at most rows later bytes more told it is same row within = record {
  written = is.written;
  is = ap (λ (l : List ℕ). l ++ record_framed it) is.is ∙ append_assoc is.written (take rows.count bytes) (record_framed it) ∙ ap (λ (l : List ℕ). is.written ++ l) (sym row);
  place = same ∙ is.place;
  within = omega (arith, same, within);
  ahead = is.ahead;
  torn = is.torn;
  passes = is.passes;
}

-- the first one
pub begun : {D : Type 0} (g : Ghosts D) (disk : D) (at most : ℕ) (rows : Gathered) (bytes : List ℕ) (it : Record) → rows.place ≡ at → take rows.count bytes ≡ record_framed it → rows.count < most
    → IsGathering g disk disk at most rows bytes (it ∷ [])
begun g disk at most rows bytes it same row few = record {
  written = [];
  is = sym row;
  place = omega (arith, same);
  within = omega (arith, same, few);
  ahead = λ c now. refl;
  torn = λ c left. (c, left, torn_none at most c);
  passes = passes_none g disk (TornFrom g disk at most);
}
