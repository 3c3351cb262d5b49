-- A text that is written in pieces.
use Rattle.std.proofs.Common.{◌≡◌, ℕ, ◌+◌, ◌≤◌, List, ◌++◌, length, false, refl, sym, ap, ◌∙◌, subst, arith, length-append}
use Rattle.ks_outside.specs.declared.disk.Disk.{Ghosts}
use Rattle.ks_outside.specs.Ranges.{Holds}
use Rattle.ks_outside.specs.Moments.{Follows}
use Rattle.ks_outside.specs.Images.{AllImages, Passes, TornFrom, Goes}
use Rattle.disk_calls.specs.Ahead.{IsAhead}
use Rattle.ks_outside.proofs.Joins.{passes_none, passes_on}
use Rattle.ks_outside.proofs.Goings.{goes_none, goes_on}
use Rattle.disk_calls.proofs.PlaceLemmas.{holds_on, torn_within, torn_none}

-- The rest of a text, to be written at a place, is all that is wanting: with it what is ahead is what was at the start, with the whole text. What
-- came so far is an image of the start torn in the text's range.
pub record IsUnderway {D : Type 0} (g : Ghosts D) (old now : D) (at place : ℕ) (bytes rest : List ℕ) : Type 0 where
  pub begins : at ≤ place
  pub ends : place + length rest ≡ at + length bytes
  pub ahead : (c later : List ℕ) → IsAhead g now c → Holds place rest c later → (b : List ℕ) × IsAhead g old b × Holds at bytes b later
  pub torn : AllImages g now (TornFrom g old at (length bytes))
  pub passes : Passes g old now (TornFrom g old at (length bytes))
  pub goes : Goes g old now false

module _ {D : Type 0} (g : Ghosts D) where
  pub underway_none : (disk : D) (at : ℕ) (bytes : List ℕ) → IsUnderway g disk disk at at bytes bytes
  underway_none disk at bytes = record {
    begins = omega arith;
    ends = refl;
    ahead = λ c later is held. (c, is, held);
    torn = λ c left. (c, left, torn_none at (length bytes) c);
    passes = passes_none g disk (TornFrom g disk at (length bytes));
    goes = goes_none g disk;
  }

  -- a write at the place, of as many bytes as are wanting or fewer, whatever it answers
  pub torn_more : (old mid new : D) (at place m : ℕ) (bytes rest : List ℕ) → IsUnderway g old mid at place bytes rest → m ≤ length rest
      → AllImages g new (TornFrom g mid place m) → AllImages g new (TornFrom g old at (length bytes))
  torn_more old mid new at place m bytes rest is fits torn c left =
      let last = torn c left in
      let first = is.torn last.0 last.1 in
      (first.0, first.1, torn_within at (length bytes) place m first.0 last.0 c is.begins (omega (arith, is.ends, fits)) first.2 last.2)

  pub passes_more : (old mid new : D) (at place m : ℕ) (bytes rest : List ℕ) → IsUnderway g old mid at place bytes rest → m ≤ length rest
      → Passes g mid new (TornFrom g mid place m) → Passes g old new (TornFrom g old at (length bytes))
  passes_more old mid new at place m bytes rest is fits passes =
      passes_on g old mid new (TornFrom g old at (length bytes)) (TornFrom g mid place m) (TornFrom g old at (length bytes)) is.passes passes (λ c was. was)
      (λ c last. let first = is.torn last.0 last.1 in
      (first.0, first.1, torn_within at (length bytes) place m first.0 last.0 c is.begins (omega (arith, is.ends, fits)) first.2 last.2))

  -- a piece more, and the rest behind it
  pub underway_on : (old mid new : D) (at place next : ℕ) (bytes rest piece later : List ℕ) → IsUnderway g old mid at place bytes rest
      → piece ++ later ≡ rest → next ≡ place + length piece → Follows (Holds place piece) (IsAhead g mid) (IsAhead g new)
      → AllImages g new (TornFrom g mid place (length piece)) → Passes g mid new (TornFrom g mid place (length piece)) → Goes g mid new false
      → IsUnderway g old new at next bytes later
  underway_on old mid new at place next bytes rest piece later is cut moved follows torn passes goes =
      let size : length piece + length later ≡ length rest = sym (length-append piece later) ∙ ap length cut in
      record {
        begins = omega (arith, is.begins, moved);
        ends = omega (arith, is.ends, moved, size);
        ahead = λ c end now held.
            let from = follows c now in
            is.ahead from.0 end from.1 (subst (λ (l : List ℕ). Holds place l from.0 end) cut (holds_on place next piece later from.0 c end moved from.2 held));
        torn = torn_more old mid new at place (length piece) bytes rest is (omega (arith, size)) torn;
        passes = passes_more old mid new at place (length piece) bytes rest is (omega (arith, size)) passes;
        goes = goes_on g old mid new false is.goes goes;
      }

  -- the last piece
  pub underway_end : (old mid new : D) (at place : ℕ) (bytes rest : List ℕ) → IsUnderway g old mid at place bytes rest
      → Follows (Holds place rest) (IsAhead g mid) (IsAhead g new) → Follows (Holds at bytes) (IsAhead g old) (IsAhead g new)
  underway_end old mid new at place bytes rest is follows c now = let from = follows c now in is.ahead from.0 c from.1 from.2
