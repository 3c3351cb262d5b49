-- What stands outside the places that are written stays.
use Rattle.std.proofs.Common.{inl, inr, ⊎_elim, ℕ, ◌+◌, ◌≤◌, List, length, arith}
use Rattle.ks_outside.specs.declared.disk.Disk.{Ghosts}
use Rattle.ks_outside.specs.Ranges.{Torn}
use Rattle.ks_outside.specs.Images.{AllImages, Passes, TornFrom}
use Rattle.ks_outside.proofs.Joins.{passes_as, passes_on}
use Rattle.gated_records.specs.Areas.{HoldsAt, IsOutside}
use Rattle.gated_records.proofs.PlaceLemmas.{torn_below, torn_above}

-- a range within the place of what is written
pub within : (place : ℕ) (bytes : List ℕ) (at n from m : ℕ) → IsOutside place bytes at n → at ≤ from → from + m ≤ at + n → IsOutside place bytes from m
within place bytes at n from m o below fits = record {
  some = o.some;
  apart = ⊎_elim (λ (k : place + length bytes ≤ at). inl (omega (arith, k, below))) (λ (k : at + n ≤ place). inr (omega (arith, k, fits))) o.apart;
}

torn_outside : (place : ℕ) (bytes : List ℕ) (at n : ℕ) (d c : List ℕ) → IsOutside place bytes at n → Torn at n d c → HoldsAt place bytes d → HoldsAt place bytes c
torn_outside place bytes at n d c o torn h =
    ⊎_elim (λ (k : place + length bytes ≤ at). torn_below place at n bytes d c o.some k torn h) (λ (k : at + n ≤ place). torn_above place at n bytes d c k torn h) o.apart

module _ {D : Type 0} (g : Ghosts D) (place : ℕ) (bytes : List ℕ) where
  -- one write
  pub keeps_torn : (old : D) (at n : ℕ) → IsOutside place bytes at n → AllImages g old (HoldsAt place bytes) → (c : List ℕ) → TornFrom g old at n c → HoldsAt place bytes c
  keeps_torn old at n o all c torn = torn_outside place bytes at n torn.0 c o torn.2 (all torn.0 torn.1)

  pub keeps_one : (old new : D) (at n : ℕ) → IsOutside place bytes at n → AllImages g old (HoldsAt place bytes) → AllImages g new (TornFrom g old at n) → AllImages g new (HoldsAt place bytes)
  keeps_one old new at n o all torn c left = keeps_torn old at n o all c (torn c left)

  pub passes_one : (old new : D) (at n : ℕ) → IsOutside place bytes at n → AllImages g old (HoldsAt place bytes) → Passes g old new (TornFrom g old at n) → Passes g old new (HoldsAt place bytes)
  passes_one old new at n o all passes = passes_as g old new _ (HoldsAt place bytes) passes (keeps_torn old at n o all)

  pub passes_two : (old mid new : D) (at n from m : ℕ) → IsOutside place bytes at n → IsOutside place bytes from m → AllImages g old (HoldsAt place bytes) → AllImages g mid (TornFrom g old at n)
      → Passes g old mid (TornFrom g old at n) → Passes g mid new (TornFrom g mid from m) → Passes g old new (HoldsAt place bytes)
  passes_two old mid new at n from m o p all torn first second =
      passes_on g old mid new _ _ (HoldsAt place bytes) first second (keeps_torn old at n o all) (keeps_torn mid from m p (keeps_one old mid at n o all torn))
