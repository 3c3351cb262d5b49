-- What formatting leaves.
use Rattle.std.proofs.Common.{ℕ, List, [], ◌∷◌, ◌++◌, Result, Ok, Err, refl, arith}
use Rattle.std.specs.Prelude.{OnOk}
use Rattle.ks_outside.specs.declared.disk.Disk.{Ghosts}
use Rattle.ks_outside.specs.Ranges.{Holds}
use Rattle.ks_outside.specs.Moments.{Follows}
use Rattle.ks_outside.specs.Images.{AllImages, Passes, TornFrom}
use Rattle.ks_outside.proofs.Joins.{passes_as, passes_on}
use Rattle.disk_calls.proofs.PlaceLemmas.{torn_none}
use Rattle.gated_records.proofs.PlaceLemmas.{first_of, held_above}
use Rattle.journal_compact.specs.declared.places.Selected.TheVariants.{A}
use Rattle.journal_compact.specs.declared.places.TheConstants.{AREA_A, SELECTOR}
use Rattle.journal_compact.specs.Holding.{ReformedFrom}
use Rattle.journal_compact.specs.Stores.{IsAreas, frame_of, front}
use Rattle.journal_compact.specs.Turning.{seal}

-- what is written at the front
abbrev pub fresh : List ℕ
fresh = front 50 ++ seal

-- the three writes, one behind the other, leave an empty store
pub formed : (old emptied selected new : List ℕ) → Holds AREA_A (0 ∷ []) old emptied → Holds SELECTOR (65 ∷ []) emptied selected → Holds 0 fresh selected new → IsAreas [] new
formed old emptied selected new first second third = record {
  frame = frame_of A 50 65;
  is_frame = record { selected = A; of = record { version = 50; newer = λ e. absurd (omega (arith, e)); selector = 65; selects = refl; is = refl } };
  store = record {
    marked = (first_of 0 (front 50) seal new third.range, (held_above SELECTOR 0 fresh (65 ∷ []) selected new (omega arith) third second.range, tt));
    records = record {
      area = record {
        gate = 0;
        closed = λ e. absurd (omega (arith, e));
        is = held_above AREA_A 0 fresh (0 ∷ []) selected new (omega arith) third (held_above AREA_A SELECTOR (65 ∷ []) (0 ∷ []) emptied selected (omega arith) second first.range);
      };
      within = omega arith;
    };
  };
}

module _ {D : Type 0} (g : Ghosts D) where
  pub formed_all : (old one two new : D) → Follows (Holds AREA_A (0 ∷ [])) (g.images old) (g.images one) → Follows (Holds SELECTOR (65 ∷ [])) (g.images one) (g.images two)
      → Follows (Holds 0 fresh) (g.images two) (g.images new) → AllImages g new (IsAreas [])
  formed_all old one two new first second third c left =
      let s = third c left in
      let e = second s.0 s.1 in
      let b = first e.0 e.1 in
      formed b.0 e.0 s.0 c b.2 e.2 s.2

  pub formed_ok : {T E : Type 0} (old one two new : D) (result : Result T E) → Follows (Holds AREA_A (0 ∷ [])) (g.images old) (g.images one) → Follows (Holds SELECTOR (65 ∷ [])) (g.images one) (g.images two)
      → OnOk result (Follows (Holds 0 fresh) (g.images two) (g.images new)) → OnOk result (AllImages g new (IsAreas []))
  formed_ok old one two new (Ok done) first second third = formed_all old one two new first second third
  formed_ok old one two new (Err fault) first second none = tt

  -- torn in the first range; in the second too; and in all
  pub reform_one : (old : D) (c : List ℕ) → TornFrom g old AREA_A 1 c → ReformedFrom g old c
  reform_one old c torn = (torn.0, torn.1, record { emptied = c; selected = c; first = torn.2; second = torn_none SELECTOR 1 c; third = torn_none 0 13 c })

  pub reform_two : (old one : D) → AllImages g one (TornFrom g old AREA_A 1) → (c : List ℕ) → TornFrom g one SELECTOR 1 c → ReformedFrom g old c
  reform_two old one was c torn =
      let b = was torn.0 torn.1 in
      (b.0, b.1, record { emptied = torn.0; selected = c; first = b.2; second = torn.2; third = torn_none 0 13 c })

  pub reform_three : (old one two : D) → AllImages g one (TornFrom g old AREA_A 1) → AllImages g two (TornFrom g one SELECTOR 1) → (c : List ℕ) → TornFrom g two 0 13 c → ReformedFrom g old c
  reform_three old one two first second c torn =
      let s = second torn.0 torn.1 in
      let b = first s.0 s.1 in
      (b.0, b.1, record { emptied = s.0; selected = torn.0; first = b.2; second = s.2; third = torn.2 })

  -- at each moment
  pub reform_passes_one : (old one : D) → Passes g old one (TornFrom g old AREA_A 1) → Passes g old one (ReformedFrom g old)
  reform_passes_one old one first = passes_as g old one (TornFrom g old AREA_A 1) (ReformedFrom g old) first (reform_one old)

  pub reform_passes_two : (old one two : D) → AllImages g one (TornFrom g old AREA_A 1) → Passes g old one (TornFrom g old AREA_A 1) → Passes g one two (TornFrom g one SELECTOR 1)
      → Passes g old two (ReformedFrom g old)
  reform_passes_two old one two was first second =
      passes_on g old one two (TornFrom g old AREA_A 1) (TornFrom g one SELECTOR 1) (ReformedFrom g old) first second (reform_one old) (reform_two old one was)

  pub reform_passes_three : (old one two new : D) → AllImages g one (TornFrom g old AREA_A 1) → AllImages g two (TornFrom g one SELECTOR 1) → Passes g old one (TornFrom g old AREA_A 1)
      → Passes g one two (TornFrom g one SELECTOR 1) → Passes g two new (TornFrom g two 0 13) → Passes g old new (ReformedFrom g old)
  reform_passes_three old one two new was then first second third =
      passes_on g old two new (ReformedFrom g old) (TornFrom g two 0 13) (ReformedFrom g old) (reform_passes_two old one two was first second) third (λ c is. is) (reform_three old one two was then)
