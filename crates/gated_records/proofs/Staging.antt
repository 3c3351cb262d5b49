-- Bytes behind a gate, and then the gate.
use Rattle.std.proofs.Common.{◌≡◌, ◌≢◌, inl, inr, ⊎_elim, ℕ, ◌+◌, ◌<◌, ◌≤◌, List, [], ◌∷◌, ◌++◌, length, take, get_or, Bool, true, false, Option, Some, slice_get, refl, sym, ◌∙◌, subst, arith, length-append, append_assoc}
use Rattle.std.proofs.lemmas.Bool.{cases_eq}
use Rattle.ks_outside.specs.declared.disk.Disk.{Ghosts}
use Rattle.ks_outside.specs.Ranges.{Holds, Torn}
use Rattle.ks_outside.specs.Moments.{Follows}
use Rattle.ks_outside.specs.Images.{AllImages, TornFrom}
use Rattle.gated_records.specs.Areas.{HoldsAt, IsArea, IsWithOrWithout, opened_to}
use Rattle.gated_records.proofs.PlaceLemmas.{byte_of, fits, torn_below, torn_above, held_below, held_above, one_at, join, first_of, within_below}

some_gate : (records : List ℕ) (gate : ℕ) → 0 < length (records ++ gate ∷ [])
some_gate records gate = omega (arith, length-append records (gate ∷ []))

-- the records, a gate that is shut, and behind it whole what is to count
pub record IsStaged (start p : ℕ) (records more image : List ℕ) : Type 0 where
  pub gate : ℕ
  pub closed : gate ≢ 75
  pub front : HoldsAt start (records ++ gate ∷ []) image
  pub behind : HoldsAt (p + 1) (more ++ 0 ∷ []) image

module _ (start p : ℕ) (records more : List ℕ) (place : p ≡ start + length records) where
  gated : (gate : ℕ) → length (records ++ gate ∷ []) ≡ length records + 1
  gated gate = omega (arith, length-append records (gate ∷ []))

  stays : (n : ℕ) (d c : List ℕ) → IsArea start records d → Torn (p + 1) n d c → IsArea start records c
  stays n d c a torn = record {
    gate = a.gate;
    closed = a.closed;
    is = torn_below start (p + 1) n (records ++ a.gate ∷ []) d c (some_gate records a.gate) (omega (arith, gated a.gate, place)) torn a.is;
  }

  staged : (d c : List ℕ) → IsArea start records d → Holds (p + 1) (more ++ 0 ∷ []) d c → IsStaged start p records more c
  staged d c a held = record {
    gate = a.gate;
    closed = a.closed;
    front = held_below start (p + 1) (more ++ 0 ∷ []) (records ++ a.gate ∷ []) d c (some_gate records a.gate) (omega (arith, gated a.gate, place)) held a.is;
    behind = held.range;
  }

  long : (d : List ℕ) (s : IsStaged start p records more d) → p + 1 ≤ length d
  long d s = omega (arith, fits start (records ++ s.gate ∷ []) d (some_gate records s.gate) s.front, gated s.gate, place)

  kept_front : (d c : List ℕ) (s : IsStaged start p records more d) → take (length (take p d)) c ≡ take p d → HoldsAt start records c
  kept_front d c s f =
      within_below start p records d c (omega (arith, long d s, place)) (omega (arith, place)) f (first_of start records (s.gate ∷ []) d s.front)

  counts : (c : List ℕ) → HoldsAt start records c → HoldsAt p (75 ∷ []) c → HoldsAt (p + 1) (more ++ 0 ∷ []) c → IsArea start (records ++ 75 ∷ more) c
  counts c front gate behind =
      let all = join start p records (75 ∷ (more ++ 0 ∷ [])) c place front (join p (p + 1) (75 ∷ []) (more ++ 0 ∷ []) c refl gate behind) in
      record {
        gate = 0;
        closed = λ e. absurd (omega arith);
        is = subst (λ (l : List ℕ). HoldsAt start l c) (sym (append_assoc records (75 ∷ more) (0 ∷ []))) all;
      }

  gate_torn : (d c : List ℕ) → IsStaged start p records more d → Torn p 1 d c → IsWithOrWithout start records more c
  gate_torn d c s torn =
      let byte = get_or c p 0 in
      let front = kept_front d c s torn.front in
      let there = one_at p c (omega (arith, long d s, torn.no_shorter)) in
      elim (cases_eq byte 75) [
        | inl same ↦ inr (counts c front (subst (λ (x : ℕ). HoldsAt p (x ∷ []) c) same there) (torn_above (p + 1) p 1 (more ++ 0 ∷ []) d c (omega arith) torn s.behind))
        | inr shut ↦ inl (record { gate = byte; closed = shut; is = join start p records (byte ∷ []) c place front there })
      ]

  gate_held : (d c : List ℕ) → IsStaged start p records more d → Holds p (75 ∷ []) d c → IsArea start (records ++ 75 ∷ more) c
  gate_held d c s held =
      counts c (kept_front d c s held.front) held.range (held_above (p + 1) p (75 ∷ []) (more ++ 0 ∷ []) d c (omega arith) held s.behind)

  shut : (d : List ℕ) → IsStaged start p records more d → IsArea start records d
  shut d s = record { gate = s.gate; closed = s.closed; is = s.front }

  module _ {D : Type 0} (g : Ghosts D) where
    pub stays_all : (old : D) (n : ℕ) → AllImages g old (IsArea start records) → (c : List ℕ) → TornFrom g old (p + 1) n c → IsArea start records c
    stays_all old n all c torn = stays n torn.0 c (all torn.0 torn.1) torn.2

    pub staged_all : (old mid : D) (piece : List ℕ) → piece ≡ more ++ 0 ∷ [] → AllImages g old (IsArea start records)
        → Follows (Holds (p + 1) piece) (g.images old) (g.images mid) → AllImages g mid (IsStaged start p records more)
    staged_all old mid piece same all follows c left =
        let from = follows c left in
        staged from.0 c (all from.0 from.1) (subst (λ (l : List ℕ). Holds (p + 1) l from.0 c) same from.2)

    pub shut_all : (mid new : D) → AllImages g mid (IsStaged start p records more) → AllImages g new (g.images mid) → AllImages g new (IsArea start records)
    shut_all mid new all fewer c left = shut c (all c (fewer c left))

    pub gate_all : (mid : D) → AllImages g mid (IsStaged start p records more) → (c : List ℕ) → TornFrom g mid p 1 c → IsWithOrWithout start records more c
    gate_all mid all c torn = gate_torn torn.0 c (all torn.0 torn.1) torn.2

    pub counts_all : (mid new : D) → AllImages g mid (IsStaged start p records more) → Follows (Holds p (75 ∷ [])) (g.images mid) (g.images new) → AllImages g new (IsArea start (records ++ 75 ∷ more))
    counts_all mid new all follows c left = let from = follows c left in gate_held from.0 c (all from.0 from.1) from.2

    -- the gate byte tells which
    shut_before : (c : List ℕ) → IsArea start records c → slice_get c p ≡ Some 75 → ⊥
    shut_before c a e =
        let gate = byte_of start p records a.gate [] c place a.is in
        let same : ◌≡◌ {A = Option ℕ} (Some a.gate) (Some 75) = sym gate ∙ e in
        a.closed (cc)

    open_after : (c : List ℕ) → IsArea start (records ++ 75 ∷ more) c → slice_get c p ≡ Some 75
    open_after c a = byte_of start p records 75 (more ++ a.gate ∷ []) c place (subst (λ (l : List ℕ). HoldsAt start l c) (append_assoc records (75 ∷ more) (a.gate ∷ [])) a.is)

    pub settled_all : (new : D) (byte : Option ℕ) (opened : Bool) → AllImages g new (IsWithOrWithout start records more) → AllImages g new (λ c. slice_get c p ≡ byte)
        → (opened ≡ true → byte ≡ Some 75) × (byte ≡ Some 75 → opened ≡ true) → AllImages g new (IsArea start (opened_to opened records more))
    settled_all new byte true all reads test c left =
        ⊎_elim (λ (a : IsArea start records c). absurd (shut_before c a (reads c left ∙ test.0 refl))) (λ a. a) (all c left)
    settled_all new byte false all reads test c left =
        ⊎_elim (λ a. a) (λ (a : IsArea start (records ++ 75 ∷ more) c). absurd (let never : ◌≡◌ {A = Bool} false true = test.1 (sym (reads c left) ∙ open_after c a) in cc)) (all c left)
