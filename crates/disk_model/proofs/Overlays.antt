-- Pages, byte by byte.
use Rattle.std.proofs.Common.{◌≡◌, inl, inr, ⊎_elim, ℕ, zero, suc, ◌+◌, ◌/◌, ◌%◌, ◌<◌, ◌≤◌, List, length, get_or, set, replicate, false, if◌then◌else◌, refl, sym, ap, ◌∙◌, subst, arith, Option, Some, None}
use Rattle.std.specs.Prelude.{is_some, ◌==◌}
use Rattle.std.proofs.lemmas.Bool.{cases_eq}
use Rattle.std.proofs.lemmas.List.{get_or-set_other}
use Rattle.std.proofs.lemmas.Grind.{get_or-set_at}
use Rattle.std.proofs.lemmas.Bool.Decides.{eqb_tells}
use Rattle.disk_model.specs.declared.pages.Page.{Page}
use Rattle.disk_model.specs.Pages.{byte_of, Overlaid}

blank_byte : (n i : ℕ) → ◌≡◌ {A = ℕ} (get_or (replicate n 0) i 0) 0
blank_byte zero i = refl
blank_byte (suc n) zero = refl
blank_byte (suc n) (suc i) = blank_byte n i

absent_byte : (page : Option Page) (offset : ℕ) → is_some page ≡ false → byte_of page offset ≡ 0
absent_byte None offset absent = refl
absent_byte (Some page) offset absent = absurd (cc)

-- a page that is held from now on, all 00, changes no byte
pub added_page : (old new : ℕ → Option Page) (number : ℕ) (page : Page) → page.bytes ≡ replicate 4096 0 → is_some (old number) ≡ false
    → ((other : ℕ) → new other ≡ (if number == other then Some page else old other))
    → (place : ℕ) → byte_of (new (place / 4096)) (place % 4096) ≡ byte_of (old (place / 4096)) (place % 4096)
added_page old new number page blank absent is place = elim (eqb_tells number (place / 4096)) [
  | inl same ↦
      rw (is (place / 4096), same.0, blank) (blank_byte 4096 (place % 4096)
      ∙ sym (absent_byte (old (place / 4096)) (place % 4096) (subst (λ n. is_some (old n) ≡ false) same.1 absent)))
  | inr other ↦ rw (is (place / 4096), other.0) refl
]

pub overlaid_none : (bytes : ℕ → ℕ) (at : ℕ) (piece : List ℕ) → Overlaid bytes bytes at 0 piece
overlaid_none bytes at piece = record { inside = λ i below. absurd (omega (arith, below)); outside = λ place there. refl }

-- one more byte of the piece
pub overlaid_more : (before mid now : ℕ → ℕ) (at n byte : ℕ) (piece : List ℕ) → Overlaid before mid at n piece → byte ≡ get_or piece n 0
    → ((other : ℕ) → now other ≡ (if other == at + n then byte else mid other)) → Overlaid before now at (n + 1) piece
overlaid_more before mid now at n byte piece o is set = record {
  inside = λ i below. elim (eqb_tells (at + i) (at + n)) [
    | inl same ↦ let here : i ≡ n = omega (arith, same.1) in rw (set (at + i), same.0) (is ∙ ap (λ k. get_or piece k 0) (sym here))
    | inr other ↦ rw (set (at + i), other.0) (o.inside i (omega (arith, below, other.1)))
  ];
  outside = λ place there. elim (eqb_tells place (at + n)) [
    | inl same ↦ absurd (omega (arith, there, same.1))
    | inr other ↦ rw (set place, other.0) (o.outside place (⊎_elim (λ (k : place < at). inl k) (λ (k : at + (n + 1) ≤ place). inr (omega (arith, k))) there))
  ];
}

-- one more byte that was read
pub read_more : (source : ℕ → ℕ) (at i byte : ℕ) (out : List ℕ) → ((j : ℕ) → j < i → get_or out j 0 ≡ source (at + j)) → i < length out → byte ≡ source (at + i)
    → (j : ℕ) → j < i + 1 → get_or (set out i byte) j 0 ≡ source (at + j)
read_more source at i byte out before within is j below = elim (cases_eq j i) [
  | inl same ↦ get_or-set_at out i j byte 0 same within ∙ is ∙ ap (λ k. source (at + k)) (sym same)
  | inr other ↦ get_or-set_other out i j byte 0 other ∙ before j (omega (arith, below, other))
]
