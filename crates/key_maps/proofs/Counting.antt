-- The map of counts after a change of one count.
use Rattle.std.proofs.Common.{◌≡◌, ℕ, ◌+◌, ◌-◌, ◌≤◌, Bool, true, ◌&&◌, ◌==◌, if◌then◌else◌, List, [], ◌∷◌, length, Option, Some, None, refl, ap, ◌∙◌, arith, inl, inr}
use Rattle.std.specs.Prelude.{unwrap_or}
use Rattle.std.specs.List.{filter}
use Rattle.std.specs.Map.{values_of}
use Rattle.std.specs.BTreeMap.{BTreeMap, UpdatesBy}
use Rattle.std.proofs.lemmas.Bool.{cases_Bool, and_parts, eqb-true}
use Rattle.journal_records.specs.declared.record.KeyRecord.{KeyRecord}
use Rattle.key_maps.specs.Names.{owner_cmp}
use Rattle.key_maps.specs.Maps.{counted}
use Rattle.key_maps.proofs.NameOrder.{owner_flips}

abbrev Counts : Type 0
Counts = BTreeMap (ℕ × ℕ) ℕ

abbrev same : ℕ × ℕ → ℕ → ℕ → Bool
same owner domain nspace = (owner.0 == domain) && (owner.1 == nspace)

counted_after : (old new : Counts) (owner : ℕ × ℕ) (count : Option ℕ) (domain nspace : ℕ) → UpdatesBy owner_cmp (owner_cmp owner) old new count → counted new domain nspace ≡ (if same owner domain nspace then unwrap_or count 0 else counted old domain nspace)
counted_after old new owner count domain nspace update =
    ap (λ found. unwrap_or found 0) (update.0 (domain, nspace)) ∙ rw (owner_flips owner (domain, nspace))
    (elim (cases_Bool (same owner domain nspace)) [ inl here ↦ rw here refl | inr other ↦ rw other refl ])

counted_here : (old : Counts) (owner : ℕ × ℕ) (domain nspace : ℕ) → same owner domain nspace ≡ true → counted old owner.0 owner.1 ≡ counted old domain nspace
counted_here old owner domain nspace here =
    let parts = and_parts (owner.0 == domain) (owner.1 == nspace) here in
    ap (λ d. counted old d owner.1) (eqb-true owner.0 domain parts.0) ∙ ap (λ n. counted old domain n) (eqb-true owner.1 nspace parts.1)

pub raised : (old new : Counts) (owner : ℕ × ℕ) (count : ℕ) → count ≡ counted old owner.0 owner.1 → UpdatesBy owner_cmp (owner_cmp owner) old new (Some (count + 1)) → (domain nspace : ℕ) → counted new domain nspace ≡ counted old domain nspace + (if same owner domain nspace then 1 else 0)
raised old new owner count is update domain nspace =
    counted_after old new owner (Some (count + 1)) domain nspace update ∙ elim (cases_Bool (same owner domain nspace)) [
      | inl here ↦ rw here (omega (arith, is, counted_here old owner domain nspace here))
      | inr other ↦ rw other (omega arith)
    ]

pub lowered : (old new : Counts) (owner : ℕ × ℕ) (count : ℕ) → count ≡ counted old owner.0 owner.1 → UpdatesBy owner_cmp (owner_cmp owner) old new (Some (count - 1)) → (domain nspace : ℕ) → counted new domain nspace ≡ counted old domain nspace - (if same owner domain nspace then 1 else 0)
lowered old new owner count is update domain nspace =
    counted_after old new owner (Some (count - 1)) domain nspace update ∙ elim (cases_Bool (same owner domain nspace)) [
      | inl here ↦ rw here (omega (arith, is, counted_here old owner domain nspace here))
      | inr other ↦ rw other (omega arith)
    ]

pub lowered_out : (old new : Counts) (owner : ℕ × ℕ) (count : ℕ) → count ≡ counted old owner.0 owner.1 → count ≤ 1 → UpdatesBy owner_cmp (owner_cmp owner) old new None → (domain nspace : ℕ) → counted new domain nspace ≡ counted old domain nspace - (if same owner domain nspace then 1 else 0)
lowered_out old new owner count is le update domain nspace =
    counted_after old new owner None domain nspace update ∙ elim (cases_Bool (same owner domain nspace)) [
      | inl here ↦ rw here (omega (arith, is, le, counted_here old owner domain nspace here))
      | inr other ↦ rw other (omega arith)
    ]

pub filter_le : (p : KeyRecord → Bool) (rows : List KeyRecord) → length (filter p rows) ≤ length rows
filter_le p [] = omega arith
filter_le p (key ∷ rows) = elim (cases_Bool (p key)) [ inl here ↦ rw here (omega (arith, filter_le p rows)) | inr other ↦ rw other (omega (arith, filter_le p rows)) ]

pub length_values : {K X : Type 0} (entries : List (K × X)) → length (values_of entries) ≡ length entries
length_values [] = refl
length_values (entry ∷ entries) = omega (arith, length_values entries)
