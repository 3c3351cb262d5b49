-- The order of names: keys of one owner stand by the bytes of their aliases.
use Rattle.std.proofs.Common.{◌≡◌, ℕ, zero, suc, ◌-◌, ◌≤◌, true, false, ◌&&◌, ◌==◌, List, [], ◌∷◌, ◌++◌, length, take, refl, sym, ap, ◌∙◌, arith, inl, inr}
use Rattle.std.specs.Prelude.{replicate}
use Rattle.std.specs.Ordering.{nat_cmp, is_eq, is_lt, is_gt, ordering_then, ordering_reverse}
use Rattle.std.specs.declared.cmp.Ordering.{Ordering}
use Rattle.std.specs.declared.cmp.Ordering.TheVariants.{Less, Equal, Greater}
use Rattle.std.specs.Cmp.{IsTotalOrder, nat_cmp_is, nat_cmp_total, nat_eq_equiv, on_total, then_total, both_tied}
use Rattle.std.specs.Cmp.Lexicographic.{slice_cmp, nat_list_cmp_total, lists_equiv}
use Rattle.std.specs.Str.{bytes_eq}
use Rattle.std.proofs.lemmas.Bool.{cases_order, eq-eqb, ne_eqb}
use Rattle.std.proofs.lemmas.Map.Text.{is_eq-slice_cmp}
use Rattle.journal_records.specs.declared.record.KeyRecord.{KeyRecord}
use Rattle.journal_records.specs.LastingPart.{is_named}
use Rattle.journal_records.specs.Lookups.{alias_cmp}
use Rattle.key_maps.specs.Names.{Name, owner_cmp, padded_cmp, name_cmp, padded, name_of, is_at_name}
use Rattle.tags.specs.declared.limits.TheConstants.{ALIAS_BYTES}

pub owner_total : IsTotalOrder owner_cmp
owner_total = then_total (on_total (λ (o : ℕ × ℕ). o.0) nat_cmp_total) (on_total (λ (o : ℕ × ℕ). o.1) nat_cmp_total)

pub padded_total : IsTotalOrder padded_cmp
padded_total = then_total (on_total (λ (p : List ℕ × ℕ). p.0) nat_list_cmp_total) (on_total (λ (p : List ℕ × ℕ). p.1) nat_cmp_total)

pub name_total : IsTotalOrder name_cmp
name_total = then_total (on_total (λ (n : Name). n.0) owner_total) (on_total (λ (n : Name). n.1) padded_total)

pub nat_test : (n k : ℕ) → is_eq (nat_cmp n k) ≡ (k == n)
nat_test n k =
    elim (cases_order n k) [
      | inl same ↦ rw (sym (nat_cmp_is n k Equal same), eq-eqb k n (sym same)) refl
      | inr other ↦ elim other [
        | inl below ↦ rw (sym (nat_cmp_is n k Less below), ne_eqb k n (λ e. omega (arith, e, below))) refl
        | inr above ↦ rw (sym (nat_cmp_is n k Greater above), ne_eqb k n (λ e. omega (arith, e, above))) refl
      ]
    ]

nat_cmp_suc : (n k : ℕ) → nat_cmp (suc n) (suc k) ≡ nat_cmp n k
nat_cmp_suc n k =
    elim (cases_order n k) [
      | inl same ↦ sym (nat_cmp_is (suc n) (suc k) Equal (ap suc same)) ∙ nat_cmp_is n k Equal same
      | inr other ↦ elim other [
        | inl below ↦ sym (nat_cmp_is (suc n) (suc k) Less (omega (arith, below))) ∙ nat_cmp_is n k Less below
        | inr above ↦ sym (nat_cmp_is (suc n) (suc k) Greater (omega (arith, above))) ∙ nat_cmp_is n k Greater above
      ]
    ]

-- ---- padding

pad_none : (n : ℕ) → padded (suc n) [] ≡ 0 ∷ padded n []
unfolding padded
pad_none n =
    let more : suc n - 0 ≡ suc n = omega arith in
    let same : n ≡ n - 0 = omega arith in
    ap (λ (k : ℕ). replicate k 0) more ∙ ap (λ (k : ℕ). 0 ∷ replicate k 0) same

pad_more : (n x : ℕ) (alias : List ℕ) → padded (suc n) (x ∷ alias) ≡ x ∷ padded n alias
unfolding padded
pad_more n x alias =
    let same : suc n - suc (length alias) ≡ n - length alias = omega arith in
    ap (λ (k : ℕ). x ∷ (alias ++ replicate k 0)) same

pad_end : padded zero [] ≡ []
unfolding padded
pad_end = refl

-- no bytes, with zeros, are behind nothing
pad_low : (n : ℕ) (alias : List ℕ) → length alias ≤ n → is_gt (slice_cmp nat_cmp (padded n []) (padded n alias)) ≡ false
pad_low zero [] le = rw pad_end refl
pad_low zero (y ∷ alias) le = absurd (omega (arith, le))
pad_low (suc n) [] le = rw (pad_none n) (pad_low n [] (omega arith))
pad_low (suc n) (y ∷ alias) le =
    rw (pad_none n, pad_more n y alias) (elim (cases_order 0 y) [
      | inl same ↦ rw (sym (nat_cmp_is 0 y Equal same)) (pad_low n alias (omega (arith, le)))
      | inr other ↦ elim other [
        | inl below ↦ rw (sym (nat_cmp_is 0 y Less below)) refl
        | inr above ↦ absurd (omega (arith, above))
      ]
    ])

then_less : (o : Ordering) → is_gt o ≡ false → ordering_then o Less ≡ Less
then_less Less e = refl
then_less Equal e = refl
then_less Greater e = absurd cc

abbrev pads_cmp : ℕ → List ℕ → List ℕ → Ordering
pads_cmp n alias other = padded_cmp (padded n alias, length alias) (padded n other, length other)

pads_flip : (n : ℕ) (alias other : List ℕ) → pads_cmp n alias other ≡ ordering_reverse (pads_cmp n other alias)
pads_flip n alias other = padded_total.antisymm (padded n alias, length alias) (padded n other, length other)

low_first : (n y : ℕ) (other : List ℕ) → length (y ∷ other) ≤ n → pads_cmp n [] (y ∷ other) ≡ Less
low_first n y other le =
    let short : nat_cmp 0 (length (y ∷ other)) ≡ Less = sym (nat_cmp_is 0 (length (y ∷ other)) Less (omega arith)) in
    rw short (then_less (slice_cmp nat_cmp (padded n []) (padded n (y ∷ other))) (pad_low n (y ∷ other) le))

both_none : (n : ℕ) → pads_cmp n [] [] ≡ Equal
both_none n = rw (nat_list_same (padded n [])) refl
  where
    nat_list_same : (xs : List ℕ) → slice_cmp nat_cmp xs xs ≡ Equal
    nat_list_same [] = refl
    nat_list_same (x ∷ xs) = rw (sym (nat_cmp_is x x Equal refl)) (nat_list_same xs)

-- the order of padded aliases is that of the aliases
pub pads_are : (n : ℕ) (alias other : List ℕ) → length alias ≤ n → length other ≤ n → pads_cmp n alias other ≡ alias_cmp alias other
pads_are n [] [] le le' = both_none n
pads_are n [] (y ∷ other) le le' = low_first n y other le'
pads_are n (x ∷ alias) [] le le' = pads_flip n (x ∷ alias) [] ∙ ap ordering_reverse (low_first n x alias le)
pads_are zero (x ∷ alias) (y ∷ other) le le' = absurd (omega (arith, le))
pads_are (suc n) (x ∷ alias) (y ∷ other) le le' =
    rw (pad_more n x alias, pad_more n y other, nat_cmp_suc (length alias) (length other))
    (step (nat_cmp x y) (slice_cmp nat_cmp (padded n alias) (padded n other)) (nat_cmp (length alias) (length other)) (alias_cmp alias other)
    (pads_are n alias other (omega (arith, le)) (omega (arith, le'))))
  where
    step : (first a b c : Ordering) → ordering_then a b ≡ c → ordering_then (ordering_then first a) b ≡ ordering_then first c
    step Less a b c e = refl
    step Equal a b c e = e
    step Greater a b c e = refl

-- ---- names

pub named_cmp : (domain nspace : ℕ) (alias other : List ℕ) → length alias ≤ ALIAS_BYTES → length other ≤ ALIAS_BYTES → name_cmp (name_of domain nspace alias) (name_of domain nspace other) ≡ alias_cmp alias other
named_cmp domain nspace alias other le le' =
    rw (sym (nat_cmp_is domain domain Equal refl), sym (nat_cmp_is nspace nspace Equal refl)) (pads_are ALIAS_BYTES alias other le le')

pub owner_test : (domain nspace d n : ℕ) → is_eq (owner_cmp (domain, nspace) (d, n)) ≡ ((d == domain) && (n == nspace))
owner_test domain nspace d n =
    sym (both_tied (d == domain) (n == nspace) (nat_cmp domain d) (nat_cmp nspace n) (sym (nat_test domain d)) (sym (nat_test nspace n)))

pub name_test : (domain nspace : ℕ) (alias : List ℕ) (key : KeyRecord) → length alias ≤ ALIAS_BYTES → length key.alias ≤ ALIAS_BYTES → is_at_name (name_of domain nspace alias) key ≡ is_named domain nspace alias key
name_test domain nspace alias key le le' =
    sym (both_tied ((key.domain == domain) && (key.nspace == nspace)) (bytes_eq key.alias alias)
    (owner_cmp (domain, nspace) (key.domain, key.nspace)) (padded_cmp (padded ALIAS_BYTES alias, length alias) (padded ALIAS_BYTES key.alias, length key.alias))
    (sym (owner_test domain nspace key.domain key.nspace))
    (sym (ap is_eq (pads_are ALIAS_BYTES alias key.alias le le') ∙ is_eq-slice_cmp alias key.alias ∙ (lists_equiv nat_eq_equiv).symm alias key.alias)))

pub name_flips : (name other : Name) → is_eq (name_cmp name other) ≡ is_eq (name_cmp other name)
name_flips name other = ap is_eq (name_total.antisymm name other) ∙ eq_reverse (name_cmp other name)
  where
    eq_reverse : (o : Ordering) → is_eq (ordering_reverse o) ≡ is_eq o
    eq_reverse Less = refl
    eq_reverse Equal = refl
    eq_reverse Greater = refl

pub owner_flips : (owner other : ℕ × ℕ) → is_eq (owner_cmp owner other) ≡ ((owner.0 == other.0) && (owner.1 == other.1))
owner_flips owner other = ap is_eq (owner_total.antisymm owner other) ∙ eq_reverse (owner_cmp other owner) ∙ owner_test other.0 other.1 owner.0 owner.1
  where
    eq_reverse : (o : Ordering) → is_eq (ordering_reverse o) ≡ is_eq o
    eq_reverse Less = refl
    eq_reverse Equal = refl
    eq_reverse Greater = refl

equal_is : (o : Ordering) → is_eq o ≡ true → o ≡ Equal
equal_is Less e = absurd cc
equal_is Equal e = refl
equal_is Greater e = absurd cc

pub name_congr : (name other third : Name) → is_eq (name_cmp name other) ≡ true → name_cmp name third ≡ name_cmp other third
name_congr name other third e = name_total.congr name other third (equal_is (name_cmp name other) e)

-- ---- aliases that are cut

-- a byte string of n bytes at most is behind another exactly where it is behind its first n bytes
pub cut_test : (n : ℕ) (past alias : List ℕ) → length alias ≤ n → is_lt (alias_cmp (take n past) alias) ≡ is_lt (alias_cmp past alias)
cut_test zero [] [] le = refl
cut_test zero (x ∷ past) [] le = refl
cut_test zero past (y ∷ alias) le = absurd (omega (arith, le))
cut_test (suc n) [] alias le = refl
cut_test (suc n) (x ∷ past) [] le = refl
cut_test (suc n) (x ∷ past) (y ∷ alias) le = then_same (nat_cmp x y) (alias_cmp (take n past) alias) (alias_cmp past alias) (cut_test n past alias (omega (arith, le)))
  where
    then_same : (first a b : Ordering) → is_lt a ≡ is_lt b → is_lt (ordering_then first a) ≡ is_lt (ordering_then first b)
    then_same Less a b e = refl
    then_same Equal a b e = e
    then_same Greater a b e = refl
