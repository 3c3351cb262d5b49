-- What one write of a link does to the three arrays of numbers that it is made of.
use Rattle.std.proofs.Common.{◌≡◌, ◌<◌, ◌==◌, ℕ, zero, suc, List, [], ◌∷◌, map, length, get_or, refl, sym, ap, ◌∙◌, inl, inr}
use Rattle.std.proofs.Math.ListN.{set}
use Rattle.std.proofs.lemmas.List.{length-map, map-set, get_or-set_same, get_or-set_other, set-get_or, get_or-map, length-set}
use Rattle.std.proofs.lemmas.Bool.{cases_Bool, eqb-true, eq-eqb}
use Rattle.slot_chain.specs.declared.links.ChainLink.{ChainLink}
use Rattle.slot_chain.specs.Linked.{Puts, blank, owner_of, before_of, after_of, owners, befores, afters}

puts_set : (ns : List ℕ) (place number : ℕ) → place < length ns → Puts ns (set ns place number) place number
puts_set ns place number within other = elim (cases_Bool (other == place)) [
  | inl e ↦ rw e (ap (λ (k : ℕ). get_or (set ns place number) k 0) (eqb-true other place e) ∙ get_or-set_same ns place number 0 within)
  | inr e ↦ rw e (get_or-set_other ns place other number 0 (λ (s : other ≡ place). let t = eq-eqb other place s in cc))
]

module _ (field : ChainLink → ℕ) (links : List ChainLink) (place : ℕ) (link : ChainLink) (within : place < length links) where
  pub written : Puts (map field links) (map field (set links place link)) place (field link)
  written other = ap (λ (l : List ℕ). get_or l other 0) (map-set field links place link) ∙ puts_set (map field links) place (field link) (rw (length-map links field) within) other

  pub same_size : length (map field (set links place link)) ≡ length (map field links)
  same_size = length-map (set links place link) field ∙ length-set links place link ∙ sym (length-map links field)

  -- a field that is written as it was
  pub unwritten : (d : ChainLink) → field link ≡ field (get_or links place d) → map field (set links place link) ≡ map field links
  unwritten d same = map-set field links place link ∙ ap (set (map field links) place) (same ∙ sym (get_or-map field links place d 0 within)) ∙ set-get_or (map field links) place 0

-- ---- what is read

read_by : (field : ChainLink → ℕ) → field blank ≡ 0 → (links : List ChainLink) (i : ℕ) → get_or (map field links) i 0 ≡ field (get_or links i blank)
read_by field none [] i = sym none
read_by field none (k ∷ ks) zero = refl
read_by field none (k ∷ ks) (suc i) = read_by field none ks i

pub owner_read : (links : List ChainLink) (i : ℕ) → get_or (owners links) i 0 ≡ owner_of (get_or links i blank)
owner_read = read_by owner_of refl

pub before_read : (links : List ChainLink) (i : ℕ) → get_or (befores links) i 0 ≡ before_of (get_or links i blank)
before_read = read_by before_of refl

pub after_read : (links : List ChainLink) (i : ℕ) → get_or (afters links) i 0 ≡ after_of (get_or links i blank)
after_read = read_by after_of refl
