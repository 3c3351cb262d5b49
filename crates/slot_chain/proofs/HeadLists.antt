-- Heads, and the lists that they are of.
use Rattle.std.proofs.Common.{◌≡◌, ◌<◌, ◌-◌, ℕ, List, [], ◌∷◌, map, length, get_or, find, Option, Some, None, refl, sym, ap, ◌∙◌, subst, inl, inr}
use Rattle.std.specs.List.{AllByRecursion}
use Rattle.std.proofs.lemmas.Bool.{cases_Bool, eqb-true}
use Rattle.slot_chain.specs.declared.heads.Head.{Head}
use Rattle.slot_chain.specs.Linked.{AllDiffer, last_of, walk, IsPath, IsOwned, IsHead, has_uid, rest_of, found_places, list_of}
use Rattle.slot_chain.specs.Table.{seen, list_in, is_of, row_of, places_in}
use Rattle.slot_chain.proofs.Paths.{walk_path}

-- ---- a head from its path

pub rest_is : (after before : List ℕ) (head : Head) (qs : List ℕ) → IsPath after before head.oldest qs → length qs ≡ head.count - 1 → rest_of after head ≡ qs
rest_is after before head qs path long = ap (λ (n : ℕ). walk after n (get_or after head.oldest 0)) (sym long) ∙ walk_path after before head.oldest qs path

pub head_of_path : (after before owner : List ℕ) (head : Head) (qs : List ℕ) → 0 < head.count → IsPath after before head.oldest qs → length qs ≡ head.count - 1
    → IsOwned owner head.uid (head.oldest ∷ qs) → AllDiffer (head.oldest ∷ qs) → last_of head.oldest qs ≡ head.newest → IsHead after before owner head
head_of_path after before owner head qs some path long owned differ newest =
    let is : qs ≡ rest_of after head = sym (rest_is after before head qs path long) in
    record {
      some = some;
      path = subst (IsPath after before head.oldest) is path;
      owned = subst (λ (l : List ℕ). IsOwned owner head.uid (head.oldest ∷ l)) is owned;
      differ = subst (λ (l : List ℕ). AllDiffer (head.oldest ∷ l)) is differ;
      newest = subst (λ (l : List ℕ). last_of head.oldest l ≡ head.newest) is newest;
    }

-- ---- heads in their list

-- the head that is found is linked, and of that uid
pub record IsFound (after before owner : List ℕ) (uid : ℕ) (head : Head) : Type 0 where
  pub head_is : IsHead after before owner head
  pub uid_is : head.uid ≡ uid

pub found_is : (after before owner : List ℕ) (uid : ℕ) (heads : List Head) (head : Head) → AllByRecursion (IsHead after before owner) heads → find (has_uid uid) heads ≡ Some head → IsFound after before owner uid head
found_is after before owner uid [] head all e = absurd (let no : ◌≡◌ {A = Option Head} None (Some head) = e in cc)
found_is after before owner uid (k ∷ ks) head all e = elim (cases_Bool (has_uid uid k)) [
  | inl b ↦ (let same : k ≡ head = (let s : Some k ≡ Some head = rw b at e in cc) in
      record { head_is = subst (IsHead after before owner) same all.0; uid_is = subst (λ (h : Head). h.uid ≡ uid) same (eqb-true k.uid uid b) })
  | inr b ↦ found_is after before owner uid ks head all.1 (rw b at e)
]

-- ---- what contracts see

row_found : (after : List ℕ) (uid : ℕ) (heads : List Head) → places_in (find (is_of uid) (map (row_of after) heads)) ≡ found_places after (find (has_uid uid) heads)
row_found after uid [] = refl
row_found after uid (k ∷ ks) = elim (cases_Bool (has_uid uid k)) [
  | inl e ↦ rw e refl
  | inr e ↦ rw e (row_found after uid ks)
]

pub list_seen : (after : List ℕ) (heads : List Head) (uid : ℕ) → list_in (seen after heads) uid ≡ list_of after heads uid
list_seen after heads uid = row_found after uid heads
