-- A plain list of places against chains: what a push and an unlink make of both.
use Rattle.std.proofs.Common.{◌≡◌, ◌≢◌, ◌==◌, ℕ, true, false, not, if◌then◌else◌, List, [], ◌∷◌, ◌++◌, map, filter, refl, sym, ap, ◌∙◌, inl, inr}
use Rattle.std.proofs.lemmas.List.{append-nil}
use Rattle.std.proofs.lemmas.Bool.{cases_Bool, eqb-true, eq-eqb, ne_eqb}
use Rattle.slot_chain.specs.Linked.{NoneIs}
use Rattle.slot_chain.specs.Table.{ChainTable, list_in, IsEmpty, IsInNone, IsInOne, Pushes, Unlinks, is_in, without}
use Rattle.library_tests.specs.PlainList.{Agrees, holds, is_at, is_of, place_of, places_of}

abbrev pub Row : Type 0
Row = ℕ × ℕ

-- ---- a place that is in the list, or is not

none_held : (place : ℕ) (rows : List Row) → holds place rows ≡ false → (uid : ℕ) → NoneIs place (places_of uid rows)
none_held place [] h uid = tt
none_held place (r ∷ rs) h uid = elim (cases_Bool (r.1 == place)) [
  | inl e ↦ absurd (let h' : true ≡ false = rw e at h in cc)
  | inr e ↦ (let rest = none_held place rs (rw e at h) uid in elim (cases_Bool (r.0 == uid)) [
    | inl o ↦ rw o ((λ (s : r.1 ≡ place). absurd (let t = eq-eqb r.1 place s in cc)), rest)
    | inr o ↦ rw o rest
  ])
]

in_more : (place uid : ℕ) (r : Row) (rs : List Row) → is_in place (places_of uid rs) ≡ true → (r.1 == place) ≡ false → is_in place (places_of uid (r ∷ rs)) ≡ true
in_more place uid r rs h e = elim (cases_Bool (r.0 == uid)) [
  | inl o ↦ rw (o, e) h
  | inr o ↦ rw o h
]

held_in : (place : ℕ) (rows : List Row) → holds place rows ≡ true → (uid : ℕ) × (is_in place (places_of uid rows) ≡ true)
held_in place [] h = absurd (let h' : false ≡ true = h in cc)
held_in place (r ∷ rs) h = elim (cases_Bool (r.1 == place)) [
  | inl e ↦ (r.0, rw (eq-eqb r.0 r.0 refl, e) refl)
  | inr e ↦ (let rest = held_in place rs (rw e at h) in (rest.0, in_more place rest.0 r rs rest.1 e))
]

pub is_in_none : (chains : ChainTable) (rows : List Row) (place : ℕ) → Agrees chains rows → holds place rows ≡ false → IsInNone chains place
is_in_none chains rows place agrees h uid = rw (agrees uid) (none_held place rows h uid)

pub is_in_one : (chains : ChainTable) (rows : List Row) (place : ℕ) → Agrees chains rows → holds place rows ≡ true → IsInOne chains place
is_in_one chains rows place agrees h = let there = held_in place rows h in (there.0, rw (agrees there.0) there.1)

-- ---- a push

places_append : (uid : ℕ) (rows more : List Row) → places_of uid (rows ++ more) ≡ places_of uid rows ++ places_of uid more
places_append uid [] more = refl
places_append uid (r ∷ rs) more = elim (cases_Bool (r.0 == uid)) [
  | inl o ↦ rw o (ap (λ (l : List ℕ). r.1 ∷ l) (places_append uid rs more))
  | inr o ↦ rw o (places_append uid rs more)
]

one_more : (other uid place : ℕ) (places : List ℕ) → (if other == uid then places ++ place ∷ [] else places) ≡ places ++ places_of other ((uid, place) ∷ [])
one_more other uid place places = elim (cases_Bool (other == uid)) [
  | inl e ↦ rw (e, eq-eqb uid other (sym (eqb-true other uid e))) refl
  | inr e ↦ (let apart : (uid == other) ≡ false = ne_eqb uid other (λ (s : uid ≡ other). let t = eq-eqb other uid (sym s) in cc) in rw (e, apart) (sym (append-nil places)))
]

pub agrees_pushed : (old new : ChainTable) (rows : List Row) (uid place : ℕ) → Agrees old rows → Pushes old new uid place → Agrees new (rows ++ (uid, place) ∷ [])
agrees_pushed old new rows uid place agrees pushes other =
    pushes.lists other ∙ one_more other uid place (list_in old other)
    ∙ ap (λ (l : List ℕ). l ++ places_of other ((uid, place) ∷ [])) (agrees other) ∙ sym (places_append other rows ((uid, place) ∷ []))

-- ---- an unlink

left_out : (uid place : ℕ) (rows : List Row) → without place (places_of uid rows) ≡ places_of uid (filter (λ r. not (is_at place r)) rows)
left_out uid place [] = refl
left_out uid place (r ∷ rs) = elim (cases_Bool (r.0 == uid)) [
  | inl o ↦ elim (cases_Bool (r.1 == place)) [
    | inl e ↦ rw (o, e) (left_out uid place rs)
    | inr e ↦ rw (o, e, o) (ap (λ (l : List ℕ). r.1 ∷ l) (left_out uid place rs))
  ]
  | inr o ↦ elim (cases_Bool (r.1 == place)) [
    | inl e ↦ rw (o, e) (left_out uid place rs)
    | inr e ↦ rw (o, e, o) (left_out uid place rs)
  ]
]

pub agrees_unlinked : (old new : ChainTable) (rows : List Row) (place : ℕ) → Agrees old rows → Unlinks old new place → Agrees new (filter (λ r. not (is_at place r)) rows)
agrees_unlinked old new rows place agrees unlinks uid = unlinks.lists uid ∙ ap (without place) (agrees uid) ∙ left_out uid place rows

-- ---- none

pub agrees_empty : (chains : ChainTable) (count : ℕ) → IsEmpty chains count → Agrees chains []
agrees_empty chains count empty uid = empty.lists uid
