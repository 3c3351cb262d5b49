-- What a look-up tells of a test of all, and of one of any.
use Rattle.std.proofs.Common.{◌≡◌, ℕ, ◌-◌, ◌≤◌, Bool, true, false, not, List, [], ◌∷◌, Option, Some, None, Bor, refl, arith, inl, inr}
use Rattle.std.specs.Prelude.{find, is_some, nat_lt}
use Rattle.std.specs.Option.{option_copied}
use Rattle.std.specs.List.{list_all, list_any}
use Rattle.std.proofs.lemmas.Bool.{cases_Bool, cases_lt, le-ltb, lt-ltb}
use Rattle.journal_records.specs.declared.record.KeyRecord.{KeyRecord}
use Rattle.key_maps.specs.Rows.{is_past}

pub any_is_found : {X : Type 0} (p : X → Bool) (xs : List X) → list_any p xs ≡ is_some (find p xs)
any_is_found p [] = refl
any_is_found p (x ∷ xs) = elim (cases_Bool (p x)) [ inl passes ↦ rw passes refl | inr fails ↦ rw fails (any_is_found p xs) ]

pub copied_some : {X : Type 0} (o : Option (Bor X)) → is_some (option_copied o) ≡ is_some o
copied_some None = refl
copied_some (Some x) = refl

-- whether nothing is found
pub none_test : {X : Type 0} (found : Option (Bor X)) (none : Bool) → is_some found ≡ not none → none ≡ not (is_some (option_copied found))
none_test None true e = refl
none_test None false e = absurd (cc)
none_test (Some x) true e = absurd (cc)
none_test (Some x) false e = refl

-- ---- numbers below one

pub below_test : (number held : ℕ) → 1 ≤ number → nat_lt held number ≡ not (nat_lt (number - 1) held)
below_test number held some = elim (cases_lt held number) [
  | inl less ↦ rw (lt-ltb held number less, le-ltb (number - 1) held (omega (arith, less))) refl
  | inr more ↦ rw (le-ltb held number more, lt-ltb (number - 1) held (omega (arith, more, some))) refl
]

pub keys_below : (id : ℕ) (rows : List KeyRecord) → 1 ≤ id → list_all (λ key. nat_lt key.id id) rows ≡ not (is_some (find (is_past (Some (id - 1))) rows))
keys_below id [] some = refl
keys_below id (key ∷ rows) some = elim (cases_Bool (nat_lt (id - 1) key.id)) [
  | inl past ↦ rw (past, below_test id key.id some, past) refl
  | inr below ↦ rw (below, below_test id key.id some, below) (keys_below id rows some)
]
