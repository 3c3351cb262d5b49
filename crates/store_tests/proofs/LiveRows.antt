-- A key that is told is live under its number.
use Rattle.std.proofs.Common.{◌≡◌, List, [], ◌∷◌, Bool, Some, refl, ap, inl, inr}
use Rattle.std.specs.Prelude.{find, IsSome}
use Rattle.std.specs.Option.{option_map}
use Rattle.std.proofs.lemmas.Bool.{cases_Bool, eq-eqb}
use Rattle.std.proofs.lemmas.Option.{none-some, same_Some}
use Rattle.journal_records.specs.declared.record.HeldNumbers.{HeldNumbers}
use Rattle.journal_records.specs.declared.record.KeyRecord.{KeyRecord}
use Rattle.journal_records.specs.LastingPart.{has_id}
use Rattle.journal_records.specs.Spelling.{numbers_of}

pub told_is_live : (p : KeyRecord → Bool) (rows : List KeyRecord) (told : HeldNumbers) → option_map numbers_of (find p rows) ≡ Some told → IsSome (find (has_id told.id) rows)
told_is_live p [] told e = absurd (none-some told e)
told_is_live p (key ∷ rows) told e = elim (cases_Bool (p key)) [
  | inl here ↦
      let same : numbers_of key ≡ told = same_Some (numbers_of key) told (rw here at e) in
      rw (eq-eqb key.id told.id (ap (λ (n : HeldNumbers). n.id) same)) refl
  | inr there ↦ elim (cases_Bool (has_id told.id key)) [
    | inl first ↦ rw first refl
    | inr later ↦ rw later (told_is_live p rows told (rw there at e))
  ]
]
