-- A listing that grows by one entry after another.
use Rattle.std.proofs.Common.{◌≡◌, ℕ, zero, suc, ◌-◌, ◌<◌, List, [], ◌∷◌, ◌++◌, length, length-append, Option, Some, None, refl, sym, ap, ◌∙◌, append_assoc, arith}
use Rattle.std.proofs.lemmas.List.{append-nil}
use Rattle.journal_records.specs.declared.record.KeyRecord.{KeyRecord}
use Rattle.journal_records.specs.LastingPart.{Lasting}
use Rattle.journal_records.specs.Lookups.{next_key}
use Rattle.rule_model.specs.Listing.{listed_from}
use Rattle.tags.specs.declared.limits.TheConstants.{LISTED}

module _ (part : Lasting) (domain nspace : ℕ) where
  more_from : (most : ℕ) (past : Option (List ℕ)) (key : KeyRecord) → next_key part domain nspace past ≡ Some key
      → listed_from (suc most) part domain nspace past ≡ (key.alias, key.id) ∷ listed_from most part domain nspace (Some key.alias)
  unfolding listed_from
  more_from most past key next = rw next refl

  zero_from : (past : Option (List ℕ)) → listed_from 0 part domain nspace past ≡ []
  unfolding listed_from
  zero_from past = refl

  none_from : (most : ℕ) (past : Option (List ℕ)) → next_key part domain nspace past ≡ None → listed_from most part domain nspace past ≡ []
  unfolding listed_from
  none_from zero past next = refl
  none_from (suc most) past next = rw next refl

  pub listed_more : (done : List (List ℕ × ℕ)) (past : Option (List ℕ)) (key : KeyRecord) → length done < LISTED → next_key part domain nspace past ≡ Some key
      → (done ++ (key.alias, key.id) ∷ []) ++ listed_from (LISTED - length (done ++ (key.alias, key.id) ∷ [])) part domain nspace (Some key.alias)
      ≡ done ++ listed_from (LISTED - length done) part domain nspace past
  listed_more done past key few next =
      let longer = length-append done ((key.alias, key.id) ∷ []) in
      let left : LISTED - length done ≡ suc (LISTED - length (done ++ (key.alias, key.id) ∷ [])) = omega (arith, few, longer) in
      append_assoc done ((key.alias, key.id) ∷ []) (listed_from (LISTED - length (done ++ (key.alias, key.id) ∷ [])) part domain nspace (Some key.alias))
      ∙ ap (λ rest. done ++ rest) (sym (ap (λ most. listed_from most part domain nspace past) left ∙ more_from (LISTED - length (done ++ (key.alias, key.id) ∷ [])) past key next))

  pub listed_no_more : (done : List (List ℕ × ℕ)) (past : Option (List ℕ)) → next_key part domain nspace past ≡ None
      → done ≡ done ++ listed_from (LISTED - length done) part domain nspace past
  listed_no_more done past next = sym (append-nil done) ∙ ap (λ rest. done ++ rest) (sym (none_from (LISTED - length done) past next))

  pub listed_full : (done : List (List ℕ × ℕ)) (past : Option (List ℕ)) → (length done < LISTED → ⊥) → done ≡ done ++ listed_from (LISTED - length done) part domain nspace past
  listed_full done past full =
      let none : LISTED - length done ≡ 0 = omega (arith, full) in
      sym (append-nil done) ∙ ap (λ rest. done ++ rest) (sym (ap (λ most. listed_from most part domain nspace past) none ∙ zero_from past))
