-- The one look-up of a descriptor finds what its four look-ups find, and the key that access gives is the one of that number.
use Rattle.std.proofs.Common.{◌≡◌, ℕ, ◌==◌, List, Option, Some, None, refl, sym, ap, inl, inr}
use Rattle.std.specs.Prelude.{find}
use Rattle.std.specs.Option.{option_and_then, option_map}
use Rattle.std.proofs.lemmas.Bool.{cases_Bool}
use Rattle.tags.specs.declared.descriptor.Descriptor.{Descriptor}
use Rattle.tags.specs.declared.policy.PolicyRow.{PolicyRow}
use Rattle.key_domains.specs.declared.view.KeyRow.{KeyRow}
use Rattle.key_domains.specs.declared.view.GrantedRow.{GrantedRow}
use Rattle.key_domains.specs.Access.{access, by_grant, by_number, found}
use Rattle.key_domains.specs.CallerBits.{app_bits, row_bits}
use Rattle.key_domains.specs.Domains.{domain_app, domain_grant, domain_selinux, domain_blob, domain_key_id}
use Rattle.grants.specs.declared.row.GrantRow.{GrantRow}
use Rattle.grants.specs.Rows.{is_numbered}
use Rattle.journal_records.specs.declared.record.KeyRecord.{KeyRecord}
use Rattle.journal_records.specs.LastingPart.{Lasting}
use Rattle.journal_records.specs.Lookups.{granted_of, key_of_id, key_of_name, numbered_in, row_of, shared_in}
use Rattle.rule_model.specs.Access.{access_of, key_in}
use Rattle.call_answers.specs.Found.{IsFoundAgain, given, key_by_alias, key_for, shared_of, view_for}

-- a map behind a look-up by an alias is a look-up of what it gives
map_then : (f : KeyRecord → KeyRow) (g : List ℕ → Option KeyRecord) (alias : Option (List ℕ)) → option_map f (option_and_then g alias) ≡ option_and_then (λ x. option_map f (g x)) alias
map_then f g None = refl
map_then f g (Some alias) = refl

shared_row : (part : Lasting) (uid : ℕ) (key : Option KeyRecord) → shared_of part uid key ≡ option_and_then (λ (row : KeyRow). shared_in part row.id uid) (option_map row_of key)
shared_row part uid None = refl
shared_row part uid (Some key) = refl

-- access reads of the one look-up what it reads of four
pub same_access : (policy : List PolicyRow) (part : Lasting) (uid : ℕ) (key : Descriptor) → access policy uid key (view_for part uid key) ≡ access_of policy part uid key
same_access policy part uid key =
    elim (cases_Bool (key.domain == domain_app)) [
      | inl app ↦ rw app (ap (λ o. found o (app_bits policy uid)) (map_then row_of (key_of_name part domain_app uid) key.alias))
      | inr no_app ↦ elim (cases_Bool (key.domain == domain_grant)) [
        | inl granted ↦ rw (no_app, granted) refl
        | inr no_grant ↦ elim (cases_Bool (key.domain == domain_selinux)) [
          | inl named ↦ rw (no_app, no_grant, named) (ap (λ o. found o (row_bits policy uid key.nspace)) (map_then row_of (key_of_name part domain_selinux key.nspace) key.alias))
          | inr no_selinux ↦ elim (cases_Bool (key.domain == domain_blob)) [
            | inl handed ↦ rw (no_app, no_grant, no_selinux, handed) refl
            | inr no_blob ↦ elim (cases_Bool (key.domain == domain_key_id)) [
              | inl numbered ↦ rw (no_app, no_grant, no_selinux, no_blob, numbered) (ap (by_number policy uid (numbered_in part key.nspace)) (shared_row part uid (key_of_id part key.nspace)))
              | inr other ↦ rw (no_app, no_grant, no_selinux, no_blob, other) refl
            ]
          ]
        ]
      ]
    ]

-- ---- the key that access gives is that of its number

given_found : (part : Lasting) (key : Option KeyRecord) (bits : ℕ) → IsFoundAgain part key → given (found (option_map row_of key) bits) key ≡ key_in part (found (option_map row_of key) bits)
given_found part None bits again = refl
given_found part (Some key) bits again = sym again

given_named : (part : Lasting) (domain nspace bits : ℕ) (alias : Option (List ℕ)) → IsFoundAgain part (key_by_alias part domain nspace alias)
    → given (found (option_and_then (λ a. option_map row_of (key_of_name part domain nspace a)) alias) bits) (key_by_alias part domain nspace alias)
    ≡ key_in part (found (option_and_then (λ a. option_map row_of (key_of_name part domain nspace a)) alias) bits)
given_named part domain nspace bits None again = refl
given_named part domain nspace bits (Some alias) again = given_found part (key_of_name part domain nspace alias) bits again

given_number : (policy : List PolicyRow) (part : Lasting) (uid : ℕ) (key : Option KeyRecord) (shared : Option ℕ) → IsFoundAgain part key
    → given (by_number policy uid (option_map row_of key) shared) key ≡ key_in part (by_number policy uid (option_map row_of key) shared)
given_number policy part uid None shared again = refl
given_number policy part uid (Some key) shared again = sym again

abbrev granted_row : GrantRow → KeyRow → GrantedRow
granted_row row key = record { key = key; uid = row.uid; bits = row.bits }

given_row : (policy : List PolicyRow) (part : Lasting) (uid : ℕ) (row : GrantRow) (key : Option KeyRecord) → IsFoundAgain part key
    → given (by_grant policy uid (option_map (λ (held : KeyRow). granted_row row held) (option_map row_of key))) key
    ≡ key_in part (by_grant policy uid (option_map (λ (held : KeyRow). granted_row row held) (option_map row_of key)))
given_row policy part uid row None again = refl
given_row policy part uid row (Some key) again = elim (cases_Bool (row.uid == uid)) [ inl own ↦ rw own (sym again) | inr other ↦ rw other refl ]

given_grant : (policy : List PolicyRow) (part : Lasting) (uid : ℕ) (row : Option GrantRow) → IsFoundAgain part (option_and_then (λ (held : GrantRow). key_of_id part held.key) row)
    → given (by_grant policy uid (option_and_then (granted_of part) row)) (option_and_then (λ (held : GrantRow). key_of_id part held.key) row)
    ≡ key_in part (by_grant policy uid (option_and_then (granted_of part) row))
given_grant policy part uid None again = refl
given_grant policy part uid (Some row) again = given_row policy part uid row (key_of_id part row.key) again

pub same_key : (policy : List PolicyRow) (part : Lasting) (uid : ℕ) (key : Descriptor) → IsFoundAgain part (key_for part uid key)
    → given (access_of policy part uid key) (key_for part uid key) ≡ key_in part (access_of policy part uid key)
same_key policy part uid key again =
    elim (cases_Bool (key.domain == domain_app)) [
      | inl app ↦ rw app (given_named part domain_app uid (app_bits policy uid) key.alias (rw app at again))
      | inr no_app ↦ elim (cases_Bool (key.domain == domain_grant)) [
        | inl granted ↦ rw (no_app, granted) (given_grant policy part uid (find (is_numbered key.nspace) part.grants) (rw (no_app, granted) at again))
        | inr no_grant ↦ elim (cases_Bool (key.domain == domain_selinux)) [
          | inl named ↦ rw (no_app, no_grant, named) (given_named part domain_selinux key.nspace (row_bits policy uid key.nspace) key.alias (rw (no_app, no_grant, named) at again))
          | inr no_selinux ↦ elim (cases_Bool (key.domain == domain_blob)) [
            | inl handed ↦ rw (no_app, no_grant, no_selinux, handed) refl
            | inr no_blob ↦ elim (cases_Bool (key.domain == domain_key_id)) [
              | inl numbered ↦ rw (no_app, no_grant, no_selinux, no_blob, numbered) (given_number policy part uid (key_of_id part key.nspace) (option_and_then (λ (row : KeyRow). shared_in part row.id uid) (numbered_in part key.nspace)) (rw (no_app, no_grant, no_selinux, numbered) at again))
              | inr other ↦ rw (no_app, no_grant, no_selinux, no_blob, other) refl
            ]
          ]
        ]
      ]
    ]
