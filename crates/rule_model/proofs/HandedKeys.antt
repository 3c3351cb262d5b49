-- Where a key lies that is found: it is handed in, or stored under a number.
use Rattle.std.proofs.Common.{◌≡◌, ℕ, Bool, true, false, ◌==◌, List, [], Option, Some, None, refl, sym, ap, ◌∙◌, inl, inr}
use Rattle.std.specs.Prelude.{is_none, is_some, unwrap_or}
use Rattle.std.proofs.lemmas.Bool.{cases_Bool, eqb-true}
use Rattle.tags.specs.declared.descriptor.Descriptor.{Descriptor}
use Rattle.tags.specs.declared.policy.PolicyRow.{PolicyRow}
use Rattle.key_domains.specs.declared.access.Access.{Access}
use Rattle.key_domains.specs.declared.access.Access.TheVariants.{Found, Blob, Nothing}
use Rattle.key_domains.specs.declared.view.GrantedRow.{GrantedRow}
use Rattle.key_domains.specs.declared.view.KeyDatabaseView.{KeyDatabaseView}
use Rattle.key_domains.specs.declared.view.KeyRow.{KeyRow}
use Rattle.key_domains.specs.Access.{access, by_grant, by_number, found}
use Rattle.key_domains.specs.Domains.{domain_app, domain_grant, domain_selinux, domain_blob, domain_key_id}
use Rattle.journal_records.specs.declared.record.KeyRecord.{KeyRecord}
use Rattle.journal_records.specs.LastingPart.{Lasting}
use Rattle.rule_model.specs.declared.facts.Caller.{Caller}
use Rattle.rule_model.specs.Access.{access_by, access_of, id_by, id_of, key_in}
use Rattle.rule_model.specs.BeginFacts.{blob_for, is_found}

-- what access gives is a blob that is handed in
abbrev is_handed : Access → Bool
is_handed (Blob bits) = true
is_handed _ = false

found_not : (key : Option KeyRow) (bits : ℕ) → is_handed (found key bits) ≡ false
found_not None bits = refl
found_not (Some key) bits = refl

grant_not : (policy : List PolicyRow) (uid : ℕ) (row : Option GrantedRow) → is_handed (by_grant policy uid row) ≡ false
grant_not policy uid None = refl
grant_not policy uid (Some row) = elim (cases_Bool (row.uid == uid)) [ inl own ↦ rw own refl | inr other ↦ rw other refl ]

number_not : (policy : List PolicyRow) (uid : ℕ) (key : Option KeyRow) (shared : Option ℕ) → is_handed (by_number policy uid key shared) ≡ false
number_not policy uid None shared = refl
number_not policy uid (Some key) shared = refl

-- a number is of one domain
not_blob : (domain other : ℕ) → (domain == other) ≡ true → (other == domain_blob) ≡ false → (domain == domain_blob) ≡ false
not_blob domain other is differs = ap (λ d. d == domain_blob) (eqb-true domain other is) ∙ differs

handed_by : (policy : List PolicyRow) (uid : ℕ) (key : Descriptor) (view : KeyDatabaseView) → is_handed (access policy uid key view) ≡ (key.domain == domain_blob)
handed_by policy uid key view =
    elim (cases_Bool (key.domain == domain_app)) [
      | inl app ↦ rw app (found_not view.named _ ∙ sym (not_blob key.domain domain_app app refl))
      | inr no_app ↦ elim (cases_Bool (key.domain == domain_grant)) [
        | inl granted ↦ rw (no_app, granted) (grant_not policy uid view.granted ∙ sym (not_blob key.domain domain_grant granted refl))
        | inr no_grant ↦ elim (cases_Bool (key.domain == domain_selinux)) [
          | inl named ↦ rw (no_app, no_grant, named) (found_not view.named _ ∙ sym (not_blob key.domain domain_selinux named refl))
          | inr no_selinux ↦ elim (cases_Bool (key.domain == domain_blob)) [
            | inl handed ↦ rw (no_app, no_grant, no_selinux, handed) refl
            | inr no_blob ↦ elim (cases_Bool (key.domain == domain_key_id)) [
              | inl numbered ↦ rw (no_app, no_grant, no_selinux, no_blob, numbered) (number_not policy uid view.numbered view.shared)
              | inr other ↦ rw (no_app, no_grant, no_selinux, no_blob, other) refl
            ]
          ]
        ]
      ]
    ]

some_id : (key : Option KeyRecord) → is_some key ≡ true → false ≡ is_none (id_of key)
some_id None e = cc
some_id (Some key) e = refl

-- what is found is handed in, or stored under a number
lies : (part : Lasting) (access : Access) → is_found access (key_in part access) ≡ true → is_handed access ≡ is_none (id_of (key_in part access))
lies part (Found row bits) e = some_id (key_in part (Found row bits)) e
lies part (Blob bits) e = refl
lies part Nothing e = cc

-- a blob that is handed in is the descriptor's
given_by : (part : Lasting) (access : Access) (key : Descriptor) → is_handed access ≡ true → blob_for access (key_in part access) key ≡ unwrap_or key.blob []
given_by part (Found row bits) key e = cc
given_by part (Blob bits) key e = refl
given_by part Nothing key e = cc

-- what is found in BLOB, and only there, is handed in and has no number
pub record LiesWhere (policy : List PolicyRow) (part : Lasting) (caller : Caller) (key : Descriptor) : Type 0 where
  pub unnumbered : (key.domain == domain_blob) ≡ is_none (id_by policy part caller key)
  pub given : (key.domain == domain_blob) ≡ true → blob_for (access_by policy part caller key) (key_in part (access_by policy part caller key)) key ≡ unwrap_or key.blob []

pub lies_where : (policy : List PolicyRow) (part : Lasting) (caller : Caller) (key : Descriptor) → is_found (access_by policy part caller key) (key_in part (access_by policy part caller key)) ≡ true
    → LiesWhere policy part caller key
lies_where policy part caller key e = by_uid caller.uid refl e where
  by_uid : (uid : Option ℕ) → caller.uid ≡ uid → is_found (access_by policy part caller key) (key_in part (access_by policy part caller key)) ≡ true → LiesWhere policy part caller key
  by_uid None is found = let no : false ≡ true = rw is at found in cc
  by_uid (Some uid) is found = record {
    unnumbered = rw is (sym (handed_by policy uid key _) ∙ lies part (access_of policy part uid key) (rw is at found));
    given = λ handed. rw is (given_by part (access_of policy part uid key) key (handed_by policy uid key _ ∙ handed));
  }
