-- A new key that the rules let through: what its descriptor names, and how long its list, ids and material are.
use Rattle.std.proofs.Common.{◌≡◌, ℕ, ◌+◌, ◌*◌, ◌≤◌, ◌==◌, Bool, true, false, not, ◌&&◌, ◌||◌, if◌then◌else◌, List, [], ◌∷◌, ◌++◌, length, Option, Some, None, Result, Ok, Err, refl, arith}
use Rattle.std.specs.Prelude.{IfSome, is_none, is_ok, is_some, nat_le, unwrap_or}
use Rattle.std.proofs.lemmas.Bool.{and_parts, leb-true}
use Rattle.tags.specs.declared.code.Code.{Code}
use Rattle.tags.specs.declared.descriptor.Descriptor.{Descriptor}
use Rattle.tags.specs.declared.param.Param.{Param}
use Rattle.tags.specs.declared.param.ParamValue.TheVariants.{Number}
use Rattle.tags.specs.declared.rule.Rule.{Rule}
use Rattle.tags.specs.declared.rule.RuleTable.TheVariants.{K}
use Rattle.tags.specs.declared.tag.Tag.{Tag}
use Rattle.tags.specs.declared.tag.Tag.TheVariants.{ApplicationData, ApplicationId, CreationDatetime, KeySize, Origin, OsPatchlevel, OsVersion}
use Rattle.tags.specs.Descriptor.{has_alias, has_alias_in}
use Rattle.tags.specs.Table.{Check, Ruling, first_broken, where_all_hold}
use Rattle.tags.specs.Tag.{type_of}
use Rattle.key_domains.specs.Domains.{domain_blob}
use Rattle.key_domains.specs.Forms.{is_by_alias}
use Rattle.tag_lists.specs.declared.fault.ListFault.{ListFault}
use Rattle.tag_lists.specs.Lookups.{is_of, stands, without}
use Rattle.tag_lists.specs.Order.{shape_of}
use Rattle.tag_lists.specs.Reading.{listed}
use Rattle.tag_lists.specs.Spelling.{spelling}
use Rattle.tag_lists.specs.Versions.{set}
use Rattle.tag_lists.proofs.ReadSizes.{listed_small}
use Rattle.tag_lists.proofs.Sizes.{small_filter, small_with}
use Rattle.key_rules.specs.declared.facts.ImportFacts.{ImportFacts}
use Rattle.key_rules.specs.declared.facts.NewFacts.{NewFacts}
use Rattle.key_rules.specs.Creation.{IsFit, drawn_size, new_key, plan_of}
use Rattle.key_rules.specs.KeptLists.{is_kept, kept, most_bytes, origin, own, set_missing, with_size}
use Rattle.key_rules.specs.Rules.{each_short, has_allowed_size, has_short_ids, list_in, names_algorithm, names_new_key, names_place, read_or_empty, takes_format}
use Rattle.key_rules.specs.Table.{bytes_rules, list_rules, rules_of, wrapping_rules_if}
use Rattle.key_rules.proofs.Ids.{short_id}
use Rattle.key_rules.proofs.Keys.{bits_few, generated_short}
use Rattle.key_rules.proofs.Lengths.{number_bytes}
use Rattle.tags.specs.declared.limits.TheConstants.{LIST_BYTES}

-- ---- the rows that hold

-- a row that does not stop the walk, and what comes behind it
held : (holds : Bool) (rest : Ruling) (broken : Rule × Code) → is_ok (if holds then rest else Err broken) ≡ true → (holds ≡ true) × (is_ok rest ≡ true)
held true rest broken e = (refl, e)
held false rest broken e = cc

-- what comes behind rules that hold
behind : (rules later : List Check) → is_ok (first_broken K (rules ++ later)) ≡ true → is_ok (first_broken K later) ≡ true
behind [] later e = e
behind (rule ∷ rules) later e = behind rules later (held _ _ _ e).1

all_ok : {T : Type 0} (ruling : Ruling) (value : T) → is_ok (where_all_hold ruling value) ≡ true → is_ok ruling ≡ true
all_ok (Ok done) value e = refl
all_ok (Err broken) value e = cc

-- what the rules read of a call that they let through
pub record IsLetThrough (facts : NewFacts) : Type 0 where
  pub named : names_new_key facts.descriptor ≡ true
  pub few : length facts.params ≤ LIST_BYTES
  pub reads : is_ok (listed facts.params) ≡ true
  pub ids : has_short_ids (list_in facts.params) ≡ true
  pub size : has_allowed_size facts.import (list_in facts.params) ≡ true

third_held : (a b c : Bool) (rest : Ruling) (first second third : Rule × Code) → is_ok (if a then (if b then (if c then rest else Err third) else Err second) else Err first) ≡ true → c ≡ true
third_held true true true rest first second third e = refl
third_held true true false rest first second third e = cc
third_held true false c rest first second third e = cc
third_held false b c rest first second third e = cc

size_allowed : (import : Option ImportFacts) (domain : ℕ) (early_ended : Bool) (list : List Param) → is_ok (first_broken K (list_rules import domain early_ended list)) ≡ true → has_allowed_size import list ≡ true
unfolding list_rules
size_allowed import domain early_ended list e = third_held (names_algorithm list) (takes_format import) (has_allowed_size import list) _ _ _ _ e

pub let_through : (facts : NewFacts) → is_ok (new_key facts) ≡ true → IsLetThrough facts
let_through facts e =
    let first = held _ _ _ (all_ok (first_broken K (rules_of facts)) (plan_of facts) e) in
    let second = held _ _ _ first.1 in
    let third = held _ _ _ second.1 in
    let own = bytes_rules facts.params ++ list_rules facts.import facts.descriptor.domain facts.early_ended (list_in facts.params) in
    let short = held _ _ _ (behind (wrapping_rules_if facts.os facts.patch facts.wrapped) own third.1) in
    let reads = held _ _ _ short.1 in
    let ids = held _ _ _ reads.1 in
    record { named = second.0; few = leb-true (length facts.params) LIST_BYTES short.0; reads = reads.0; ids = ids.0; size = size_allowed facts.import facts.descriptor.domain facts.early_ended (list_in facts.params) ids.1 }

-- ---- the name

blob_not : (a b : Bool) → (a || b) ≡ true → b ≡ false → a ≡ true
blob_not true b e none = refl
blob_not false b e none = cc

alias_few : (alias : Option (List ℕ)) → has_alias_in alias ≡ true → length (unwrap_or alias []) ≤ 256
alias_few None e = cc
alias_few (Some alias) e =
    let long = (and_parts (nat_le 1 (length alias)) _ e).1 in
    leb-true (length alias) 256 (and_parts (nat_le (length alias) 256) _ long).0

-- outside BLOB the alias has at most 256 bytes
pub named_short : (key : Descriptor) → names_new_key key ≡ true → (key.domain == domain_blob) ≡ false → length (unwrap_or key.alias []) ≤ 256
named_short key e stored =
    let place : names_place key ≡ true = (and_parts (names_place key) (is_none key.blob) e).0 in
    let both : (is_by_alias key.domain && has_alias key) ≡ true = blob_not (is_by_alias key.domain && has_alias key) (key.domain == domain_blob) place stored in
    alias_few key.alias (and_parts (is_by_alias key.domain) (has_alias key) both).1

-- ---- the kept list

set_few : (tag : Tag) (n : ℕ) (list : List Param) → length (spelling (set tag n list)) ≤ length (spelling list) + most_bytes (shape_of (type_of tag))
set_few tag n list =
    omega (
      arith,
      small_with (record { tag = tag; value = Number n }) (without tag list),
      small_filter (λ q. not (is_of tag q)) list,
      number_bytes tag n,
    )

missing_few : (tag : Tag) (n : ℕ) (list : List Param) → length (spelling (set_missing tag n list)) ≤ length (spelling list) + most_bytes (shape_of (type_of tag))
missing_few tag n list = by_stands (stands tag list) where
  by_stands : (b : Bool) → length (spelling (if b then list else set tag n list)) ≤ length (spelling list) + most_bytes (shape_of (type_of tag))
  by_stands true = omega arith
  by_stands false = set_few tag n list

size_few : (import : Option ImportFacts) (list : List Param) → length (spelling (with_size import list)) ≤ length (spelling list) + 8
size_few None list = omega arith
size_few (Some import) list = missing_few KeySize (8 * import.length) list

kept_few : (import : Option ImportFacts) (wrapped : Bool) (wall os patch : ℕ) (list : List Param) → length (spelling (kept import wrapped wall os patch list)) ≤ length (spelling list) + 44
unfolding kept
kept_few import wrapped wall os patch list =
    let dated : List Param = set_missing CreationDatetime wall (own list) in
    let origined : List Param = set Origin (origin import wrapped) (with_size import dated) in
    omega (
      arith,
      small_filter is_kept list,
      missing_few CreationDatetime wall (own list),
      size_few import dated,
      set_few Origin (origin import wrapped) (with_size import dated),
      set_few OsVersion os origined,
      set_few OsPatchlevel patch (set OsVersion os origined),
    )

read_few : (params : List ℕ) (found : Result (List Param) ListFault) → listed params ≡ found → is_ok found ≡ true → length (spelling (read_or_empty found)) ≤ length params
read_few params (Ok list) is e = listed_small params list is
read_few params (Err fault) is e = cc

list_few : (params : List ℕ) → is_ok (listed params) ≡ true → length (spelling (list_in params)) ≤ length params
unfolding list_in
list_few params reads = read_few params (listed params) refl reads

-- ---- all of it

import_few : (import : Option ImportFacts) (list : List Param) → has_allowed_size import list ≡ true → IfSome import (λ facts. facts.length ≤ 64)
import_few None list size = tt
import_few (Some import) list size = omega (arith, bits_few list (8 * import.length) size)

drawn_few : (import : Option ImportFacts) (list : List Param) → has_allowed_size import list ≡ true → drawn_size import list ≤ 64
drawn_few None list size = generated_short list size
drawn_few (Some import) list size = omega arith

-- a call that the rules let through is fit
pub fit_if_ok : (facts : NewFacts) → is_ok (new_key facts) ≡ true → IsFit facts (plan_of facts)
fit_if_ok facts e =
    let through : IsLetThrough facts = let_through facts e in
    let list : List Param = list_in facts.params in
    let ids = and_parts (each_short ApplicationId list) (each_short ApplicationData list) through.ids in
    record {
      named = through.named;
      short = import_few facts.import list through.size;
      small = record {
        drawn = drawn_few facts.import list through.size;
        listed = omega (arith, kept_few facts.import (is_some facts.wrapped) facts.wall facts.os facts.patch list, list_few facts.params through.reads, through.few);
        id = short_id ApplicationId list ids.0;
        bytes = short_id ApplicationData list ids.1;
      };
    }
