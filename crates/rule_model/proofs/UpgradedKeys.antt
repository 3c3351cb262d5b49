-- What an upgrade keeps to that the rules let through: its list and its blob are no longer than those of a key.
use Rattle.std.proofs.Common.{◌≡◌, ℕ, ◌≤◌, Bool, true, false, if◌then◌else◌, List, [], ◌∷◌, ◌++◌, length, Result, Err, is_ok, refl, arith}
use Rattle.std.specs.Prelude.{nat_le}
use Rattle.std.proofs.lemmas.Bool.{and_parts, leb-false, leb-true}
use Rattle.tags.specs.declared.code.Code.{Code}
use Rattle.tags.specs.declared.descriptor.Descriptor.{Descriptor}
use Rattle.tags.specs.declared.param.Param.{Param}
use Rattle.tags.specs.declared.rule.Rule.{Rule}
use Rattle.tags.specs.declared.rule.RuleTable.{RuleTable}
use Rattle.tags.specs.declared.rule.RuleTable.TheVariants.{A}
use Rattle.tags.specs.declared.secrets.DeviceSecrets.{DeviceSecrets}
use Rattle.tags.specs.declared.limits.TheConstants.{BLOB_BYTES, KEPT_LIST_BYTES}
use Rattle.tags.specs.Table.{Check, Ruling, first_broken}
use Rattle.tag_lists.specs.Spelling.{spelling}
use Rattle.key_blobs.specs.declared.fault.BlobFault.{BlobFault}
use Rattle.key_blobs.specs.declared.sealed.Opened.{Opened}
use Rattle.key_blobs.specs.Text.{blob_size}
use Rattle.call_rules.specs.declared.facts.KeyCallFacts.{KeyCallFacts}
use Rattle.call_rules.specs.declared.facts.UpgradeFacts.{UpgradeFacts}
use Rattle.key_domains.specs.Forms.{is_in_policy, names_any_key}
use Rattle.call_rules.specs.Rules.{has_room, is_no_newer, upgrade_permission}
use Rattle.call_rules.specs.Table.{key_call_rules, upgrade_key_rules, upgrade_rules}
use Rattle.rule_model.specs.Upgrades.{longer, upgrade_facts, upgraded}

-- a walk goes through a row
through : (holds : Bool) (rest : Ruling) (broken : Rule × Code) → is_ok (if holds then rest else Err broken) ≡ true → is_ok rest ≡ true
through true rest broken e = e
through false rest broken e = cc

-- where none of the rows is broken, none of those behind the first ones is
second_holds : (table : RuleTable) (rows more : List Check) → is_ok (first_broken table (rows ++ more)) ≡ true → is_ok (first_broken table more) ≡ true
second_holds table [] more e = e
second_holds table (row ∷ rows) more e =
    second_holds table rows more (through row.holds (first_broken table (rows ++ more)) (record { table = table; number = row.number }, row.code) e)

last_holds : (read opens same newer room : Bool) (first second third fourth fifth : Rule × Code) (rest : Ruling)
    → is_ok (if read then (if opens then (if same then (if newer then (if room then rest else Err fifth) else Err fourth) else Err third) else Err second) else Err first) ≡ true → room ≡ true
last_holds false opens same newer room first second third fourth fifth rest e = cc
last_holds true false same newer room first second third fourth fifth rest e = cc
last_holds true true false newer room first second third fourth fifth rest e = cc
last_holds true true true false room first second third fourth fifth rest e = cc
last_holds true true true true false first second third fourth fifth rest e = cc
last_holds true true true true true first second third fourth fifth rest e = refl

found_holds : (connected form policy found : Bool) (first second third fourth : Rule × Code) (rest : Ruling)
    → is_ok (if connected then (if form then (if policy then (if found then rest else Err fourth) else Err third) else Err second) else Err first) ≡ true → found ≡ true
found_holds false form policy found first second third fourth rest e = cc
found_holds true false policy found first second third fourth rest e = cc
found_holds true true false found first second third fourth rest e = cc
found_holds true true true false first second third fourth rest e = cc
found_holds true true true true first second third fourth rest e = refl

-- the key is found
pub found_held : (key : Descriptor) (facts : UpgradeFacts) → is_ok (first_broken A (upgrade_key_rules key facts)) ≡ true → facts.call.found ≡ true
found_held key facts e = found_holds facts.call.connected (names_any_key key) (is_in_policy key.domain facts.call.row) facts.call.found _ _ _ _ _ e

-- and its list and its blob are no longer than a key's may be
pub has_room_held : (key : Descriptor) (facts : UpgradeFacts) → is_ok (first_broken A (upgrade_key_rules key facts)) ≡ true → (facts.list ≤ KEPT_LIST_BYTES) × (facts.blob ≤ BLOB_BYTES)
has_room_held key facts e =
    let room : has_room facts ≡ true =
    last_holds (is_ok facts.asked) facts.opens facts.same (is_no_newer facts) (has_room facts) _ _ _ _ _ _
    (second_holds A (key_call_rules (names_any_key key) (upgrade_permission key.domain) key facts.call) (upgrade_rules facts) e) in
    let both = and_parts (nat_le facts.list KEPT_LIST_BYTES) (nat_le facts.blob BLOB_BYTES) room in
    (leb-true facts.list KEPT_LIST_BYTES both.0, leb-true facts.blob BLOB_BYTES both.1)

-- both lengths are within what the longer is within
both_within : (a b most : ℕ) → longer a b ≤ most → (a ≤ most) × (b ≤ most)
both_within a b most few = by_order (nat_le a b) refl few where
  by_order : (first : Bool) → nat_le a b ≡ first → (if first then b else a) ≤ most → (a ≤ most) × (b ≤ most)
  by_order true e within = let less = leb-true a b e in (omega (arith, less, within), within)
  by_order false e within = let more = leb-false a b e in (within, omega (arith, more, within))

-- of an upgrade that the rules let through, whether or not it seals anew
pub record IsFitting (device : DeviceSecrets) (asked : Result (List Param) Code) (given : List ℕ) (opened : Result Opened BlobFault) : Type 0 where
  pub listed : length (spelling (upgraded device asked opened).list) ≤ KEPT_LIST_BYTES
  pub handed : length given ≤ BLOB_BYTES
  pub sized : blob_size (upgraded device asked opened) ≤ BLOB_BYTES

pub upgrade_fits : (device : DeviceSecrets) (call : KeyCallFacts) (key : Descriptor) (asked : Result (List Param) Code) (given : List ℕ) (opened : Result Opened BlobFault)
    → is_ok (first_broken A (upgrade_key_rules key (upgrade_facts device call asked given opened))) ≡ true → IsFitting device asked given opened
upgrade_fits device call key asked given opened e =
    let room = has_room_held key (upgrade_facts device call asked given opened) e in
    let both = both_within (length given) (blob_size (upgraded device asked opened)) BLOB_BYTES room.1 in
    record { listed = room.0; handed = both.0; sized = both.1 }
