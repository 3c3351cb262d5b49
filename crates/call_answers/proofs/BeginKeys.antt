-- The key of a begin, as the blob that was opened tells it.
use Rattle.std.proofs.Common.{◌≡◌, List, Option, Result, Ok, Err, refl, sym, ap, ◌∙◌}
use Rattle.tags.specs.declared.code.Code.{Code}
use Rattle.tags.specs.declared.descriptor.Descriptor.{Descriptor}
use Rattle.tags.specs.declared.param.Param.{Param}
use Rattle.tags.specs.declared.secrets.DeviceSecrets.{DeviceSecrets}
use Rattle.key_domains.specs.declared.access.Access.{Access}
use Rattle.journal_records.specs.declared.record.KeyRecord.{KeyRecord}
use Rattle.key_blobs.specs.declared.fault.BlobFault.{BlobFault}
use Rattle.key_blobs.specs.declared.fault.BlobFault.TheVariants.{Format, Tag, Root, App, Memory}
use Rattle.key_blobs.specs.declared.sealed.Opened.{Opened}
use Rattle.use_rules.specs.declared.facts.BeginFacts.{BeginFacts}
use Rattle.use_rules.specs.Table as begin_table
use Rattle.keymint_ops.specs.declared.begin.BeginFault.{BeginFault}
use Rattle.keymint_ops.specs.declared.begin.BeginFault.TheVariants as Fault
use Rattle.keymint_ops.specs.Begin.{GivesBegin}
use Rattle.keymint_ops.specs.declared.opening.OpenedKey.{OpenedKey}
use Rattle.keymint_ops.specs.Opening.{opened_key, read_as}
use Rattle.rule_model.specs.Access.{id_of}
use Rattle.rule_model.specs.BeginFacts.{begin_key, blob_for, is_found, limited_by}
use Rattle.rule_model.specs.Blobs.{fits_key, list_read, material_read, opened_for}
use Rattle.call_answers.specs.declared.begins.BeginKey.{BeginKey as OwnKey}
use Rattle.call_answers.specs.Beginning.{GivesAdmitted, IsBeginKey}

list_told : (r : Result Opened BlobFault) → (read_as r).list ≡ list_read r
list_told (Ok x) = refl
list_told (Err Format) = refl
list_told (Err Tag) = refl
list_told (Err Root) = refl
list_told (Err App) = refl
list_told (Err Memory) = refl

fits_told : (r : Result Opened BlobFault) → (read_as r).fits ≡ fits_key r
fits_told (Ok x) = refl
fits_told (Err Format) = refl
fits_told (Err Tag) = refl
fits_told (Err Root) = refl
fits_told (Err App) = refl
fits_told (Err Memory) = refl

material_told : (r : Result Opened BlobFault) → (read_as r).material ≡ material_read r
material_told (Ok x) = refl
material_told (Err Format) = refl
material_told (Err Tag) = refl
material_told (Err Root) = refl
material_told (Err App) = refl
material_told (Err Memory) = refl

-- what keeps an operation from beginning over the facts that were gathered
pub may_not : (fault : BeginFault) (own : OwnKey) (gathered facts : BeginFacts) → gathered ≡ facts → GivesBegin (Err fault) gathered → GivesAdmitted (Err fault) own facts
may_not (Fault.Broken rule code) own gathered facts e told = sym (ap begin_table.answer e) ∙ told
may_not Fault.Memory own gathered facts e told = tt

pub own_key : (device : DeviceSecrets) (access : Access) (stored : Option KeyRecord) (key : Descriptor) (told : Result (List Param) Code) (own : OwnKey)
    → own.opened ≡ opened_key device told (blob_for access stored key) → own.found ≡ is_found access stored → own.id ≡ id_of stored
    → own.limited ≡ limited_by access stored own.opened.list → IsBeginKey own (begin_key device access stored key told)
own_key device access stored key told own opened found id limited =
    let r : Result Opened BlobFault = opened_for device told (blob_for access stored key) in
    let list : own.opened.list ≡ list_read r = ap (λ (k : OpenedKey). k.list) opened ∙ list_told r in
    record {
      found_is = found;
      id_is = id;
      list_is = list;
      fits_is = ap (λ (k : OpenedKey). k.fits) opened ∙ fits_told r;
      material_is = ap (λ (k : OpenedKey). k.material) opened ∙ material_told r;
      limited_is = limited ∙ ap (limited_by access stored) list;
    }
