-- The numbers of keys and of grants rise.
use Rattle.std.proofs.Common.{◌<◌, ℕ, List, [], ◌∷◌}
use Rattle.grants.specs.Rows.{IsTable}
use Rattle.grants.specs.declared.row.GrantRow.{GrantRow}
use Rattle.grants.specs.Rows as grant_rows
use Rattle.grants.proofs.Finding.{all_more}
use Rattle.journal_records.specs.declared.record.KeyRecord.{KeyRecord}
use Rattle.key_maps.specs.Maps.{id_of}
use Rattle.key_maps.specs.Rows.{AreRows, IsBefore}
use Rattle.lasting_table.proofs.Lockstep.{Rise}

pub keys_rise : (rows : List KeyRecord) → AreRows rows → Rise id_of rows
keys_rise [] t = tt
keys_rise (key ∷ rows) t = (all_more (IsBefore key) (λ later. key.id < later.id) (λ later before. before.0) rows t.1, keys_rise rows t.2)

abbrev pub grant_of : GrantRow → ℕ
grant_of row = row.grant

pub grants_rise : (rows : List GrantRow) → IsTable rows → Rise grant_of rows
grants_rise [] t = tt
grants_rise (row ∷ rows) t = (all_more (grant_rows.IsBefore row) (λ later. row.grant < later.grant) (λ later before. before.0) rows t.0, grants_rise rows t.1)
