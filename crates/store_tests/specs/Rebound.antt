-- What lasts of a key that is imported anew under one alias: the newest one.
use Rattle.std.specs.Prelude.{ℕ, ◌+◌, [], ◌∷◌}
use Rattle.journal_records.specs.declared.record.KeyRecord.{KeyRecord}
use Rattle.journal_records.specs.LastingPart.{Lasting}

abbrev pub key : ℕ → KeyRecord
key times = record {
  id = times + 1;
  domain = 0;
  nspace = 10001;
  alias = 109 ∷ [];
  blob = 170 ∷ 187 ∷ 204 ∷ [];
  list = 0 ∷ 0 ∷ [];
  limit = 0;
  left = 0;
}

abbrev pub rebound : ℕ → Lasting
rebound times = record { keys = key times ∷ []; grants = []; next_key = times + 2; next_grant = 1 }
