-- When a tally is that of a log.
use Rattle.std.specs.Prelude.{◌≡◌, ℕ, List, length}
use Rattle.rule_model.specs.Acts.{is_connect, is_disconnect, is_enter, is_leave}
use Rattle.rule_model.specs.Entries.{admits}
use Rattle.service_book.specs.declared.entry.BookEntry.{BookEntry}
use Rattle.service_book.specs.declared.tally.Tally.{Tally}
use Rattle.service_book.specs.Limits.{count, is_of, recorded}

abbrev pub entries_in : Tally → ℕ
entries_in tally = tally.entries

abbrev pub bytes_in : Tally → ℕ
bytes_in tally = tally.bytes

-- a tally has counted the entries of a log
pub record IsTally (log : List BookEntry) (tally : Tally) : Type 0 where
  pub entries : tally.entries ≡ length log
  pub bytes : tally.bytes ≡ recorded log
  pub connects : tally.connects ≡ count (admits is_connect) log
  pub disconnects : tally.disconnects ≡ count (admits is_disconnect) log
  pub enters : tally.enters ≡ count (admits is_enter) log
  pub leaves : tally.leaves ≡ count (is_of is_leave) log
