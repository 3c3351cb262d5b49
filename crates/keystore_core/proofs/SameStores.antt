-- A store that stays the same, over one step and over two.
use Rattle.std.proofs.Common.{◌≡◌, refl, ap, ◌∙◌}
use Rattle.journal_compact.specs.Holding.{is_waiting}
use Rattle.key_database.specs.Stands.{SameStore, is_unsettled}
use Rattle.key_database.specs.declared.database.KeyDatabase.{KeyDatabase}

-- the same store has as little waiting
pub same_settled : (old new : KeyDatabase) → SameStore old new → is_unsettled new ≡ is_unsettled old
same_settled old new same = ap is_waiting same.areas_is

pub one_store_same : (database : KeyDatabase) → SameStore database database
one_store_same database = record { lasting_is = refl; areas_is = refl; pending_is = refl }

pub same_twice : (old middle new : KeyDatabase) → SameStore old middle → SameStore middle new → SameStore old new
same_twice old middle new first second = record {
  lasting_is = second.lasting_is ∙ first.lasting_is;
  areas_is = second.areas_is ∙ first.areas_is;
  pending_is = second.pending_is ∙ first.pending_is;
}
